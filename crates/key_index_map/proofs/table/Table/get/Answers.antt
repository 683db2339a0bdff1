use Rattle.std.proofs.Common.{refl, sym, ap, subst, ◌∙◌}
use Rattle.std.specs.Map.{lookup}
use Rattle.std.proofs.lemmas.Option.{slice_get_read}
use Rattle.key_index_map.specs.Table.{IsAt, pairs}
use Rattle.key_index_map.proofs.Cells.{looked_at}
use Rattle.key_index_map.proofs.table.Table.get.Goals as goal

pub returns-in-Some : goal.returns-in-Some
returns-in-Some g c =
    let eq = g.K.PartialEq.eq in
    let k = c.args.key.now in
    let stands = subst (λ x. IsAt eq x c.in-Some.cell k) (sym c.self.view_is) c.in-Some.ensures.found in
    let e = c.get.result.now in
    let at = slice_get_read _ _ c.in-Some.cell e refl stands.within c.get.ensures in
    sym (looked_at g.met.K.Eq.laws c.self.invariant.0 c.in-Some.cell e at stands.holds k (stands.pair e at))
    ∙ ap (λ x. lookup (eq k) (pairs x)) c.self.view_is
