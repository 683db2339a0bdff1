use Rattle.std.proofs.Common.{◌≡◌, ◌+◌, None, Some, length, slice_get, ap, sym, subst, ◌∙◌, arith}
use Rattle.std.specs.Map.{lookup}
use Rattle.key_index_map.proofs.Between.{none_differ}
use Rattle.key_index_flat.specs.Storage.{Sets}
use Rattle.key_index_flat.proofs.content.KeyLemmas.{Sets_by_eq}
use Rattle.key_index_flat.proofs.content.PairLemmas.{lookup-value_of}
use Rattle.key_index_flat.proofs.index.storage.small_map.Pairs.spill.Goals as goal

pub add-requires : goal.add-requires
add-requires g c =
    let eq = g.K.PartialEq.eq in
    let key = c.args.key in
    c.move_into.ensures.values key ∙ ap (λ l. lookup (eq key) l) c.self.view_is ∙ lookup-value_of eq g.K.Ord.cmp g.met.K.Ord.matches_eq c.args.self.now key ∙ c.requires

pub returns-clause-sets : goal.returns-clause-sets
returns-clause-sets g c =
    let eq = g.K.PartialEq.eq in
    let u = c.in-Ok-add.ensures.updates in
    subst (λ l. Sets g.K.Ord.cmp c.args.self.now l c.args.key (Some c.args.value)) (sym c.in-Some.ensures.some)
    (Sets_by_eq eq g.K.Ord.cmp g.met.K.Ord.matches_eq g.met.K.Ord.total c.args.self.now c.add.new.self.entries c.args.key (Some c.args.value)
    (record { at = u.at; others = λ q not. u.others q not ∙ c.move_into.ensures.values q ∙ ap (λ l. lookup (eq q) l) c.self.view_is }))

pub returns-clause-len : goal.returns-clause-len
returns-clause-len g c = ap length c.in-Some.ensures.some ∙ c.in-Ok-add.ensures.len ∙ ap (λ n. n + 1) (c.move_into.ensures.len ∙ ap length c.self.view_is)

pub invariant_of-self : goal.invariant_of-self
invariant_of-self g c =
    let none = c.move_into.ensures.moved in
    (omega (arith, ap length none), none_differ g.K.PartialEq.eq c.move_into.new.pairs.items none, λ i e below at. let past : Some e ≡ None = sym at ∙ ap (λ l. slice_get l i) none in cc)
