use Rattle.std.proofs.Common.{◌≡◌, length, map, sym, ap, ◌∙◌}
use Rattle.std.specs.List.{zip}
use Rattle.key_index_parts.specs.Pairs.{grouped, room_of, room_for}
use Rattle.key_index_parts.proofs.pairs.DrainLemmas.{values_drained}
use Rattle.key_index_parts.proofs.index.partitioned.ordered.partition.Partition.drain_runs.Goals as goal

pub fill_runs-requires : goal.fill_runs-requires
fill_runs-requires g c =
    let vs = c.self.inside.values.items in
    let room : map room_of c.in-Ok.runs.items ≡ map room_for (grouped g.K.Ord.cmp (zip c.self.inside.keys.items vs)) =
    c.in-Ok.ensures vs (ap (λ l. length l) c.as_slice.ensures.value ∙ c.self.invariant.sized) ∙ ap (λ l. map room_for (grouped g.K.Ord.cmp (zip l vs))) c.as_slice.ensures.value in
    (grouped g.K.Ord.cmp (zip c.self.inside.keys.items vs), room, values_drained g.met.K.Ord.total c.self.invariant ∙ ap (λ v. v.items) (sym c.replace.ensures.value))

pub returns-clause-runs : goal.returns-clause-runs
returns-clause-runs g c =
    let vs = c.self.inside.values.items in
    let room : map room_of c.in-Ok.runs.items ≡ map room_for (grouped g.K.Ord.cmp (zip c.self.inside.keys.items vs)) =
    c.in-Ok.ensures vs (ap (λ l. length l) c.as_slice.ensures.value ∙ c.self.invariant.sized) ∙ ap (λ l. map room_for (grouped g.K.Ord.cmp (zip l vs))) c.as_slice.ensures.value in
    c.fill_runs.ensures (grouped g.K.Ord.cmp (zip c.self.inside.keys.items vs)) room (values_drained g.met.K.Ord.total c.self.invariant ∙ ap (λ v. v.items) (sym c.replace.ensures.value))
    ∙ ap (λ s. grouped g.K.Ord.cmp s.pairs) c.self.view_is
