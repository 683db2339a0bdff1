use Rattle.std.proofs.Common.{suc, ◌<◌, ◌≤◌, length, refl, ap, arith}
use Rattle.std.proofs.lemmas.List.Edits.{length-remove}
use Rattle.std.proofs.lemmas.Option.{slice_get_read}
use Rattle.key_index_parts.proofs.pairs.SearchLemmas.{IsSorted-remove_range}
use Rattle.key_index_parts.proofs.pairs.ZipLemmas.{length-zip, values_of-zip, zip-remove}
use Rattle.key_index_parts.proofs.index.partitioned.ordered.partition.Partition.remove.Goals as goal

pub remove-requires : goal.remove-requires
remove-requires g c = omega (arith, length-zip _ _ c.self.invariant.sized, ap (λ s. length s.pairs) c.self.view_is)

pub invariant_of-self : goal.invariant_of-self
invariant_of-self g c =
    let key_place : c.args.place < length c.self.inside.keys.items = omega (arith, length-zip _ _ c.self.invariant.sized, ap (λ s. length s.pairs) c.self.view_is) in
    let value_place : c.args.place < length c.self.inside.values.items = omega (arith, c.self.invariant.sized, key_place) in
    let next : c.args.place ≤ suc c.args.place = omega arith in
    rw (c.remove.ensures.items, c.remove-2.ensures.items) record {
      sized = omega (arith, c.self.invariant.sized, length-remove c.self.inside.keys.items c.args.place key_place, length-remove c.self.inside.values.items c.args.place value_place);
      sorted = IsSorted-remove_range g.met.K.Ord.total _ c.args.place (suc c.args.place) next c.self.invariant.sorted;
    }

pub returns-clause-value : goal.returns-clause-value
returns-clause-value g c =
    let value_place : c.args.place < length c.self.inside.values.items = omega (arith, c.self.invariant.sized, length-zip _ _ c.self.invariant.sized, ap (λ s. length s.pairs) c.self.view_is) in
    rw (← c.self.view_is, values_of-zip _ _ c.self.invariant.sized) (slice_get_read _ _ _ _ refl value_place c.remove-2.ensures.value)

pub returns-clause-pairs : goal.returns-clause-pairs
returns-clause-pairs g c =
    rw (c.remove.ensures.items, c.remove-2.ensures.items, ← c.self.view_is)
    (zip-remove c.self.inside.keys.items c.self.inside.values.items c.self.invariant.sized c.args.place)
