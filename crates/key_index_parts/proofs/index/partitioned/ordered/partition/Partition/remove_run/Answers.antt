use Rattle.std.proofs.Common.{◌≡◌, ◌≤◌, ◌+◌, ◌-◌, length, sym, ap, subst, ◌∙◌, arith}
use Rattle.std.specs.List.{remove_range}
use Rattle.std.specs.List.Sorted.{IsSorted}
use Rattle.std.specs.Map.{keys_of}
use Rattle.std.proofs.lemmas.Map.Made.{keys_of-zip}
use Rattle.key_index_parts.proofs.pairs.SearchLemmas.{IsSorted-remove_range}
use Rattle.key_index_parts.proofs.pairs.ZipLemmas.{length-zip, zip-remove_range, length-remove_range}
use Rattle.key_index_parts.proofs.pairs.RunLemmas.{run_within}
use Rattle.key_index_parts.proofs.index.partitioned.ordered.partition.Partition.remove_run.Given.{Over}
use Rattle.key_index_parts.proofs.index.partitioned.ordered.partition.Partition.remove_run.Goals.{After-self}
use Rattle.key_index_parts.proofs.index.partitioned.ordered.partition.Partition.remove_run.Goals as goal

-- the run ends at a key, or behind the last
range_end_within : (g : Over) (c : After-self g) → c.args.range.end ≤ length c.self.inside.keys.items
range_end_within g c =
    let keys = sym (keys_of-zip _ _ (sym c.self.invariant.sized)) ∙ ap (λ s. keys_of s.pairs) c.self.view_is in
    omega (arith, length-zip _ _ c.self.invariant.sized, ap (λ s. length s.pairs) c.self.view_is, run_within g.met.K.Ord.total (subst (λ ks. IsSorted g.K.Ord.cmp ks) keys c.self.invariant.sorted) c.requires.1)

remove_range_left : (g : Over) (c : After-self g) → let start = c.args.range.start in let end = c.args.range.end in
    (start ≤ end) × (length (remove_range c.self.inside.keys.items start end) + (end - start) ≡ length c.self.inside.keys.items)
    × (length (remove_range c.self.inside.values.items start end) + (end - start) ≡ length c.self.inside.values.items)
remove_range_left g c =
    let order : c.args.range.start ≤ c.args.range.end = omega (arith, c.requires.1.upto) in
    (order, length-remove_range _ _ _ order (range_end_within g c), length-remove_range _ _ _ order (omega (arith, range_end_within g c, c.self.invariant.sized)))

pub take_out-requires-clause-within : goal.take_out-requires-clause-within
take_out-requires-clause-within g c = range_end_within g (goal.at.take_out-requires-clause-within g c).After-self

pub take_out-requires-2-clause-within : goal.take_out-requires-2-clause-within
take_out-requires-2-clause-within g c = let within = range_end_within g (goal.at.take_out-requires-2-clause-within g c).After-self in omega (arith, within, c.self.invariant.sized)

pub invariant_of-self : goal.invariant_of-self
invariant_of-self g c =
    let less = remove_range_left g (goal.at.invariant_of-self g c).After-self in
    rw (c.take_out.ensures.items, c.take_out-2.ensures.items) record {
      sized = omega (arith, c.self.invariant.sized, less);
      sorted = IsSorted-remove_range g.met.K.Ord.total c.self.inside.keys.items c.args.range.start c.args.range.end less.0 c.self.invariant.sorted;
    }

pub returns-clause-pairs : goal.returns-clause-pairs
returns-clause-pairs g c =
    rw (c.take_out.ensures.items, c.take_out-2.ensures.items, ← c.self.view_is)
    (zip-remove_range c.self.inside.keys.items c.self.inside.values.items c.self.invariant.sized c.args.range.start c.args.range.end)

pub returns-clause-room : goal.returns-clause-room
returns-clause-room g c =
    let less = remove_range_left g (goal.at.returns-clause-room g c).After-self in
    omega (arith, less, ap (λ s. s.room) c.self.view_is, ap length c.take_out.ensures.items, ap length c.take_out-2.ensures.items, c.take_out.ensures.capacity, c.take_out-2.ensures.capacity)
