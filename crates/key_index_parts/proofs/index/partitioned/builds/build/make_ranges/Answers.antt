use Rattle.std.proofs.Common.{◌≡◌, ℕ, ◌≤◌, ◌+◌, ◌-◌, length, [], ◌∷◌, ◌++◌, sym, ap, subst, ◌∙◌, arith, length-append}
use Rattle.std.specs.Prelude.{slice_index, Some}
use Rattle.std.specs.List.{slice_get}
use Rattle.key_index_parts.specs.Joined.{is_between}
use Rattle.key_index_parts.specs.Ranges.{IsFilled}
use Rattle.key_index_parts.proofs.builds.RangeLemmas.{cuts_from, filled_none, get_append}
use Rattle.key_index_parts.proofs.index.partitioned.builds.build.make_ranges.Goals as goal

pub new_range-requires : goal.new_range-requires
new_range-requires g c =
    let cuts = c.args.cuts.now in
    let long = c.cuts.invariant.long in
    let lt = c.cuts-test.true in
    let up : slice_index cuts (c.cuts.at - 1) ≤ slice_index cuts c.cuts.at = cuts_from cuts g.I.Partitioned.partitions c.requires (c.cuts.at - 1) c.cuts.at (omega arith) lt in
    let top : slice_index cuts c.cuts.at ≤ slice_index cuts (length cuts - 1) = cuts_from cuts g.I.Partitioned.partitions c.requires c.cuts.at (length cuts - 1) (omega (arith, lt)) (omega (arith, lt)) in
    let ends = c.requires.ends in
    omega (arith, up, top, ends)

pub cuts-preserved : goal.cuts-preserved
cuts-preserved g c =
    let cuts = c.args.cuts.now in
    let at = c.cuts.at in
    let ranges = c.cuts.ranges.items in
    let range = c.in_ok-range.range in
    let long = c.cuts.invariant.long in
    let lt = c.cuts-test.true in
    let items : c.push.new.self.items ≡ ranges ++ range ∷ [] = c.in_ok-push.ensures.items in
    let longer = length-append ranges (range ∷ []) in
    let size : length c.push.new.self.items ≡ length (ranges ++ range ∷ []) = ap (λ l. length l) items in
    let before : at - 1 ≡ length ranges = omega (arith, long) in
    let up : slice_index cuts (at - 1) ≤ slice_index cuts at = cuts_from cuts g.I.Partitioned.partitions c.requires (at - 1) at (omega arith) lt in
    let said = c.in_ok-range.ensures in
    let start = said.offset in
    let count = said.count in
    let from : g.I.Range.PartitionRange.offset range ≡ slice_index cuts (length ranges) = start ∙ ap (λ i. slice_index cuts i) before in
    let sum : g.I.Range.PartitionRange.offset range + g.I.Range.PartitionRange.count range ≡ slice_index cuts at = omega (arith, start, count, up) in
    let to : g.I.Range.PartitionRange.offset range + g.I.Range.PartitionRange.count range ≡ slice_index cuts (length ranges + 1) = sum ∙ ap (λ i. slice_index cuts i) (sym long) in
    let P : ℕ → g.row.I-Range.Denot → Type 0 = λ i r. IsFilled {R = g.row.I-Range.Denot} {K = g.row.I-Key.Denot} {V = g.row.I-Value.Denot} g.I.Key.Ord.cmp g.I.Unordered.INSERT_FIRST g.I.Range.Runs.view (g.I.Runs.view c.args.index.now).slot g.I.Partitioned.partition [] (slice_index cuts i) (slice_index cuts (i + 1)) r in
    let last : P (length ranges) range = filled_none (slice_index cuts (length ranges)) (slice_index cuts (length ranges + 1)) range said.slots (λ k. g.met.I.Partitioned.covered range k ∙ (λ i. is_between (from i) (to i) (g.I.Partitioned.partition k))) said.empty said.pruned in
    record {
      within = omega (arith, lt);
      long = omega (arith, size, longer, long);
      each = λ i r e. get_append P ranges range c.cuts.invariant.each last i r (subst (λ l. slice_get l i ≡ Some r) items e);
    }
