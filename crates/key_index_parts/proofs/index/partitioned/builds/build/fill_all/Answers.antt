use Rattle.std.proofs.Common.{◌<◌, ◌≤◌, ◌+◌, ◌++◌, [], ◌∷◌, length, get_or, sym, ap, subst, ◌∙◌, arith}
use Rattle.std.specs.Prelude.{slice_index}
use Rattle.std.specs.Vec.Iter.{into_iter_items}
use Rattle.std.proofs.lemmas.Option.{slice_get-get_or}
use Rattle.key_index_parts.specs.Joined.{is_between}
use Rattle.key_index_parts.specs.Ops.{after_op, op_key}
use Rattle.key_index_parts.specs.Ranges.{number_of}
use Rattle.key_index_parts.proofs.builds.DoneLemmas.{split_more}
use Rattle.key_index_parts.proofs.builds.FillLemmas.{IfErr-IsErrAnd}
use Rattle.key_index_parts.proofs.builds.RangeLemmas.{filled_slot, filled_covers, filled_more, below_more, fills_up}
use Rattle.key_index_parts.specs.laws.RangeLaws.{is_between-within}
use Rattle.key_index_parts.proofs.index.partitioned.builds.build.fill_all.Goals as goal

pub fill-requires : goal.fill-requires
fill-requires g c =
    let cuts = c.args.cuts.now in
    let at = c.place_among-at.result in
    let r = get_or c.ops.ranges at c.index-ranges-at.result in
    let was = c.ops.invariant.filled in
    let long = was.long in
    let within = c.place_among-at.ensures.within in
    let is = was.each at r (slice_get-get_or c.ops.ranges at c.index-ranges-at.result (omega (arith, long, within))) in
    let key = op_key c.in-Some.op in
    filled_covers c.ops.invariant.done (slice_index cuts at) (slice_index cuts (at + 1)) r is ((g.I.Range.Runs.view r).slot key)
    ∙ ap (λ s. is_between (slice_index cuts at) (slice_index cuts (at + 1)) (g.I.Partitioned.partition (s key))) (filled_slot c.ops.invariant.done (slice_index cuts at) (slice_index cuts (at + 1)) r is)
    ∙ ap (λ n. is_between (slice_index cuts at) (slice_index cuts (at + 1)) n) (sym (c.partition_at.ensures.is c.args.index.now))
    ∙ is_between-within (slice_index cuts at) (slice_index cuts (at + 1)) c.partition_at.result c.place_among-at.ensures.low c.place_among-at.ensures.high

pub ops-preserved : goal.ops-preserved
ops-preserved g c =
    let cuts = c.args.cuts.now in
    let at = c.place_among-at.result in
    let op = c.in-Some.op in
    let r = get_or c.ops.ranges at c.index-ranges-at.result in
    let was = c.ops.invariant in
    let long = was.filled.long in
    let within = c.place_among-at.ensures.within in
    let split = c.in-Some.ensures.items in
    let size = ap (λ l. length l) split in
    let known = was.known in
    let len = c.in-Some.ensures.len in
    let number = c.partition_at.ensures.is c.args.index.now in
    record {
      known = omega (arith, size, known, len);
      done = was.done ++ op ∷ [];
      split = split_more was.done (into_iter_items c.ops.rest) (into_iter_items c.next.new.self) c.args.ops.items op split was.split;
      filled = filled_more cuts g.I.Partitioned.partitions c.requires.cuts was.done op c.ops.ranges at r c.fill.new.range within
          (subst (λ n. slice_index cuts at ≤ n) number c.place_among-at.ensures.low) (subst (λ n. n < slice_index cuts (at + 1)) number c.place_among-at.ensures.high)
          (slice_get-get_or c.ops.ranges at c.index-ranges-at.result (omega (arith, long, within)))
          (c.in_ok-fill.ensures.filled ∙ ap (λ first. after_op g.I.Key.Ord.cmp first op (g.I.Range.Runs.view r)) g.met.I.Partitioned.one_end) was.filled;
      below = below_more (number_of g.I.Partitioned.partition (g.I.Runs.view c.args.index.now).slot) g.I.Partitioned.partitions was.done op was.below (subst (λ n. n < g.I.Partitioned.partitions) number c.partition_at.ensures.below);
    }

pub returns-in_err-fill-clause-refused : goal.returns-in_err-fill-clause-refused
returns-in_err-fill-clause-refused g c =
    let at = c.place_among-at.result in
    let r = get_or c.ops.ranges at c.index-ranges-at.result in
    let was = c.ops.invariant in
    let long = was.filled.long in
    let within = c.place_among-at.ensures.within in
    let is = was.filled.each at r (slice_get-get_or c.ops.ranges at c.index-ranges-at.result (omega (arith, long, within))) in
    let a = slice_index c.args.cuts.now at in
    let b = slice_index c.args.cuts.now (at + 1) in
    let goes = ap (λ n. is_between a b n) (sym (c.partition_at.ensures.is c.args.index.now)) ∙ is_between-within a b c.partition_at.result c.place_among-at.ensures.low c.place_among-at.ensures.high in
    let split = ap (λ l. was.done ++ l) (sym c.in-Some.ensures.items) ∙ was.split in
    IfErr-IsErrAnd _ c.from_residual.result c.in_err-fill.field-0.0 c.from_residual.ensures.1
    (fills_up c.args.cuts.now c.args.ops.items (g.I.Runs.view c.args.index.now) c.requires.none at was.done r is (into_iter_items c.next.new.self) c.in-Some.op _ split within goes c.in_err-fill.ensures.refused)
