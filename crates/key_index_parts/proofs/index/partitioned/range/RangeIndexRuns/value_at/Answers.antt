use Rattle.std.proofs.Common.{rules, ◌≡◌, ◌<◌, Some, length, slice_get, subst, sym}
use Rattle.key_index_parts.proofs.buckets.ShiftedLemmas.{held_from, read_from}
use Rattle.key_index_parts.proofs.index.partitioned.range.RangeIndexRuns.value_at.Goals as goal

pub own-requires : goal.own-requires
own-requires g c = (search rules, held_from g.T.Key.Ord.cmp c.args.self.now.offset c.args.self.now.storage.buckets c.args.slot c.args.place c.requires)

pub value_at-requires : goal.value_at-requires
value_at-requires g c =
    let range = c.args.self.now in
    (search rules, subst (λ l. c.args.place < length l) (sym (read_from g.T.Key.Ord.cmp range.offset range.storage.buckets c.own.result c.args.slot c.own.ensures.slot)) c.requires)

pub returns : goal.returns
returns g c =
    let range = c.args.self.now in
    subst (λ l. slice_get l c.args.place ≡ Some c.value_at.result.now) (read_from g.T.Key.Ord.cmp range.offset range.storage.buckets c.own.result c.args.slot c.own.ensures.slot) c.value_at.ensures
