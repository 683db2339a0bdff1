use Rattle.std.proofs.Common.{length, ap, sym, ◌∙◌}
use Rattle.key_index_parts.proofs.buckets.ShiftedLemmas.{below_from, read_from}
use Rattle.key_index_parts.proofs.index.partitioned.range.RangeIndexRuns.run_len.Goals as goal

pub returns-then-slot-self : goal.returns-then-slot-self
returns-then-slot-self g c =
    let range = c.args.self.now in
    ap (λ l. length l) (sym (below_from g.T.Key.Ord.cmp range.offset range.storage.buckets c.args.slot c.if-slot-self.true))

pub returns : goal.returns
returns g c =
    let range = c.args.self.now in
    c.run_len.ensures ∙ ap (λ l. length l) (read_from g.T.Key.Ord.cmp range.offset range.storage.buckets c.own.result c.args.slot c.own.ensures.slot)
