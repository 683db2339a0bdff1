use Rattle.std.proofs.Common.{refl, rules, ◌<◌, length, slice_set, subst, sym}
use Rattle.key_index_parts.proofs.buckets.ShiftedLemmas.{held_from, read_from, seen_edited}
use Rattle.key_index_parts.proofs.index.partitioned.range.RangeIndexRuns.set_at.Goals as goal

pub own-own-requires : goal.own-own-requires
own-own-requires g c = (search rules, held_from g.T.Key.Ord.cmp c.args.self.now.offset c.args.self.now.storage.buckets c.args.slot c.args.place c.requires)

pub set_at-requires : goal.set_at-requires
set_at-requires g c =
    let range = c.args.self.now in
    (search rules, subst (λ l. c.args.place < length l) (sym (read_from g.T.Key.Ord.cmp range.offset range.storage.buckets c.own-own.result c.args.slot c.own-own.ensures.slot)) c.requires)

pub returns-clause-changed : goal.returns-clause-changed
returns-clause-changed g c =
    let range = c.args.self.now in
    seen_edited g.T.Key.Ord.cmp g.row.P g.T.Translator.translated range.offset range.storage c.set_at.new.self c.own-own.result c.args.slot c.own-own.ensures.slot c.set_at.ensures.kept.sized
    (λ l. slice_set l c.args.place c.args.value) c.set_at.ensures.edited

pub returns-clause-edited : goal.returns-clause-edited
returns-clause-edited g c = ((refl, c.set_at.ensures.kept.sized), (c.own-own.result.0, c.set_at.ensures.standing))
