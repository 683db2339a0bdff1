use Rattle.std.proofs.Common.{refl, rules, ◌≡◌, ◌<◌, Some, length, slice_get, remove, subst, sym}
use Rattle.key_index_parts.proofs.buckets.ShiftedLemmas.{held_from, read_from, seen_pruned}
use Rattle.key_index_parts.proofs.index.partitioned.range.RangeIndexRuns.remove_at.Goals as goal

pub own-own-requires : goal.own-own-requires
own-own-requires g c = (search rules, held_from g.T.Key.Ord.cmp c.args.self.now.offset c.args.self.now.storage.buckets c.args.slot c.args.place c.requires)

pub remove_at-requires : goal.remove_at-requires
remove_at-requires g c =
    let range = c.args.self.now in
    (search rules, subst (λ l. c.args.place < length l) (sym (read_from g.T.Key.Ord.cmp range.offset range.storage.buckets c.own-own.result c.args.slot c.own-own.ensures.slot)) c.requires)

pub returns-clause-value : goal.returns-clause-value
returns-clause-value g c =
    let range = c.args.self.now in
    subst (λ l. slice_get l c.args.place ≡ Some c.remove_at.result) (read_from g.T.Key.Ord.cmp range.offset range.storage.buckets c.own-own.result c.args.slot c.own-own.ensures.slot) c.remove_at.ensures.value

pub returns-clause-changed : goal.returns-clause-changed
returns-clause-changed g c =
    let range = c.args.self.now in
    seen_pruned g.T.Key.Ord.cmp g.row.P g.T.Translator.translated range.offset range.storage c.remove_at.new.self c.own-own.result c.args.slot c.own-own.ensures.slot c.remove_at.ensures.kept.sized
    (λ l. remove l c.args.place) 1 c.remove_at.ensures.edited

pub returns-clause-edited : goal.returns-clause-edited
returns-clause-edited g c = ((refl, c.remove_at.ensures.kept.sized), (c.own-own.result.0, c.remove_at.ensures.standing))
