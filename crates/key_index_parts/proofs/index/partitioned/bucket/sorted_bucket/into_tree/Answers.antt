use Rattle.std.proofs.Common.{ap, sym, ◌∙◌, arith}
use Rattle.key_index_flat.specs.Content.{item_count}
use Rattle.key_index_parts.proofs.standing.LiftLemmas.{lifted}
use Rattle.key_index_parts.proofs.index.partitioned.bucket.sorted_bucket.into_tree.Goals as goal

pub of_lists-requires : goal.of_lists-requires
of_lists-requires g c =
    let is = lifted g.met.T.Key.Ord.total c.runs_into_lists.new.arrays.pairs c.args.arrays.now.pairs.pairs c.runs_into_lists.new.lists.content c.in-Ok-runs_into_lists.ensures.emptied c.runs_into_lists.ensures.whole c.runs_into_lists.ensures.lawful in
    record { lawful = c.runs_into_lists.ensures.lawful; counted = c.len-len.ensures ∙ ap item_count (sym is) }

pub returns-in-Ok-runs_into_lists-clause-tree : goal.returns-in-Ok-runs_into_lists-clause-tree
returns-in-Ok-runs_into_lists-clause-tree g c =
    let is = lifted g.met.T.Key.Ord.total c.runs_into_lists.new.arrays.pairs c.args.arrays.now.pairs.pairs c.runs_into_lists.new.lists.content c.in-Ok-runs_into_lists.ensures.emptied c.runs_into_lists.ensures.whole c.runs_into_lists.ensures.lawful in
    ap (λ l. l.content) c.of_lists.ensures ∙ is

pub returns-in-Ok-runs_into_lists-clause-room : goal.returns-in-Ok-runs_into_lists-clause-room
returns-in-Ok-runs_into_lists-clause-room g c =
    let is = lifted g.met.T.Key.Ord.total c.runs_into_lists.new.arrays.pairs c.args.arrays.now.pairs.pairs c.runs_into_lists.new.lists.content c.in-Ok-runs_into_lists.ensures.emptied c.runs_into_lists.ensures.whole c.runs_into_lists.ensures.lawful in
    let same = ap item_count is in omega (arith, same, c.runs_into_lists.ensures.room)
