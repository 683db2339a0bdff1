use Rattle.std.proofs.Common.{◌++◌, ap, sym, subst, ◌∙◌, arith}
use Rattle.key_index_flat.specs.Content.{item_count}
use Rattle.key_index_parts.specs.Spread.{AreBelow, spread}
use Rattle.key_index_parts.proofs.standing.LiftLemmas.{list_above, list_apart, list_lawful, list_whole}
use Rattle.key_index_parts.proofs.index.partitioned.bucket.sorted_bucket.lists_into_runs.Goals as goal

pub push_run-requires-clause-last : goal.push_run-requires-clause-last
push_run-requires-clause-last g c = list_above g.met.T.Key.Ord.total _ _ c.pop_first.new.self.content c.lists.arrays.pairs c.lists.lists.content c.in-Some.ensures.some c.lists.invariant.apart c.lists.invariant.lawful

pub lists-preserved : goal.lists-preserved
lists-preserved g c =
    let less = ap item_count c.in-Some.ensures.some in
    record {
      whole = ap (λ ps. ps ++ spread c.pop_first.new.self.content) c.push_run.ensures.pairs ∙ list_whole g.met.T.Key.Ord.total _ _ c.pop_first.new.self.content c.lists.arrays.pairs c.lists.lists.content c.in-Some.ensures.some c.lists.invariant.apart c.lists.invariant.lawful _ c.lists.invariant.whole;
      apart = subst (λ ps. AreBelow g.T.Key.Ord.cmp ps c.pop_first.new.self.content) (sym c.push_run.ensures.pairs) (list_apart g.met.T.Key.Ord.total _ _ c.pop_first.new.self.content c.lists.arrays.pairs c.lists.lists.content c.in-Some.ensures.some c.lists.invariant.apart c.lists.invariant.lawful);
      lawful = list_lawful g.met.T.Key.Ord.total _ _ c.pop_first.new.self.content c.lists.arrays.pairs c.lists.lists.content c.in-Some.ensures.some c.lists.invariant.apart c.lists.invariant.lawful;
      room = omega (arith, less, c.lists.invariant.room, c.push_run.ensures.room);
    }
