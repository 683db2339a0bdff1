use Rattle.std.proofs.Common.{◌≡◌, ◌++◌, ◌∷◌, ap, sym, subst, ◌∙◌, arith}
use Rattle.key_index_flat.specs.Content.{IsLawful, item_count}
use Rattle.key_index_parts.specs.Spread.{AreBelow, spread}
use Rattle.key_index_parts.proofs.standing.LiftLemmas.{run_absent, run_apart, run_front, run_lawful, run_whole}
use Rattle.key_index_parts.proofs.index.partitioned.bucket.sorted_bucket.runs_into_lists.Goals as goal

pub insert_list-requires : goal.insert_list-requires
insert_list-requires g c = run_absent g.met.T.Key.Ord.total c.runs.arrays.pairs c.pop_run.new.self.pairs c.in_ok-key.key c.in_ok-key.head c.in_ok-key.tail.items c.runs.lists.content c.in_ok-key.ensures.run c.runs.invariant.apart

pub runs-preserved : goal.runs-preserved
runs-preserved g c =
    let front : c.insert_list.new.self.content ≡ (c.in_ok-key.key, c.in_ok-key.head ∷ c.in_ok-key.tail.items) ∷ c.runs.lists.content = c.in_default.ensures.accepted ∙ run_front g.met.T.Key.Ord.total c.runs.arrays.pairs c.pop_run.new.self.pairs c.in_ok-key.key c.in_ok-key.head c.in_ok-key.tail.items c.runs.lists.content c.in_ok-key.ensures.run c.runs.invariant.apart in
    let more = ap item_count front in
    record {
      whole = ap (λ l. c.pop_run.new.self.pairs ++ spread l) front ∙ run_whole g.met.T.Key.Ord.total c.runs.arrays.pairs c.pop_run.new.self.pairs c.in_ok-key.key c.in_ok-key.head c.in_ok-key.tail.items c.runs.lists.content c.in_ok-key.ensures.run c.runs.invariant.apart _ c.runs.invariant.whole;
      apart = subst (λ l. AreBelow g.T.Key.Ord.cmp c.pop_run.new.self.pairs l) (sym front) (run_apart g.met.T.Key.Ord.total c.runs.arrays.pairs c.pop_run.new.self.pairs c.in_ok-key.key c.in_ok-key.head c.in_ok-key.tail.items c.runs.lists.content c.in_ok-key.ensures.run c.runs.invariant.apart c.in_ok-key.ensures.below);
      lawful = subst (λ l. IsLawful g.T.Key.Ord.cmp l) (sym front) (run_lawful g.met.T.Key.Ord.total c.runs.arrays.pairs c.pop_run.new.self.pairs c.in_ok-key.key c.in_ok-key.head c.in_ok-key.tail.items c.runs.lists.content c.in_ok-key.ensures.run c.runs.invariant.apart c.runs.invariant.lawful);
      room = omega (arith, more, c.runs.invariant.room, c.in_ok-key.ensures.room);
    }
