use Rattle.std.proofs.Common.{◌≡◌, length}
use Rattle.std.specs.Vec.Iter.{into_iter_items, into_iter_len}
use Rattle.key_index_flat.proofs.runs.RunLemmas.{RunTo}
use Rattle.key_index_flat.proofs.index.apply.apply_steps.Given as goal

abbrev pub invariant-steps : goal.invariant-steps
invariant-steps g l = record {
  known : into_iter_len l.rest ≡ length (into_iter_items l.rest);
  runs : RunTo l.fn.steps.items (into_iter_items l.rest) l.at l.flags l.initial.cursor l.cursor;
}

abbrev pub decreases-steps : goal.decreases-steps
decreases-steps g l = into_iter_len l.rest
