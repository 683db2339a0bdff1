use Rattle.std.proofs.Common.{◌≡◌, ◌≤◌, length, vec_capacity}
use Rattle.std.specs.Vec.Iter.{into_iter_items, into_iter_len}
use Rattle.key_index.proofs.positions.MarkLemmas.{MarkedTo}
use Rattle.key_index.proofs.index.immutable.marks.apply_marks.Given as goal

-- the marks so far have their outcomes, and there is room for those of the others
abbrev pub invariant-marks : goal.invariant-marks
invariant-marks g l = record {
  known : into_iter_len l.rest ≡ length (into_iter_items l.rest);
  room : length l.fn.marks.items ≤ vec_capacity l.outcomes;
  marked : MarkedTo g.T.Translator.translated l.fn.marks.items (into_iter_items l.rest) l.outcomes.items l.initial.index l.index;
}

abbrev pub decreases-marks : goal.decreases-marks
decreases-marks g l = into_iter_len l.rest
