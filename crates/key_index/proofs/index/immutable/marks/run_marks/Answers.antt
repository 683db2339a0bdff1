use Rattle.key_index.proofs.positions.MarkLemmas.{marks_start, marks_keys}
use Rattle.key_index.proofs.index.immutable.marks.run_marks.Goals as goal

pub returns-clause-start : goal.returns-clause-start
returns-clause-start g c = marks_start g.T.Translator.translated c.args.marks.items c.apply_marks.new.outcomes.items c.args.index.now c.apply_marks.new.index c.apply_marks.ensures

pub returns-clause-keys : goal.returns-clause-keys
returns-clause-keys g c = marks_keys g.T.Translator.translated c.args.marks.items c.apply_marks.new.outcomes.items c.args.index.now c.apply_marks.new.index c.apply_marks.ensures
