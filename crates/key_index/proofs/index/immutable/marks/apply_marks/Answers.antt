use Rattle.std.proofs.Common.{length, sym, ap, ◌∙◌, arith}
use Rattle.std.specs.Vec.Iter.{into_iter_items, into_iter_len}
use Rattle.key_index_flat.proofs.runs.RunLemmas.{empty-by_count}
use Rattle.key_index.proofs.positions.MarkLemmas.{MarkedTo-first, marked_more, marked_all}
use Rattle.key_index.proofs.index.immutable.marks.apply_marks.Goals as goal

pub marks-init : goal.marks-init
marks-init g c =
    let iter = c.into_iter-rest in
    record {
      known = iter.ensures.len ∙ c.args.marks.ok.0 ∙ ap (λ l. length l) (sym iter.ensures.rest);
      room = c.requires.room;
      marked = MarkedTo-first g.T.Translator.translated c.args.marks.items (into_iter_items iter.result) c.args.outcomes.now.items c.args.index.now iter.ensures.rest c.requires.empty;
    }

pub marks-preserved : goal.marks-preserved
marks-preserved g c =
    let at = c.marks in
    let split = c.in-Some.ensures.items in
    let long = ap (λ l. length l) split in
    let known = at.invariant.known in
    let len = c.in-Some.ensures.len in
    let room = at.invariant.room in
    let cap = c.in-Ok.ensures.capacity in
    record {
      known = omega (arith, long, known, len);
      room = omega (arith, room, cap);
      marked = marked_more g.T.Translator.translated c.args.marks.items (into_iter_items at.rest) (into_iter_items c.next.new.self) c.in-Some.mark c.apply_mark-outcome.result at.outcomes.items c.push.new.self.items c.args.index.now at.index c.apply_mark-outcome.new.index split c.in-Ok.ensures.items c.apply_mark-outcome.ensures at.invariant.marked;
    }

pub returns : goal.returns
returns g c =
    let at = c.marks in
    marked_all g.T.Translator.translated c.args.marks.items (into_iter_items at.rest) at.outcomes.items c.args.index.now at.index
    (empty-by_count (into_iter_items at.rest) (into_iter_len at.rest) at.invariant.known c.in_default.ensures.cases.0) at.invariant.marked
