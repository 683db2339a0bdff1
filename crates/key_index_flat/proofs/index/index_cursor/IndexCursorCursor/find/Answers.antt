use Rattle.std.proofs.Common.{◌≡◌, length, slice_get, Some, ap, sym, ◌∙◌, arith}
use Rattle.std.specs.Fn.{CalledAt}
use Rattle.std.proofs.lemmas.Fn.{called_at}
use borrow.Author.Rules.{of_calls}
use Rattle.key_index_flat.specs.Content.{list_at}
use Rattle.key_index_flat.specs.Cursor.{next_place, place_from}
use Rattle.key_index_flat.specs.IndexCursor.{cursor_list, cursor_place}
use Rattle.key_index_flat.proofs.closures.Asked.{asked_more, Finds-by_asking, FindsNone-by_asking}
use Rattle.key_index_flat.proofs.index.index_cursor.IndexCursorCursor.find.Goals as goal
use Rattle.key_index_flat.proofs.index.index_cursor.IndexCursorCursor.find.Goals.{then-loop-place-test+else-not-predicate, else-loop-place-test}

pub loop-place-preserved : goal.loop-place-preserved
loop-place-preserved g c =
    let at = c.loop-place in
    let xs = cursor_list c.args.self.now in
    let start = next_place xs (cursor_place c.args.self.now) in
    let here = c.loop-place-test.true in
    let from = at.invariant.from in
    let list : cursor_list at.self ≡ xs = λ i. list_at g.I.Key.Ord.cmp (g.I.Runs.view (at.invariant.stays.1 i)).content (at.invariant.stays.2 i) in
    let value : slice_get xs at.place ≡ Some c.value_at.result.now = ap (λ l. slice_get l at.place) (sym list) ∙ c.value_at.ensures in
    record {
      stays = at.invariant.stays;
      from = omega (arith, from);
      within = omega (arith, here);
      asked = asked_more (CalledAt g.F.FnMut) c.args.predicate at.predicate c.predicate.new.self xs start at.place c.value_at.result.now from value (called_at g.F.FnMut c.predicate.ensures c.if-not-predicate.true) at.invariant.asked;
      again = search of_calls;
    }

pub returns-clause-place : goal.returns-clause-place
returns-clause-place g c =
    let at = c.loop-place in
    let new = c.go.new.self in
    let xs = cursor_list c.args.self.now in
    let p = cursor_place c.args.self.now in
    let from = at.invariant.from in
    let len = c.args.self.now.len in
    let known : length xs ≡ len = sym c.args.self.now.known in
    let list : cursor_list at.self ≡ xs = λ i. list_at g.I.Key.Ord.cmp (g.I.Runs.view (at.invariant.stays.1 i)).content (at.invariant.stays.2 i) in
    elim c.loop-place-test.branch [
      | then-loop-place-test+else-not-predicate w ↦
          let value : slice_get xs at.place ≡ Some w.value_at.result.now = ap (λ l. slice_get l at.place) (sym list) ∙ w.value_at.ensures in
          let goes = c.go.ensures.place ∙ ap (λ l. place_from l at.place) (ap (λ s. cursor_list s) w.self-is ∙ list) in
          Finds-by_asking (CalledAt g.F.FnMut) c.args.predicate at.predicate w.predicate.new.self xs p at.place len w.value_at.result.now (cursor_place new) known from value (called_at g.F.FnMut w.predicate.ensures w.if-not-predicate.false) at.invariant.asked goes
      | else-loop-place-test w ↦
          let goes = c.go.ensures.place ∙ ap (λ l. place_from l at.place) (ap (λ s. cursor_list s) w.self-is ∙ list) in
          let most = at.invariant.within in
          let past = w.loop-place-test.false in
          let all : at.place ≡ len = omega (arith, most, past) in
          FindsNone-by_asking (CalledAt g.F.FnMut) c.args.predicate at.predicate xs p at.place len (cursor_place new) known from all at.invariant.asked goes
    ]
