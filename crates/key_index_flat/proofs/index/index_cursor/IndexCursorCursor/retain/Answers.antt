use Rattle.std.proofs.Common.{◌≡◌, ◌+◌, ◌-◌, ◌<◌, ◌≤◌, length, take, drop, IsTrue, refl, ap, sym, subst, ◌∙◌, arith}
use Rattle.std.proofs.lemmas.List.{take_all, drop_all}
use Rattle.std.proofs.lemmas.List.Edits.{length-remove}
use Rattle.std.proofs.lemmas.Fn.{called_at}
use Rattle.std.specs.Fn.{CalledAt}
use Rattle.std.specs.List.{remove}
use borrow.Author.Rules.{of_calls}
use Rattle.key_index_flat.specs.Cursor.{next_place}
use Rattle.key_index_flat.specs.IndexCursor.{cursor_list, cursor_place}
use Rattle.key_index_flat.specs.declared.index.traits.cursor.CursorState.TheVariants.{Done}
use Rattle.key_index_flat.proofs.closures.Asked.{drop-value, take-value, drop-remove, take-remove, kept_first, kept_more, kept_less, kept_parts, Retains-KeptTo}
use Rattle.key_index_flat.proofs.runs.CursorLemmas.{list_at_edit, edited_none, edited_more}
use Rattle.key_index_flat.proofs.runs.ViewLemmas.{content-same_view, same_admitted}
use Rattle.key_index_flat.proofs.index.index_cursor.IndexCursorCursor.retain.Goals as goal

pub loop-place-init : goal.loop-place-init
loop-place-init g c =
    let at = c.args.self.now in
    let xs = cursor_list at in
    let next = c.next_place-place in
    let start = next_place xs (cursor_place at) in
    record {
      same_reference = refl;
      slot_kept = refl;
      done = refl;
      front = refl;
      within = next.ensures.within;
      fewer = omega arith;
      edited = edited_none g.I.Runs g.I.Key.Ord.cmp g.met.I.Key.Ord.total g.met.I.Runs.exact at.slot at.index.now (g.met.I.Runs.lawful at.index.now) (at.len - at.len) (omega arith);
      kept = kept_parts (CalledAt g.F.FnMut) c.args.should_retain c.args.should_retain xs (take start xs) _ (drop start xs) _ start (ap (λ n. take n xs) (sym next.ensures.next)) (ap (λ n. drop n xs) (sym next.ensures.next)) (kept_first (CalledAt g.F.FnMut) c.args.should_retain xs start);
      again = c.requires;
    }

pub loop-place-preserved-then-should_retain : goal.loop-place-preserved-then-should_retain
loop-place-preserved-then-should_retain g c =
    let at = c.loop-place in
    let held = at.invariant in
    let xs = cursor_list c.args.self.now in
    let ys = cursor_list at.self in
    let start = next_place xs (cursor_place c.args.self.now) in
    let here = c.loop-place-test.true in
    let x = c.value_at.result.now in
    let R = CalledAt g.F.FnMut in
    record {
      same_reference = held.same_reference;
      slot_kept = held.slot_kept;
      done = held.done;
      front = held.front;
      within = omega (arith, here);
      fewer = held.fewer;
      edited = held.edited;
      kept = kept_parts R c.args.should_retain c.should_retain.new.self xs _ _ _ _ start (take-value ys at.place x c.value_at.ensures) refl
          (kept_more R c.args.should_retain at.should_retain c.should_retain.new.self xs (take at.place ys) (drop (at.place + 1) ys) start x (called_at g.F.FnMut c.should_retain.ensures c.if-should_retain.true)
          (kept_parts R c.args.should_retain at.should_retain xs _ _ _ _ start refl (drop-value ys at.place x c.value_at.ensures) held.kept));
      again = search of_calls;
    }

pub invariant_of-self-else-should_retain : goal.invariant_of-self-else-should_retain
invariant_of-self-else-should_retain g c =
    let at = c.loop-place.self in
    let place = c.loop-place.place in
    let ys = cursor_list at in
    let known : at.len ≡ length ys = at.known in
    let here : place < at.len = c.loop-place-test.true in
    let less : length (remove ys place) + 1 ≡ length ys = length-remove ys place (omega (arith, here, known)) in
    let now = list_at_edit g.met.I.Key.Ord.total _ _ _ _ (content-same_view c.remove_at.ensures.changed) in
    let count : at.len - 1 ≡ length (remove ys place) = omega (arith, known, less) in
    let front : at.place ≡ 0 = c.loop-place.invariant.front in
    let within : at.place ≤ at.len - 1 = omega (arith, front) in
    let done : at.state ≡ Done = c.loop-place.invariant.done in
    record {
      known = count ∙ sym (ap (λ l. length l) now);
      admits = subst IsTrue (sym (ap (λ f. f at.slot) (same_admitted c.remove_at.ensures.changed))) at.admits;
      within = within;
      active = λ e. absurd (cc (e, done));
    }

pub loop-place-preserved : goal.loop-place-preserved
loop-place-preserved g c =
    let at = c.loop-place in
    let held = at.invariant in
    let xs = cursor_list c.args.self.now in
    let ys = cursor_list at.self in
    let start = next_place xs (cursor_place c.args.self.now) in
    let here : at.place < at.self.len = c.loop-place-test.true in
    let known : at.self.len ≡ length ys = at.self.known in
    let below : at.place < length ys = omega (arith, here, known) in
    let fewer : at.self.len ≤ c.args.self.now.len = held.fewer in
    let x = c.value_at.result.now in
    let R = CalledAt g.F.FnMut in
    let now = list_at_edit g.met.I.Key.Ord.total _ _ _ _ (content-same_view c.remove_at.ensures.changed) in
    record {
      same_reference = held.same_reference;
      slot_kept = held.slot_kept;
      done = held.done;
      front = held.front;
      within = omega (arith, here);
      fewer = omega (arith, fewer);
      edited = edited_more g.I.Runs g.I.Key.Ord.cmp g.met.I.Key.Ord.total g.met.I.Runs.exact c.args.self.now.slot c.args.self.now.index.now (g.met.I.Runs.lawful c.args.self.now.index.now)
          at.self.index.now c.remove_at.new.self at.self.slot (remove ys at.place) (c.args.self.now.len - at.self.len) _ held.slot_kept (omega (arith, here, fewer)) held.edited c.remove_at.ensures.changed c.remove_at.ensures.edited;
      kept = kept_parts R c.args.should_retain c.should_retain.new.self xs _ _ _ _ start (sym (take-remove ys at.place below) ∙ ap (λ l. take at.place l) (sym now)) (sym (drop-remove ys at.place below) ∙ ap (λ l. drop at.place l) (sym now))
          (kept_less R c.args.should_retain at.should_retain c.should_retain.new.self xs (take at.place ys) (drop (at.place + 1) ys) start x (called_at g.F.FnMut c.should_retain.ensures c.if-should_retain.false)
          (kept_parts R c.args.should_retain at.should_retain xs _ _ _ _ start refl (drop-value ys at.place x c.value_at.ensures) held.kept));
      again = search of_calls;
    }

pub returns-clause-items : goal.returns-clause-items
returns-clause-items g c =
    let at = c.loop-place in
    let xs = cursor_list c.args.self.now in
    let ys = cursor_list at.self in
    let start = next_place xs (cursor_place c.args.self.now) in
    let past = c.loop-place-test.false in
    let known : at.self.len ≡ length ys = at.self.known in
    let all : length ys ≤ at.place = omega (arith, past, known) in
    let R = CalledAt g.F.FnMut in
    Retains-KeptTo R c.args.should_retain at.should_retain xs ys (cursor_place c.args.self.now)
    (kept_parts R c.args.should_retain at.should_retain xs _ _ _ _ start (take_all at.place ys all) (drop_all at.place ys all) at.invariant.kept)
