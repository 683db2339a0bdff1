use Rattle.std.proofs.Common.{rules, ◌≡◌, ◌+◌, ◌<◌, ◌≤◌, length, IsTrue, [], ◌∷◌, refl, ap, sym, subst, ◌∙◌, arith}
use Rattle.std.proofs.lemmas.List.Edits.{length-insert}
use Rattle.std.specs.List.{insert}
use denote.Enum.Bare.{same_true}
use Rattle.key_index_flat.specs.Content.{list_at}
use Rattle.key_index_flat.specs.Cursor.{place_of}
use Rattle.key_index_flat.specs.IndexCursor.{EditsIndex, cursor_list}
use Rattle.key_index_flat.specs.declared.index.traits.cursor.CursorState.TheVariants as state
use Rattle.key_index_flat.specs.contracts.index.traits.cursor.CursorState.{the_type}
use Rattle.key_index_flat.proofs.runs.CursorLemmas.{list_at_edit, same_edit, length-list_at, pruned_none, past_end, insert-list_after_insert, edits_index}
use Rattle.key_index_flat.proofs.runs.ViewLemmas.{content-same_view, same_pruned, same_slot, same_admitted}
use Rattle.key_index_flat.proofs.index.index_cursor.IndexCursorCursor.insert.Goals as goal
use Rattle.key_index_flat.proofs.index.index_cursor.IndexCursorCursor.insert.Goals.{then-eq, else-eq}

pub returns-in_err-insert_at-clause-edited : goal.returns-in_err-insert_at-clause-edited
returns-in_err-insert_at-clause-edited g c =
    let at = c.args.self.now in
    let same = c.in_err-insert_at.ensures.refused in
    record {
      same_reference = refl;
      slot_kept = refl;
      changed =
          let view = g.I.Runs.view at.index.now in
          let content = same_edit g.met.I.Key.Ord.total g.met.I.Runs.exact view.content _ at.slot (g.met.I.Runs.lawful at.index.now) (content-same_view same) in
          λ i. record { content = content i; pruned = (same_pruned same ∙ pruned_none view.pruned) i; slot = same_slot same i; admitted = same_admitted same i };
      states = c.insert_at.new.self ∷ [];
      edited = (c.insert_at.ensures.edited, refl);
    }

pub overflow_add-self : goal.overflow_add-self
overflow_add-self g c =
    let at = c.args.self.now in
    let most = length-list_at g.met.I.Key.Ord.total (g.I.Runs.view at.index.now).content at.slot (g.met.I.Runs.lawful at.index.now) in
    omega (arith, most, at.known, c.in_ok-insert_at.ensures.room)

pub overflow_add-self-then-eq : goal.overflow_add-self-then-eq
overflow_add-self-then-eq g c =
    let at = c.args.self.now in
    let most = length-list_at g.met.I.Key.Ord.total (g.I.Runs.view at.index.now).content at.slot (g.met.I.Runs.lawful at.index.now) in
    let active : at.state ≡ state.Active = same_true the_type (search rules) _ _ (sym c.if-eq.ensures) in
    let here : at.place < at.len = at.active active in
    omega (arith, most, at.known, c.in_ok-insert_at.ensures.room, here)

pub invariant_of-self-then-eq : goal.invariant_of-self-then-eq
invariant_of-self-then-eq g c =
    let at = c.args.self.now in
    let old = list_at g.I.Key.Ord.cmp (g.I.Runs.view at.index.now).content at.slot in
    let active : at.state ≡ state.Active = same_true the_type (search rules) _ _ (sym c.if-eq.ensures) in
    let here : at.place < at.len = at.active active in
    let next = c.next_place-place in
    let within : next.result ≤ length old = omega (arith, next.ensures.within, at.known) in
    let now = list_at_edit g.met.I.Key.Ord.total _ _ _ _ (content-same_view c.in_ok-insert_at.ensures.accepted) in
    record {
      known = ap (λ n. n + 1) at.known ∙ sym (ap (λ l. length l) now ∙ length-insert old next.result c.args.value within);
      admits = subst IsTrue (sym (ap (λ f. f at.slot) (same_admitted c.in_ok-insert_at.ensures.accepted))) at.admits;
      within = omega (arith, here);
      active = λ e. absurd (cc e);
    }

pub invariant_of-self-else-eq : goal.invariant_of-self-else-eq
invariant_of-self-else-eq g c =
    let at = c.args.self.now in
    let old = list_at g.I.Key.Ord.cmp (g.I.Runs.view at.index.now).content at.slot in
    let done : at.state ≡ state.Done = past_end at.state at.place c.requires c.if-eq.ensures in
    let next = c.next_place-place in
    let within : next.result ≤ length old = omega (arith, next.ensures.within, at.known) in
    let now = list_at_edit g.met.I.Key.Ord.total _ _ _ _ (content-same_view c.in_ok-insert_at.ensures.accepted) in
    let held : at.place ≤ at.len = at.within in
    record {
      known = ap (λ n. n + 1) at.known ∙ sym (ap (λ l. length l) now ∙ length-insert old next.result c.args.value within);
      admits = subst IsTrue (sym (ap (λ f. f at.slot) (same_admitted c.in_ok-insert_at.ensures.accepted))) at.admits;
      within = omega (arith, held);
      active = λ e. absurd (cc (e, done));
    }

pub returns-clause-items : goal.returns-clause-items
returns-clause-items g c =
    let at = c.args.self.now in
    let old = list_at g.I.Key.Ord.cmp (g.I.Runs.view at.index.now).content at.slot in
    let next = c.next_place-place in
    let now = list_at_edit g.met.I.Key.Ord.total _ _ _ _ (content-same_view c.in_ok-insert_at.ensures.accepted) in
    let joined : cursor_list c.if-eq.self ≡ list_at g.I.Key.Ord.cmp (g.I.Runs.view c.insert_at.new.self).content at.slot = elim c.if-eq.branch [
      | then-eq w ↦ ap (λ s. cursor_list s) w.self-is
      | else-eq w ↦ ap (λ s. cursor_list s) w.self-is
    ] in
    joined ∙ now ∙ ap (λ n. insert old n c.args.value) next.ensures.next ∙ insert-list_after_insert old (place_of at.state at.place) c.args.value c.requires

pub returns-clause-edited : goal.returns-clause-edited
returns-clause-edited g c =
    let at = c.args.self.now in
    let accepted = c.in_ok-insert_at.ensures.accepted in
    let edited = c.insert_at.ensures.edited in
    let count = pruned_none _ in
    elim c.if-eq.branch [
      | then-eq w ↦ subst (λ s. EditsIndex at s 0) (sym w.self-is) (edits_index g.met.I.Key.Ord.total at _ _ 0 _ refl refl accepted count edited)
      | else-eq w ↦ subst (λ s. EditsIndex at s 0) (sym w.self-is) (edits_index g.met.I.Key.Ord.total at _ _ 0 _ refl refl accepted count edited)
    ]
