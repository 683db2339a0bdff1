use Rattle.std.proofs.Common.{◌≡◌, ◌+◌, ◌-◌, ◌<◌, suc, ◌++◌, length, take, drop, IsTrue, refl, ap, sym, subst, ◌∙◌, arith}
use Rattle.std.proofs.lemmas.List.Edits.{length-remove}
use Rattle.std.specs.List.{remove}
use Rattle.key_index_flat.specs.Content.{list_at}
use Rattle.key_index_flat.specs.Cursor.{list_after_delete}
use Rattle.key_index_flat.specs.Cursor.{place_of}
use Rattle.key_index_flat.proofs.runs.CursorLemmas.{list_at_edit, IsOnValue-active, edits_index}
use Rattle.key_index_flat.proofs.runs.ViewLemmas.{content-same_view, same_admitted}
use Rattle.key_index_flat.proofs.index.index_cursor.IndexCursorCursor.delete.Goals as goal

pub invariant_of-self : goal.invariant_of-self
invariant_of-self g c =
    let at = c.args.self.now in
    let old = list_at g.I.Key.Ord.cmp (g.I.Runs.view at.index.now).content at.slot in
    let within : at.place < at.len = at.active (IsOnValue-active at.state at.place c.requires) in
    let known : at.len ≡ length old = at.known in
    let less : length (remove old at.place) + 1 ≡ length old = length-remove old at.place (omega (arith, within, known)) in
    let now = list_at_edit g.met.I.Key.Ord.total _ _ _ _ (content-same_view c.remove_at.ensures.changed) in
    let count : at.len - 1 ≡ length (remove old at.place) = omega (arith, known, less) in
    record {
      known = count ∙ sym (ap (λ l. length l) now);
      admits = subst IsTrue (sym (ap (λ f. f at.slot) (same_admitted c.remove_at.ensures.changed))) at.admits;
      within = omega (arith, within);
      active = λ e. absurd (cc e);
    }

pub returns-clause-items : goal.returns-clause-items
returns-clause-items g c =
    let at = c.args.self.now in
    let old = list_at g.I.Key.Ord.cmp (g.I.Runs.view at.index.now).content at.slot in
    let next : suc at.place ≡ at.place + 1 = omega arith in
    list_at_edit g.met.I.Key.Ord.total _ _ _ _ (content-same_view c.remove_at.ensures.changed)
    ∙ ap (λ n. take at.place old ++ drop n old) next
    ∙ sym (ap (λ s. list_after_delete old (place_of s at.place)) (IsOnValue-active at.state at.place c.requires))

pub returns-clause-edited : goal.returns-clause-edited
returns-clause-edited g c = edits_index g.met.I.Key.Ord.total c.args.self.now _ _ 1 _ refl refl c.remove_at.ensures.changed refl c.remove_at.ensures.edited
