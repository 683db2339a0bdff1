use Rattle.std.proofs.Common.{length, IsTrue, refl, ap, sym, subst, ◌∙◌}
use Rattle.std.proofs.lemmas.List.{length-set}
use Rattle.key_index_flat.specs.Content.{list_at}
use Rattle.key_index_flat.specs.Cursor.{list_after_update}
use Rattle.key_index_flat.specs.Cursor.{place_of}
use Rattle.key_index_flat.proofs.runs.CursorLemmas.{list_at_edit, pruned_none, IsOnValue-active, edits_index}
use Rattle.key_index_flat.proofs.runs.ViewLemmas.{content-same_view, same_admitted}
use Rattle.key_index_flat.proofs.index.index_cursor.IndexCursorCursor.update.Goals as goal

pub invariant_of-self : goal.invariant_of-self
invariant_of-self g c =
    let at = c.args.self.now in
    let old = list_at g.I.Key.Ord.cmp (g.I.Runs.view at.index.now).content at.slot in
    let now = list_at_edit g.met.I.Key.Ord.total _ _ _ _ (content-same_view c.set_at.ensures.changed) in
    record {
      known = at.known ∙ sym (ap (λ l. length l) now ∙ length-set old at.place c.args.value);
      admits = subst IsTrue (sym (ap (λ f. f at.slot) (same_admitted c.set_at.ensures.changed))) at.admits;
      within = at.within;
      active = at.active;
    }

pub returns-clause-items : goal.returns-clause-items
returns-clause-items g c =
    let at = c.args.self.now in
    let old = list_at g.I.Key.Ord.cmp (g.I.Runs.view at.index.now).content at.slot in
    list_at_edit g.met.I.Key.Ord.total _ _ _ _ (content-same_view c.set_at.ensures.changed)
    ∙ sym (ap (λ s. list_after_update old (place_of s at.place) c.args.value) (IsOnValue-active at.state at.place c.requires))

pub returns-clause-edited : goal.returns-clause-edited
returns-clause-edited g c =
    let at = c.args.self.now in
    edits_index g.met.I.Key.Ord.total at _ _ 0 _ refl refl c.set_at.ensures.changed (pruned_none _) c.set_at.ensures.edited
