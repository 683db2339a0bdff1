use Rattle.std.proofs.Common.{[], length, refl, sym, ◌∙◌, arith}
use Rattle.key_index_flat.specs.Content.{list_at}
use Rattle.key_index_plain.specs.Entries.{listed}
use Rattle.key_index_plain.proofs.EntryLemmas.{content_of-listed}
use Rattle.key_index_plain.proofs.IndexLemmas.{content_of-edited, IsLawful-with_list_counted}
use Rattle.key_index_flat.proofs.runs.ViewLemmas.{same_view}
use Rattle.key_index_plain.proofs.IndexUnordered.remove.Goals as goal

pub invariant_of-self : goal.invariant_of-self
invariant_of-self g c =
    let is = IsLawful-with_list_counted g.met.T.Key.Ord.total (listed c.args.self.now.entries.items) (listed c.remove-taken.new.entries.items) c.transform-slot.result [] c.args.self.now.lawful
    (omega (arith, c.args.self.now.countable)) c.remove-taken.ensures.content in
    record { lawful = is.0; countable = is.1 }

pub returns-clause-accepted : goal.returns-clause-accepted
returns-clause-accepted g c =
    let now = sym (content_of-listed g.T.Key.Ord.cmp c.args.self.now.entries.items c.args.self.now.lawful) in
    let taken = c.remove-taken.ensures.taken ∙ (λ i. length (list_at g.T.Key.Ord.cmp (now i) (c.transform-slot.ensures i))) in
    same_view (content_of-edited g.met.T.Key.Ord.total c.args.self.now.entries.items c.remove-taken.new.entries.items c.transform-slot.result _ (λ x k. []) c.args.self.now.lawful c.remove-taken.ensures.content c.transform-slot.ensures) (omega (arith, c.saturating_add-self.ensures, taken)) refl refl
