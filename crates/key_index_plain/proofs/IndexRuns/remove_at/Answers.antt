use Rattle.std.proofs.Common.{length, slice_get, refl, ap, ◌∙◌, arith}
use Rattle.std.specs.List.{remove}
use Rattle.std.proofs.lemmas.List.Edits.{length-remove}
use Rattle.key_index_flat.specs.Content.{list_at}
use Rattle.key_index_plain.specs.Entries.{listed}
use Rattle.key_index_plain.proofs.EntryLemmas.{content_of-listed}
use Rattle.key_index_plain.proofs.IndexLemmas.{content_of-edited, IsLawful-with_list_counted}
use Rattle.key_index_flat.proofs.runs.ViewLemmas.{same_view}
use Rattle.key_index_plain.proofs.IndexRuns.remove_at.Goals as goal

pub remove_at-value-requires-clause-place : goal.remove_at-value-requires-clause-place
remove_at-value-requires-clause-place g c =
    let same = ap (λ x. length (list_at g.T.Key.Ord.cmp x c.args.slot)) (content_of-listed g.T.Key.Ord.cmp c.args.self.now.entries.items c.args.self.now.lawful) in
    omega (arith, same, c.requires)

pub invariant_of-self : goal.invariant_of-self
invariant_of-self g c =
    let old = list_at g.T.Key.Ord.cmp (listed c.args.self.now.entries.items) c.args.slot in
    let same = ap (λ x. length (list_at g.T.Key.Ord.cmp x c.args.slot)) (content_of-listed g.T.Key.Ord.cmp c.args.self.now.entries.items c.args.self.now.lawful) in
    let less = length-remove old c.args.place (omega (arith, same, c.requires)) in
    let is = IsLawful-with_list_counted g.met.T.Key.Ord.total (listed c.args.self.now.entries.items) (listed c.remove_at-value.new.entries.items) c.args.slot (remove old c.args.place) c.args.self.now.lawful
    (omega (arith, less, c.args.self.now.countable)) c.remove_at-value.ensures.content in
    record { lawful = is.0; countable = is.1 }

pub returns-clause-value : goal.returns-clause-value
returns-clause-value g c =
    ap (λ x. slice_get (list_at g.T.Key.Ord.cmp x c.args.slot) c.args.place) (content_of-listed g.T.Key.Ord.cmp c.args.self.now.entries.items c.args.self.now.lawful) ∙ c.remove_at-value.ensures.value

pub returns-clause-changed : goal.returns-clause-changed
returns-clause-changed g c =
    same_view (content_of-edited g.met.T.Key.Ord.total c.args.self.now.entries.items c.remove_at-value.new.entries.items c.args.slot c.args.slot (λ x k. remove (list_at g.T.Key.Ord.cmp x k) c.args.place) c.args.self.now.lawful c.remove_at-value.ensures.content refl) (omega (arith, c.saturating_add-self.ensures)) refl refl
