use Rattle.std.proofs.Common.{length, set, refl, ap, arith}
use Rattle.std.proofs.lemmas.List.{length-set}
use Rattle.key_index_flat.specs.Content.{list_at}
use Rattle.key_index_plain.specs.Entries.{listed}
use Rattle.key_index_plain.proofs.EntryLemmas.{content_of-listed}
use Rattle.key_index_plain.proofs.IndexLemmas.{content_of-edited, IsLawful-with_list_counted}
use Rattle.key_index_flat.proofs.runs.ViewLemmas.{same_view}
use Rattle.key_index_plain.proofs.IndexRuns.set_at.Goals as goal

pub set_at-requires-clause-place : goal.set_at-requires-clause-place
set_at-requires-clause-place g c =
    let same = ap (λ x. length (list_at g.T.Key.Ord.cmp x c.args.slot)) (content_of-listed g.T.Key.Ord.cmp c.args.self.now.entries.items c.args.self.now.lawful) in
    omega (arith, same, c.requires)

pub invariant_of-self : goal.invariant_of-self
invariant_of-self g c =
    let old = list_at g.T.Key.Ord.cmp (listed c.args.self.now.entries.items) c.args.slot in
    let as_many = length-set old c.args.place c.args.value in
    let is = IsLawful-with_list_counted g.met.T.Key.Ord.total (listed c.args.self.now.entries.items) (listed c.set_at.new.entries.items) c.args.slot (set old c.args.place c.args.value) c.args.self.now.lawful
    (omega (arith, as_many, c.args.self.now.countable)) c.set_at.ensures in
    record { lawful = is.0; countable = is.1 }

pub returns-clause-changed : goal.returns-clause-changed
returns-clause-changed g c =
    same_view (content_of-edited g.met.T.Key.Ord.total c.args.self.now.entries.items c.set_at.new.entries.items c.args.slot c.args.slot (λ x k. set (list_at g.T.Key.Ord.cmp x k) c.args.place c.args.value) c.args.self.now.lawful c.set_at.ensures refl) (refl) refl refl
