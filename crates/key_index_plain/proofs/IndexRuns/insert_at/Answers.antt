use Rattle.std.proofs.Common.{length, refl, ap, arith}
use Rattle.std.specs.List.{insert}
use Rattle.std.proofs.lemmas.List.Edits.{length-insert}
use Rattle.key_index_flat.specs.Content.{item_count, list_at}
use Rattle.key_index_plain.specs.Entries.{listed}
use Rattle.key_index_plain.proofs.EntryLemmas.{content_of-listed}
use Rattle.key_index_plain.proofs.IndexLemmas.{content_of-edited, content_of-same, kept_or}
use Rattle.key_index_flat.proofs.runs.ViewLemmas.{same_view}
use Rattle.key_index_plain.proofs.IndexRuns.insert_at.Goals as goal

pub insert_at-requires-clause-place : goal.insert_at-requires-clause-place
insert_at-requires-clause-place g c =
    let same = ap (λ x. length (list_at g.T.Key.Ord.cmp x c.args.slot)) (content_of-listed g.T.Key.Ord.cmp c.args.self.now.entries.items c.args.self.now.lawful) in
    omega (arith, same, c.requires.place)

pub invariant_of-self : goal.invariant_of-self
invariant_of-self g c =
    let old = list_at g.T.Key.Ord.cmp (listed c.args.self.now.entries.items) c.args.slot in
    let now = content_of-listed g.T.Key.Ord.cmp c.args.self.now.entries.items c.args.self.now.lawful in
    let more = length-insert old c.args.place c.args.value (omega (arith, ap (λ x. length (list_at g.T.Key.Ord.cmp x c.args.slot)) now, c.requires.place)) in
    let is = kept_or g.met.T.Key.Ord.total c.insert_at.result (listed c.args.self.now.entries.items) (listed c.insert_at.new.entries.items) c.args.slot (insert old c.args.place c.args.value) c.args.self.now.lawful c.args.self.now.countable
    (omega (arith, more, ap (λ x. item_count x) now, c.items.ensures, c.args.self.now.countable, c.if-items-eq18446744073709551615.false)) c.insert_at.ensures.accepted c.insert_at.ensures.refused in
    record { lawful = is.0; countable = is.1 }

pub returns-in-Ok-clause-accepted : goal.returns-in-Ok-clause-accepted
returns-in-Ok-clause-accepted g c =
    same_view (content_of-edited g.met.T.Key.Ord.total c.args.self.now.entries.items c.insert_at.new.entries.items c.args.slot c.args.slot (λ x k. insert (list_at g.T.Key.Ord.cmp x k) c.args.place c.args.value) c.args.self.now.lawful c.in-Ok.ensures.accepted refl) (refl) refl refl

pub returns-in-Err-clause-refused : goal.returns-in-Err-clause-refused
returns-in-Err-clause-refused g c =
    same_view (content_of-same g.met.T.Key.Ord.total c.args.self.now.entries.items c.insert_at.new.entries.items c.args.self.now.lawful c.in-Err.ensures.refused) (refl) refl refl
