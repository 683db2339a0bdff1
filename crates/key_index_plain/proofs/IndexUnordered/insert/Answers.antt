use Rattle.std.proofs.Common.{◌∷◌, refl, ap, sym, ◌∙◌, arith}
use Rattle.key_index_flat.specs.Content.{list_at, item_count}
use Rattle.key_index_flat.specs.Fault.{growth_fault}
use Rattle.key_index_plain.specs.Entries.{listed}
use Rattle.key_index_plain.proofs.EntryLemmas.{content_of-listed}
use Rattle.key_index_flat.proofs.content.FaultLemmas.{growth_fault-memory}
use Rattle.key_index_plain.proofs.IndexLemmas.{content_of-edited, content_of-same, kept_or}
use Rattle.key_index_flat.proofs.runs.ViewLemmas.{same_view}
use Rattle.key_index_plain.proofs.IndexUnordered.insert.Goals as goal

pub returns-then-items-eq18446744073709551615-clause-fault : goal.returns-then-items-eq18446744073709551615-clause-fault
returns-then-items-eq18446744073709551615-clause-fault g c =
    c.full.ensures.fault ∙ ap (λ n. growth_fault n) (sym c.if-items-eq18446744073709551615.true ∙ c.items.ensures)

pub invariant_of-self : goal.invariant_of-self
invariant_of-self g c =
    let now = ap (λ x. item_count x) (content_of-listed g.T.Key.Ord.cmp c.args.self.now.entries.items c.args.self.now.lawful) in
    let is = kept_or g.met.T.Key.Ord.total c.insert_first.result (listed c.args.self.now.entries.items) (listed c.insert_first.new.entries.items) c.transform-slot.result
    (c.args.value ∷ list_at g.T.Key.Ord.cmp (listed c.args.self.now.entries.items) c.transform-slot.result) c.args.self.now.lawful c.args.self.now.countable
    (omega (arith, now, c.items.ensures, c.args.self.now.countable, c.if-items-eq18446744073709551615.false)) c.insert_first.ensures.accepted c.insert_first.ensures.refused in
    record { lawful = is.0; countable = is.1 }

pub returns-in-Ok-clause-accepted : goal.returns-in-Ok-clause-accepted
returns-in-Ok-clause-accepted g c =
    same_view (content_of-edited g.met.T.Key.Ord.total c.args.self.now.entries.items c.insert_first.new.entries.items c.transform-slot.result _ (λ x k. c.args.value ∷ list_at g.T.Key.Ord.cmp x k) c.args.self.now.lawful
    c.in-Ok.ensures.accepted c.transform-slot.ensures) (refl) refl refl

pub returns-in-Ok-clause-room : goal.returns-in-Ok-clause-room
returns-in-Ok-clause-room g c =
    let now = ap (λ x. item_count x) (content_of-listed g.T.Key.Ord.cmp c.args.self.now.entries.items c.args.self.now.lawful) in
    omega (arith, now, c.items.ensures, c.args.self.now.countable, c.if-items-eq18446744073709551615.false)

pub returns-in-Err-clause-refused : goal.returns-in-Err-clause-refused
returns-in-Err-clause-refused g c = (
  same_view (content_of-same g.met.T.Key.Ord.total c.args.self.now.entries.items c.insert_first.new.entries.items c.args.self.now.lawful c.in-Err.ensures.refused) (refl) refl refl,
  tt,
)

pub returns-in-Err-clause-fault : goal.returns-in-Err-clause-fault
returns-in-Err-clause-fault g c =
    c.memory.ensures.fault ∙ growth_fault-memory _ (λ full. c.if-items-eq18446744073709551615.false (c.items.ensures ∙ full))
