use Rattle.std.proofs.Common.{rules, ◌≡◌, ◌-◌, ◌^◌, ◌<◌, ℕ, Bool, true, Option, Some, None, is_some, length, slice_get, slice_set, refl, sym, ap, subst, ◌∙◌, arith}
use Rattle.std.proofs.lemmas.Bool.{false≢true}
use Rattle.std.proofs.lemmas.List.Elements.{All-from_get_or}
use Rattle.std.specs.FinMap.{get, insert, len}
use Rattle.std.specs.Option.{option_map}
use Rattle.key_index_flat.specs.View.{items_in, run_at, run_of, with_edit}
use Rattle.key_index_flat.proofs.content.ChainLemmas.{None-is_some}
use Rattle.key_index.specs.Snapshot.{IsKept, key_of, position_in, positions_in}
use Rattle.key_index_flat.proofs.content.FaultLemmas.{growth_fault-memory}
use Rattle.key_index.proofs.snapshots.KeptLemmas.{held_told, len_told, put_held, put_new}
use Rattle.key_index.proofs.snapshots.SnapshotLemmas.{within_by_key}
use Rattle.key_index.proofs.snapshot.Snapshot.set.Given.{Over}
use Rattle.key_index.proofs.snapshot.Snapshot.set.Goals.{After-get, After-self, After-set_at, Else-full, In-Some, In_ok-insert}
use Rattle.key_index.proofs.snapshot.Snapshot.set.Goals as goal

is_some-not_none : {o : Option ℕ} → is_some o ≡ true → ¬ (o ≡ None)
is_some-not_none h e = false≢true (sym (ap is_some e) ∙ h)

keys_counted : (g : Over) (c : After-self g) → len c.args.self.now ≡ items_in (g.I.Runs.view c.self.inside.index)
keys_counted g c = len_told g.met.I.Key.Ord.total g.met.I.Runs.exact (g.I.Runs.view c.self.inside.index) (g.met.I.Runs.lawful c.self.inside.index) c.self.invariant c.args.self.now c.self.view_is

-- whether the map has the key is whether its list has a record of it
key_found : (g : Over) (c : After-get g) {b : Bool} → b ≡ is_some (position_in c.args.key.now c.get.result) → is_some (get c.args.self.now c.args.key.now) ≡ b
key_found g c e =
    let key = c.args.key.now in
    ap is_some (held_told g.met.I.Key.Ord.total g.met.I.Runs.exact (g.I.Runs.view c.self.inside.index) (g.met.I.Runs.lawful c.self.inside.index) c.self.invariant c.args.self.now c.self.view_is key)
    ∙ ap (λ l. is_some (position_in key l)) (sym c.get.ensures) ∙ sym e

-- there is room
below_most_keys : (g : Over) (c : Else-full g) → len c.args.self.now ≡ items_in (g.I.Runs.view c.self.inside.index) → ¬ (len c.args.self.now ≡ 2 ^ 64 - 1)
below_most_keys g c told e = omega (arith, told, c.items-full.ensures, c.if-full.false, e)

-- the place is that of the key's record
key_at_place : (g : Over) (c : In-Some g) → option_map key_of (slice_get (run_of g.I.Key.Ord.cmp (g.I.Runs.view c.self.inside.index) c.args.key.now) c.in-Some.place) ≡ Some c.args.key.now
key_at_place g c = ap (λ l. option_map key_of (slice_get l c.in-Some.place)) (sym c.get.ensures) ∙ c.in-Some.ensures.at

pub returns-then-full-clause-full : goal.returns-then-full-clause-full
returns-then-full-clause-full g c =
    let at = goal.at.returns-then-full-clause-full g c in
    let told = keys_counted g at.After-self in
    (λ _. (None-is_some _ (key_found g at.After-get c.in_default.ensures.found), omega (arith, told, c.items-full.ensures, c.if-full.true)), λ _. refl)

pub returns-in_err-record-clause-full : goal.returns-in_err-record-clause-full
returns-in_err-record-clause-full g c =
    let at = goal.at.returns-in_err-record-clause-full g c in
    let room = below_most_keys g at.Else-full (keys_counted g at.After-self) in
    search (rules, room)

pub returns-in_err-insert-clause-full : goal.returns-in_err-insert-clause-full
returns-in_err-insert-clause-full g c =
    let at = goal.at.returns-in_err-insert-clause-full g c in
    let told = keys_counted g at.After-self in
    let room = below_most_keys g at.Else-full told in
    let memory = sym (growth_fault-memory (items_in (g.I.Runs.view c.self.inside.index)) (λ e. room (told ∙ e))) in
    search (rules, room, memory)

record_inserted : (g : Over) (c : In_ok-insert g) → let t = g.I.Runs.view c.insert.new.self in IsKept g.I.Key.Ord.cmp t × (positions_in t ≡ insert c.args.self.now c.args.key.now c.args.position)
record_inserted g c =
    let s = g.I.Runs.view c.self.inside.index in
    let key = c.args.key.now in
    let bytes = All-from_get_or (λ n. n < 256) key 0 (λ i within. omega (arith, c.type_inv.key i)) in
    let absent = None-is_some _ (key_found g (goal.at.returns-in_default-clause-set g c).After-get c.in_default.ensures.found) in
    let done = put_new g.met.I.Key.Ord.total g.met.I.Runs.exact s (g.I.Runs.view c.insert.new.self) key (g.met.I.Runs.lawful c.self.inside.index) (g.met.I.Runs.lawful c.insert.new.self) c.self.invariant
    g.I.Unordered.INSERT_FIRST c.in_ok-record.record c.in_ok-record.ensures.key bytes (ap (λ m. get m key) c.self.view_is ∙ absent) c.in_ok-insert.ensures.accepted in
    (done.0, done.1 ∙ (λ i. insert (c.self.view_is i) key (c.in_ok-record.ensures.position i)))

pub invariant_of-self-in_default : goal.invariant_of-self-in_default
invariant_of-self-in_default g c = (record_inserted g c).0

pub returns-in_default-clause-set : goal.returns-in_default-clause-set
returns-in_default-clause-set g c = (record_inserted g c).1

pub returns-in_default-clause-full : goal.returns-in_default-clause-full
returns-in_default-clause-full g c =
    let at = goal.at.returns-in_default-clause-full g c in
    let room = below_most_keys g at.Else-full (keys_counted g at.After-self) in
    search (rules, room)

pub returns-in_err-record-2-clause-full : goal.returns-in_err-record-2-clause-full
returns-in_err-record-2-clause-full g c =
    let held = is_some-not_none (key_found g (goal.at.returns-in_err-record-2-clause-full g c).After-get c.in-Some.ensures.found) in
    search (rules, held)

pub set_at-requires : goal.set_at-requires
set_at-requires g c =
    let run = run_of g.I.Key.Ord.cmp (g.I.Runs.view c.self.inside.index) c.args.key.now in
    subst (λ k. c.in-Some.place < length (run_at g.I.Key.Ord.cmp (g.I.Runs.view c.self.inside.index) k)) (sym c.slot_of-slot.ensures) (within_by_key c.args.key.now run c.in-Some.place (key_at_place g (goal.at.set_at-requires g c).In-Some))

record_replaced : (g : Over) (c : After-set_at g) → let t = g.I.Runs.view c.set_at.new.self in IsKept g.I.Key.Ord.cmp t × (positions_in t ≡ insert c.args.self.now c.args.key.now c.args.position)
record_replaced g c =
    let s = g.I.Runs.view c.self.inside.index in
    let key = c.args.key.now in
    let bytes = All-from_get_or (λ n. n < 256) key 0 (λ i within. omega (arith, c.type_inv.key i)) in
    let done = put_held g.met.I.Key.Ord.total g.met.I.Runs.exact s (g.I.Runs.view c.set_at.new.self) key (g.met.I.Runs.lawful c.self.inside.index) (g.met.I.Runs.lawful c.set_at.new.self) c.self.invariant
    c.in-Some.place c.in_ok-record-2.record c.in_ok-record-2.ensures.key bytes (key_at_place g (goal.at.returns-clause-set g c).In-Some)
    (c.set_at.ensures.changed ∙ ap (λ k. with_edit g.I.Key.Ord.cmp s k (λ l. slice_set l c.in-Some.place c.in_ok-record-2.record)) c.slot_of-slot.ensures) in
    (done.0, done.1 ∙ (λ i. insert (c.self.view_is i) key (c.in_ok-record-2.ensures.position i)))

pub invariant_of-self-2 : goal.invariant_of-self-2
invariant_of-self-2 g c = (record_replaced g c).0

pub returns-clause-set : goal.returns-clause-set
returns-clause-set g c = (record_replaced g c).1

pub returns-clause-full : goal.returns-clause-full
returns-clause-full g c =
    let held = is_some-not_none (key_found g (goal.at.returns-clause-full g c).After-get c.in-Some.ensures.found) in
    search (rules, held)
