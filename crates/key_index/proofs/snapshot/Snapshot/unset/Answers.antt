use Rattle.std.proofs.Common.{◌≡◌, rules, not, is_some, nat_lt, ap, ◌∙◌}
use Rattle.std.proofs.lemmas.Fn.{filter_same}
use Rattle.std.specs.FinMap.{get, remove}
use Rattle.std.specs.Str.{bytes_eq}
use Rattle.key_index_flat.specs.View.{items_in, run_of}
use Rattle.key_index.specs.Snapshot.{IsKept, key_of, positions_in}
use Rattle.key_index.proofs.snapshots.KeptLemmas.{IsKept-removed, fewer_items}
use Rattle.key_index.proofs.snapshot.Snapshot.unset.Given.{Over}
use Rattle.key_index.proofs.snapshot.Snapshot.unset.Goals.{After-items}
use Rattle.key_index.proofs.snapshot.Snapshot.unset.Goals as goal

key_taken_out : (g : Over) (c : After-items g) → let s = g.I.Runs.view c.self.inside.index in let t = g.I.Runs.view c.retain.new.self in
    IsKept g.I.Key.Ord.cmp t × (positions_in t ≡ remove (positions_in s) c.args.key.now) × (nat_lt (items_in t) (items_in s) ≡ is_some (get (positions_in s) c.args.key.now))
key_taken_out g c =
    let old = c.self.inside.index in
    let new = c.retain.new.self in
    let key = c.args.key.now in
    let said = c.in_ok-retain.ensures.accepted in
    let left = filter_same _ (λ r. not (bytes_eq (key_of r) key)) _ (λ x b f k. search rules) (run_of g.I.Key.Ord.cmp (g.I.Runs.view old) key) said.0 said.1 in
    let kept = IsKept-removed g.met.I.Key.Ord.total g.met.I.Runs.exact (g.I.Runs.view old) (g.I.Runs.view new) key (g.met.I.Runs.lawful old) (g.met.I.Runs.lawful new) c.self.invariant said.0 _ left said.2 in
    (kept.0, kept.1, fewer_items g.met.I.Key.Ord.total g.met.I.Runs.exact (g.I.Runs.view old) (g.I.Runs.view new) key (g.met.I.Runs.lawful old) (g.met.I.Runs.lawful new) c.self.invariant said.0 _ left said.2)

pub invariant_of-self-2 : goal.invariant_of-self-2
invariant_of-self-2 g c = (key_taken_out g c).0

pub returns-clause-unset : goal.returns-clause-unset
returns-clause-unset g c = (key_taken_out g c).1 ∙ ap (λ m. remove m c.args.key.now) c.self.view_is

pub returns-clause-was_there : goal.returns-clause-was_there
returns-clause-was_there g c = (λ i. nat_lt (c.items.ensures i) (c.items-held.ensures i)) ∙ (key_taken_out g c).2 ∙ ap (λ m. is_some (get m c.args.key.now)) c.self.view_is
