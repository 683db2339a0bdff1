-- What a list of commands leaves, by its outcomes: which outcomes are legal, and the content and the count of pruned values at the end.
--     StepGives     one step of an edit: its flag, and the list, the place and the number of values taken out before and after it
--     EditGives     the steps of an edit in turn
--     CommandGives  one command with its outcome: the view before and after it
--     IsLegal       commands with their outcomes, one after another
--     HasTest       P of the test of a command that has one; HaveTests: of each in a list
--     HasRoom       a place for the outcome of a command; HaveRoom: for those of a list
use Rattle.std.specs.Prelude.{◌≡◌, ℕ, ◌+◌, ◌-◌, ◌^◌, Bool, true, false, not, nat_eq, IsTrue, List, [], ◌∷◌, length, map}
use Rattle.std.specs.declared.cmp.Ordering.{Ordering}
use Rattle.key_index_flat.specs.declared.index.Fault.TheVariants.{Memory}
use Rattle.key_index_flat.specs.declared.index.command.Command.{Command}
use Rattle.key_index_flat.specs.declared.index.command.Command.TheVariants as command
use Rattle.key_index_flat.specs.declared.index.command.Outcome.{Outcome}
use Rattle.key_index_flat.specs.declared.index.command.Outcome.TheVariants as outcome
use Rattle.key_index_flat.specs.declared.index.command.Step.{Step}
use Rattle.key_index_flat.specs.declared.index.Fault.{Fault}
use Rattle.key_index_flat.specs.View.{View, growth_fault_in, items_in, run_at, run_of, with_run, with_edit, with_pruned, after_insert, after_remove, InsertsAndRetainsAt, RetainsAt}
use Rattle.key_index_flat.specs.Cursor.{NeedNext}
use Rattle.key_index_flat.specs.Steps.{Edited, is_allowed, inserts, after_step}

-- whether no value has room, at so many
abbrev pub is_full : ℕ → Bool
is_full items = nat_eq items (2 ^ 64 - 1)

-- A step is accepted where the place allows it and one more value has room. Where the place allows it, only an insertion is refused.
-- others: how many values the other index keys have
abbrev pub StepGives : {V : Type 0} → ℕ → Step V → Bool → Edited V → Edited V → Type 0
StepGives others x true s t =
    IsTrue (is_allowed x s.place) × (IsTrue (inserts x s.place) → IsTrue (not (is_full (others + length s.items))))
    × (t ≡ after_step x s)
StepGives others x false s t = (IsTrue (is_allowed x s.place) → IsTrue (inserts x s.place)) × (t ≡ s)

abbrev pub EditGives : {V : Type 0} → ℕ → List (Step V) → List Bool → Edited V → Edited V → Type 0
EditGives others [] [] s t = t ≡ s
EditGives others [] (b ∷ bs) s t = ⊥
EditGives others (x ∷ xs) [] s t = ⊥
EditGives {V = V} others (x ∷ xs) (b ∷ bs) s t = (m : Edited V) × StepGives others x b s m × EditGives others xs bs m t

-- the list of a key that has no value
abbrev pub one_if_absent : {V : Type 0} → V → List V → List V
one_if_absent v [] = v ∷ []
one_if_absent v (x ∷ xs) = x ∷ xs

-- before the first value of a list
abbrev pub edit_start : {V : Type 0} → List V → Edited V
edit_start l = record { items = l; place = NeedNext 0; taken = 0 }

-- the edit of the list at an index key
abbrev pub EditAt : {K V : Type 0} → (K → K → Ordering) → K → List (Step V) → List Bool
    → View K V → View K V → Type 0
EditAt {V = V} cmp k steps flags s t =
    (e : Edited V) × EditGives (items_in (with_run cmp s k [])) steps flags (edit_start (run_at cmp s k)) e
    × (t ≡ with_pruned (with_run cmp s k e.items) e.taken)

-- a key that has no value is not edited
abbrev pub EditUnlessAbsent : {K V : Type 0} → (K → K → Ordering) → K → List V → List (Step V) → List Bool
    → View K V → View K V → Type 0
EditUnlessAbsent cmp k [] steps flags s t = (flags ≡ map (λ x. false) steps) × (t ≡ s)
EditUnlessAbsent cmp k (v ∷ vs) steps flags s t = EditAt cmp k steps flags s t

abbrev pub EditOf : {K V : Type 0} → (K → K → Ordering) → List ℕ → List (Step V) → List Bool
    → View K V → View K V → Type 0
EditOf cmp b steps flags s t = EditUnlessAbsent cmp (s.slot b) (run_of cmp s b) steps flags s t

-- one more value has room, and what is left
abbrev pub Grows : {K V : Type 0} → View K V → View K V → View K V → Type 0
Grows s left t = IsTrue (not (is_full (items_in s))) × (t ≡ left)

-- refused for this reason, with nothing changed
abbrev pub IsRefused : {K V : Type 0} → Fault → Fault → View K V → View K V → Type 0
IsRefused why f s t = (f ≡ why) × (t ≡ s)

-- first: whether a new value goes in front; ask: one question of a command's test on a value
module _ {K V F : Type 0} (cmp : K → K → Ordering) (first : Bool) (ask : F → V → Bool → F → Type 0) where
  abbrev pub CommandGives : Command V F → Outcome → View K V → View K V → Type 0
  CommandGives (command.Insert key v) outcome.Done s t = Grows s (after_insert cmp first s key.items v) t
  CommandGives (command.Insert key v) (outcome.Refused f) s t = IsRefused (growth_fault_in s) f s t
  CommandGives (command.Insert key v) (outcome.Edited flags) s t = ⊥
  CommandGives (command.InsertAndRetain key v test) outcome.Done s t =
      IsTrue (not (is_full (items_in s))) × InsertsAndRetainsAt cmp ask test s key.items v t
  CommandGives (command.InsertAndRetain key v test) (outcome.Refused f) s t = IsRefused (growth_fault_in s) f s t
  CommandGives (command.InsertAndRetain key v test) (outcome.Edited flags) s t = ⊥
  CommandGives (command.Retain key test) outcome.Done s t = RetainsAt cmp ask test s key.items t
  CommandGives (command.Retain key test) (outcome.Refused f) s t = IsRefused Memory f s t
  CommandGives (command.Retain key test) (outcome.Edited flags) s t = ⊥
  CommandGives (command.Remove key) outcome.Done s t = t ≡ after_remove cmp s key.items
  CommandGives (command.Remove key) (outcome.Refused f) s t = IsRefused Memory f s t
  CommandGives (command.Remove key) (outcome.Edited flags) s t = ⊥
  CommandGives (command.GetOrInsert key v) outcome.Done s t =
      Grows s (with_edit cmp s (s.slot key.items) (one_if_absent v)) t
  CommandGives (command.GetOrInsert key v) (outcome.Refused f) s t = IsRefused (growth_fault_in s) f s t
  CommandGives (command.GetOrInsert key v) (outcome.Edited flags) s t = ⊥
  CommandGives (command.Edit key steps) outcome.Done s t = ⊥
  CommandGives (command.Edit key steps) (outcome.Refused f) s t = IsRefused Memory f s t
  CommandGives (command.Edit key steps) (outcome.Edited flags) s t = EditOf cmp key.items steps.items flags.items s t

  abbrev pub IsLegal : List (Command V F) → List Outcome → View K V → View K V → Type 0
  IsLegal [] [] s t = t ≡ s
  IsLegal [] (o ∷ os) s t = ⊥
  IsLegal (c ∷ cs) [] s t = ⊥
  IsLegal (c ∷ cs) (o ∷ os) s t = (m : View K V) × CommandGives c o s m × IsLegal cs os m t

module _ {V F : Type 0} (P : F → Type 0) where
  abbrev pub HasTest : Command V F → Type 0
  HasTest (command.Insert key v) = Unit {0}
  HasTest (command.InsertAndRetain key v test) = P test
  HasTest (command.Retain key test) = P test
  HasTest (command.Remove key) = Unit {0}
  HasTest (command.GetOrInsert key v) = Unit {0}
  HasTest (command.Edit key steps) = Unit {0}

  abbrev pub HaveTests : List (Command V F) → Type 0
  HaveTests [] = Unit {0}
  HaveTests (c ∷ cs) = HasTest c × HaveTests cs

module _ {V F : Type 0} where
  -- a place for the outcome of a command: for an edit with a flag of each step
  abbrev pub HasRoom : Command V F → Outcome → Type 0
  HasRoom (command.Insert key v) o = Unit {0}
  HasRoom (command.InsertAndRetain key v test) o = Unit {0}
  HasRoom (command.Retain key test) o = Unit {0}
  HasRoom (command.Remove key) o = Unit {0}
  HasRoom (command.GetOrInsert key v) o = Unit {0}
  HasRoom (command.Edit key steps) outcome.Done = ⊥
  HasRoom (command.Edit key steps) (outcome.Refused f) = ⊥
  HasRoom (command.Edit key steps) (outcome.Edited flags) = flags.items ≡ map (λ x. false) steps.items

  abbrev pub HaveRoom : List (Command V F) → List Outcome → Type 0
  HaveRoom [] [] = Unit {0}
  HaveRoom [] (o ∷ os) = ⊥
  HaveRoom (c ∷ cs) [] = ⊥
  HaveRoom (c ∷ cs) (o ∷ os) = HasRoom c o × HaveRoom cs os
