-- The outcomes of ops that are all accepted, and how `after_ops` stands to the legal runs of commands.
--     flags_of                 the flags of steps of which each that its place allows is accepted
--     command_of               the command that an op is
--     IsAccepted, AreAccepted  that an outcome is `Done`, or the flags of the steps
--     HaveSpace                that no op comes near the greatest `usize` of values
--     RunsAs                   with such space, ops that are all accepted are a legal run of commands; first: as in `IsLegal`
use Rattle.std.specs.Prelude.{◌≡◌, ℕ, ◌+◌, ◌^◌, ◌<◌, Bool, false, List, [], ◌∷◌, length, map}
use Rattle.std.specs.declared.cmp.Ordering.{Ordering}
use Rattle.key_index_flat.specs.declared.index.command.Step.{Step}
use Rattle.key_index_flat.specs.declared.index.command.Command.{Command}
use Rattle.key_index_flat.specs.declared.index.command.Command.TheVariants as command
use Rattle.key_index_flat.specs.declared.index.command.Outcome.{Outcome}
use Rattle.key_index_flat.specs.declared.index.command.Outcome.TheVariants as outcome
use Rattle.key_index_flat.specs.Run.{edit_start, IsLegal}
use Rattle.key_index_flat.specs.Steps.{Edited, after_step, is_allowed}
use Rattle.key_index_flat.specs.View.{View, items_in, run_of}
use Rattle.key_index_parts.specs.Ops.{after_op, op_key}
use Rattle.key_index_parts.specs.declared.index.partitioned.builds.op.Op.{Op}
use Rattle.key_index_parts.specs.declared.index.partitioned.builds.op.Op.TheVariants as op

module _ {V : Type 0} where
  abbrev pub flags_of : List (Step V) → Edited V → List Bool
  flags_of [] s = []
  flags_of (x ∷ xs) s = is_allowed x s.place ∷ flags_of xs (after_step x s)

  -- all false where the key has no value
  abbrev pub flags_held : List (Step V) → List V → List Bool
  flags_held steps [] = map (λ x. false) steps
  flags_held steps (v ∷ vs) = flags_of steps (edit_start (v ∷ vs))

  abbrev pub op_size : Op V → ℕ
  op_size (op.Insert key v) = 1
  op_size (op.GetOrInsert key v) = 1
  op_size (op.Edit key steps) = length steps.items

  abbrev pub IsAccepted : Op V → List V → Outcome → Type 0
  IsAccepted (op.Insert key v) l outcome.Done = Unit {0}
  IsAccepted (op.Insert key v) l (outcome.Refused f) = ⊥
  IsAccepted (op.Insert key v) l (outcome.Edited flags) = ⊥
  IsAccepted (op.GetOrInsert key v) l outcome.Done = Unit {0}
  IsAccepted (op.GetOrInsert key v) l (outcome.Refused f) = ⊥
  IsAccepted (op.GetOrInsert key v) l (outcome.Edited flags) = ⊥
  IsAccepted (op.Edit key steps) l outcome.Done = ⊥
  IsAccepted (op.Edit key steps) l (outcome.Refused f) = ⊥
  IsAccepted (op.Edit key steps) l (outcome.Edited flags) = flags.items ≡ flags_held steps.items l

abbrev pub command_of : {V F : Type 0} → Op V → Command V F
command_of (op.Insert key v) = command.Insert key v
command_of (op.GetOrInsert key v) = command.GetOrInsert key v
command_of (op.Edit key steps) = command.Edit key steps

module _ {K V : Type 0} (cmp : K → K → Ordering) (first : Bool) where
  abbrev pub AreAccepted : List (Op V) → List Outcome → View K V → Type 0
  AreAccepted [] [] s = Unit {0}
  AreAccepted [] (o ∷ os) s = ⊥
  AreAccepted (x ∷ xs) [] s = ⊥
  AreAccepted (x ∷ xs) (o ∷ os) s =
      IsAccepted x (run_of cmp s (op_key x)) o × AreAccepted xs os (after_op cmp first x s)

  abbrev pub HaveSpace : List (Op V) → View K V → Type 0
  HaveSpace [] s = Unit {0}
  HaveSpace (x ∷ xs) s = (items_in s + op_size x < 2 ^ 64) × HaveSpace xs (after_op cmp first x s)

  abbrev pub RunsAs : List (Op V) → View K V → View K V → Type 0
  RunsAs ops s t =
      (os : List Outcome) → AreAccepted ops os s → HaveSpace ops s
      → IsLegal cmp first (λ f v b g. ⊥) (map (command_of {F = Unit {0}}) ops) os s t
