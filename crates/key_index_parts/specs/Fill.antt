-- Why a filling is refused.
--     RefusesStep          some steps in turn are done at a cursor, and the one behind them is refused
--     IsFillFault          why an op is refused: want of memory, or the greatest `usize` of values, where some of its steps were done
use Rattle.std.specs.Prelude.{◌≡◌, ◌⊎◌, ℕ, ◌-◌, ◌^◌, List, take}
use Rattle.std.specs.declared.cmp.Ord as ord
use Rattle.std.specs.declared.cmp.PartialEq as eq
use Rattle.std.specs.declared.cmp.PartialOrd as partial
use Rattle.key_index_flat.specs.declared.index.Fault.{Fault}
use Rattle.key_index_flat.specs.declared.index.Fault.TheVariants.{Memory, Full}
use Rattle.key_index_flat.specs.declared.index.command.Step.{Step}
use Rattle.key_index_flat.specs.declared.index.index_cursor.IndexCursor.{IndexCursor}
use Rattle.key_index_flat.specs.declared.index.traits.runs.Runs as runs
use Rattle.key_index_flat.specs.CursorRun.{EditsBy}
use Rattle.key_index_flat.specs.View.{View, items_in, growth_fault_in}
use Rattle.key_index_parts.specs.Ops.{after_steps}

module _ {I V K : Type 0} {r : runs.Ghosts I V K} {o : ord.Ghosts K} {e : eq.Ghosts K} {p : partial.Ghosts K} where
  pub record RefusesStep (steps : List (Step V)) (old : IndexCursor I V K r o e p) (fault : Fault) : Type 0 where
    pub count : ℕ
    pub at : IndexCursor I V K r o e p
    pub edits : EditsBy (after_steps (take count steps)) old at
    pub why : fault ≡ growth_fault_in (r.view at.index.now)

-- beginning: what the first n steps leave
abbrev pub IsFullAfter : {K V : Type 0} → Fault → (ℕ → View K V) → Type 0
IsFullAfter fault begun = (fault ≡ Full) × (n : ℕ) × (items_in (begun n) ≡ 2 ^ 64 - 1)

abbrev pub IsFillFault : {K V : Type 0} → Fault → (ℕ → View K V) → Type 0
IsFillFault fault begun = (fault ≡ Memory) ⊎ IsFullAfter fault begun
