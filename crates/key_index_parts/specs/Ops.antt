-- What a list of ops makes of a content, with every step accepted that its state allows.
--     after_steps                  the list, the place and the number of values taken out after steps in turn
--     after_op, after_ops          the view after an op, and after ops in turn; after_op_at: after an op at an index key
--     after_begun                  the view after the first n steps of an op
--     op_key                       the bytes of the key of an op
--     ops_below, ops_within        the ops whose partition is below a number, or from one up to another, in their order
--     AreBelow                     the partition of each op is below n
--     IsCuts                       numbers that strictly ascend from 0 to n
use Rattle.std.specs.Prelude.{◌≡◌, ℕ, Bool, ◌+◌, ◌-◌, ◌<◌, nat_lt, List, [], ◌∷◌, length, take, filter, slice_index}
use Rattle.std.specs.declared.cmp.Ordering.{Ordering}
use Rattle.key_index_flat.specs.declared.index.command.Step.{Step}
use Rattle.key_index_flat.specs.Run.{edit_start, one_if_absent}
use Rattle.key_index_flat.specs.Steps.{Edited, after_step}
use Rattle.key_index_flat.specs.View.{View, put_value, run_at, with_run, with_pruned}
use Rattle.key_index_parts.specs.Joined.{is_between}
use Rattle.key_index_parts.specs.declared.index.partitioned.builds.op.Op.{Op}
use Rattle.key_index_parts.specs.declared.index.partitioned.builds.op.Op.TheVariants as op

module _ {V : Type 0} where
  abbrev pub after_steps : List (Step V) → Edited V → Edited V
  after_steps [] s = s
  after_steps (x ∷ xs) s = after_steps xs (after_step x s)

  -- a key that has no value is not edited
  abbrev pub edit_held : List (Step V) → List V → Edited V
  edit_held steps [] = edit_start []
  edit_held steps (v ∷ vs) = after_steps steps (edit_start (v ∷ vs))

  abbrev pub op_key : Op V → List ℕ
  op_key (op.Insert key v) = key.items
  op_key (op.GetOrInsert key v) = key.items
  op_key (op.Edit key steps) = key.items

  -- the list that an op leaves at its key, and how many values it takes out; first: whether a new value goes in front
  abbrev pub list_after : Bool → Op V → List V → List V
  list_after first (op.Insert key v) l = put_value first v l
  list_after first (op.GetOrInsert key v) l = one_if_absent v l
  list_after first (op.Edit key steps) l = (edit_held steps.items l).items

  abbrev pub taken_after : Op V → List V → ℕ
  taken_after (op.Insert key v) l = 0
  taken_after (op.GetOrInsert key v) l = 0
  taken_after (op.Edit key steps) l = (edit_held steps.items l).taken

module _ {K V : Type 0} (cmp : K → K → Ordering) (first : Bool) where
  abbrev pub after_op_at : K → Op V → View K V → View K V
  after_op_at k x s =
      with_pruned (with_run cmp s k (list_after first x (run_at cmp s k))) (taken_after x (run_at cmp s k))

  abbrev pub after_op : Op V → View K V → View K V
  after_op x s = after_op_at (s.slot (op_key x)) x s

  abbrev pub after_ops : List (Op V) → View K V → View K V
  after_ops [] s = s
  after_ops (x ∷ xs) s = after_ops xs (after_op x s)

module _ {K V : Type 0} (cmp : K → K → Ordering) where
  abbrev pub edited_by : List (Step V) → K → View K V → View K V
  edited_by steps k s =
      with_pruned (with_run cmp s k (edit_held steps (run_at cmp s k)).items) (edit_held steps (run_at cmp s k)).taken

  abbrev pub after_begun : ℕ → Op V → View K V → View K V
  after_begun n (op.Insert key v) s = s
  after_begun n (op.GetOrInsert key v) s = s
  after_begun n (op.Edit key steps) s = edited_by (take n steps.items) (s.slot key.items) s

-- number: the partition of a key
module _ {V : Type 0} (number : List ℕ → ℕ) where
  abbrev pub ops_within : ℕ → ℕ → List (Op V) → List (Op V)
  ops_within a b ops = filter (λ x. is_between a b (number (op_key x))) ops

  abbrev pub ops_below : ℕ → List (Op V) → List (Op V)
  ops_below b ops = filter (λ x. nat_lt (number (op_key x)) b) ops

  abbrev pub AreBelow : ℕ → List (Op V) → Type 0
  AreBelow n [] = Unit {0}
  AreBelow n (x ∷ xs) = (number (op_key x) < n) × AreBelow n xs

pub record IsCuts (cuts : List ℕ) (n : ℕ) : Type 0 where
  pub two : 1 < length cuts
  pub starts : slice_index cuts 0 ≡ 0
  pub ends : slice_index cuts (length cuts - 1) ≡ n
  pub ascends : (i : ℕ) → i + 1 < length cuts → slice_index cuts i < slice_index cuts (i + 1)
