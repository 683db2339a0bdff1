-- Ops that are all accepted are a legal run of commands, which ends at `after_ops`.
--     step_legal, steps_legal      a step with its flag, and steps with theirs
--     op_legal, ops_legal          an op, and ops in turn; runs_as: the same as a clause has it
use Rattle.std.proofs.Common.{◌≡◌, ℕ, ◌+◌, ◌-◌, ◌^◌, ◌<◌, ◌≤◌, Bool, true, false, List, [], ◌∷◌, length, take, drop, map, add-one, length-append, length-take, length-drop, length-set, refl, sym, ap, subst, arith}
use Rattle.std.specs.declared.cmp.Ordering.{Ordering}
use Rattle.std.specs.declared.cmp.Ordering.TheVariants.{Equal}
use Rattle.std.specs.Cmp.{IsTotalOrder}
use Rattle.key_index_flat.specs.declared.index.command.Step.{Step}
use Rattle.key_index_flat.specs.declared.index.command.Step.TheVariants as step
use Rattle.key_index_flat.specs.declared.index.command.Outcome.{Outcome}
use Rattle.key_index_flat.specs.declared.index.command.Outcome.TheVariants as outcome
use Rattle.key_index_flat.specs.Content.{Content, list_at, with_list, item_count, IsLawful}
use Rattle.key_index_flat.specs.laws.Laws.{IsLawful-with_list}
use Rattle.key_index_flat.specs.View.{View, with_run, with_pruned}
use Rattle.key_index_flat.specs.Cursor.{Place, NeedNext, Active, Done, list_after_insert, list_after_update, list_after_delete}
use Rattle.key_index_flat.specs.Steps.{Edited, after_step, is_allowed}
use Rattle.key_index_flat.specs.Run.{edit_start, StepGives, EditGives, EditUnlessAbsent, CommandGives, IsLegal}
use Rattle.key_index_flat.proofs.content.ContentLemmas.{item_count-with_list, with_list-same}
use Rattle.key_index_flat.proofs.runs.CursorLemmas.{pruned_none}
use Rattle.key_index_flat.proofs.runs.RunLemmas.{not_full, after_skipped}
use Rattle.key_index_parts.specs.Ops.{after_steps, edit_held, after_op, after_ops, op_key}
use Rattle.key_index_parts.specs.Accepted.{flags_of, flags_held, command_of, IsAccepted, AreAccepted, HaveSpace, RunsAs}
use Rattle.key_index_parts.specs.declared.index.partitioned.builds.op.Op.{Op}
use Rattle.key_index_parts.specs.declared.index.partitioned.builds.op.Op.TheVariants as op

module _ {V : Type 0} where
  step_legal : (others : ℕ) (x : Step V) (s : Edited V) → others + length s.items < 2 ^ 64 - 1 → StepGives others x (is_allowed x s.place) s (after_step x s)
  step_legal others x s h =
      elim (is_allowed x s.place) as (λ b. is_allowed x s.place ≡ b → StepGives others x b s (after_step x s)) [
        | true ↦ λ e. (e, (λ i. not_full (others + length s.items) (others + length s.items) h refl), refl)
        | false ↦ λ e. ((λ a. absurd (cc (a, e))), after_skipped x s e)
      ] refl

  insert_longer : (l : List V) (p : Place) (v : V) → length (list_after_insert l p v) ≤ length l + 1
  insert_longer l (NeedNext i) v = omega arith
  insert_longer l (Active i) v =
      let a = length-append (take (i + 1) l) (v ∷ drop (i + 1) l) in let t = length-take (i + 1) l in let d = length-drop (i + 1) l in omega (arith, a, t, d)
  insert_longer l Done v = let a = length-append l (v ∷ []) in omega (arith, a)

  delete_shorter : (l : List V) (p : Place) → length (list_after_delete l p) ≤ length l + 1
  delete_shorter l (NeedNext i) = omega arith
  delete_shorter l (Active i) =
      let a = length-append (take i l) (drop (i + 1) l) in let t = length-take i l in let d = length-drop (i + 1) l in omega (arith, a, t, d)
  delete_shorter l Done = omega arith

  update_same : (l : List V) (p : Place) (v : V) → length (list_after_update l p v) ≤ length l + 1
  update_same l (NeedNext i) v = omega arith
  update_same l (Active i) v = let a = length-set l i v in omega (arith, a)
  update_same l Done v = omega arith

  length-after_step : (x : Step V) (s : Edited V) → length (after_step x s).items ≤ length s.items + 1
  length-after_step step.Next s = omega arith
  length-after_step (step.Insert v) s = insert_longer s.items s.place v
  length-after_step (step.Update v) s = update_same s.items s.place v
  length-after_step step.Delete s = delete_shorter s.items s.place

  pub steps_legal : (others : ℕ) (xs : List (Step V)) (s : Edited V) → others + length s.items + length xs < 2 ^ 64 → EditGives others xs (flags_of xs s) s (after_steps xs s)
  steps_legal others [] s h = refl
  steps_legal others (x ∷ xs) s h =
      let more = length-after_step x s in
      let long : length (x ∷ xs) ≡ length xs + 1 = sym (add-one (length xs)) in
      (after_step x s, step_legal others x s (omega (arith, h, long)), steps_legal others xs (after_step x s) (omega (arith, h, more, long)))

module _ {K V F : Type 0} {cmp : K → K → Ordering} (o : IsTotalOrder cmp) (first : Bool) (ask : F → V → Bool → F → Type 0) where
  edit_legal : (k : K) (s : View K V) (l : List V) (steps : List (Step V)) (flags : List Bool) → IsLawful cmp s.content → list_at cmp s.content k ≡ l → item_count s.content + length steps < 2 ^ 64 → with_list cmp s.content k l ≡ s.content
      → flags ≡ flags_held steps l → EditUnlessAbsent cmp k l steps flags s (with_pruned (with_run cmp s k (edit_held steps l).items) (edit_held steps l).taken)
  edit_legal k s [] steps flags h is room same said = (said, (λ i. record s { content = same i; pruned = sym (pruned_none s.pruned) i }))
  edit_legal k s (v ∷ vs) steps flags h is room same said =
      let others = item_count (with_list cmp s.content k []) in
      let sum = item_count-with_list o s.content k [] h in
      let long : length (list_at cmp s.content k) ≡ length (v ∷ vs) = ap (λ m. length m) is in
      let all : others + length (v ∷ vs) ≡ item_count s.content = omega (arith, sum, long) in
      let start : Edited V = edit_start (v ∷ vs) in
      (after_steps steps start, subst (λ m. EditGives others steps flags (edit_start m) (after_steps steps start)) (sym is) (subst (λ f. EditGives others steps f start (after_steps steps start)) (sym said) (steps_legal others steps start (omega (arith, room, all)))), refl)

  -- again: the same list put at its key
  pub op_legal : ((c : Content K V) (k : K) → IsLawful cmp c → with_list cmp c k (list_at cmp c k) ≡ c) → (x : Op V) (out : Outcome) (s : View K V) → IsLawful cmp s.content → HaveSpace cmp first (x ∷ []) s
      → IsAccepted x (list_at cmp s.content (s.slot (op_key x))) out → CommandGives cmp first ask (command_of x) out s (after_op cmp first x s)
  op_legal again (op.Insert key v) outcome.Done s h room good = (not_full (item_count s.content) (item_count s.content) (omega (arith, room.0)) refl, (λ i. record (after_op cmp first (op.Insert key v) s) { pruned = sym (pruned_none s.pruned) i }))
  op_legal again (op.Insert key v) (outcome.Refused f) s h room good = absurd good
  op_legal again (op.Insert key v) (outcome.Edited flags) s h room good = absurd good
  op_legal again (op.GetOrInsert key v) outcome.Done s h room good = (not_full (item_count s.content) (item_count s.content) (omega (arith, room.0)) refl, (λ i. record (after_op cmp first (op.GetOrInsert key v) s) { pruned = sym (pruned_none s.pruned) i }))
  op_legal again (op.GetOrInsert key v) (outcome.Refused f) s h room good = absurd good
  op_legal again (op.GetOrInsert key v) (outcome.Edited flags) s h room good = absurd good
  op_legal again (op.Edit key steps) outcome.Done s h room good = absurd good
  op_legal again (op.Edit key steps) (outcome.Refused f) s h room good = absurd good
  op_legal again (op.Edit key steps) (outcome.Edited flags) s h room good =
      edit_legal (s.slot key.items) s (list_at cmp s.content (s.slot key.items)) steps.items flags.items h refl room.0 (again s.content (s.slot key.items) h) good

  pub ops_legal : ((c : Content K V) (k : K) → IsLawful cmp c → with_list cmp c k (list_at cmp c k) ≡ c) → (xs : List (Op V)) (os : List Outcome) (s : View K V) → IsLawful cmp s.content → HaveSpace cmp first xs s
      → AreAccepted cmp first xs os s → IsLegal cmp first ask (map command_of xs) os s (after_ops cmp first xs s)
  ops_legal again [] [] s h room good = refl
  ops_legal again [] (out ∷ os) s h room good = absurd good
  ops_legal again (x ∷ xs) [] s h room good = absurd good
  ops_legal again (x ∷ xs) (out ∷ os) s h room good =
      (after_op cmp first x s, op_legal again x out s h (room.0, tt) good.0, ops_legal again xs os (after_op cmp first x s) (IsLawful-with_list o s.content (s.slot (op_key x)) _ h) room.1 good.1)

module _ {K V : Type 0} {cmp : K → K → Ordering} (o : IsTotalOrder cmp) (exact : (x y : K) → cmp x y ≡ Equal → x ≡ y) where
  pub runs_as : (first : Bool) (ops : List (Op V)) (s t : View K V) → IsLawful cmp s.content → t ≡ after_ops cmp first ops s → RunsAs cmp first ops s t
  runs_as first ops s t h is os good space =
      subst (λ u. IsLegal cmp first (λ f v b g. ⊥) (map (command_of {F = Unit {0}}) ops) os s u) (sym is)
      (ops_legal o first (λ f v b g. ⊥) (λ c k l. with_list-same o exact c k l) ops os s h space good)
