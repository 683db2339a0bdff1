-- On the answers of a store over an index whose keys are in order.
--     sees_ordered                   what a store keeps, once records were read
--     StandsAt, sees_place           and where a key stands in its list, once it was looked up
--     stands_held                    by that, whether it has a value
--     Tells                          and the position that is found has the entry that is asked for
--     beside_told, end_told          on one side of a key: the nearest one above it, or below it;  at one end: the first of all, or the last
--     told_entry, told_fault         what a read of the record at the position gives:  its entry, or why it is refused
--     walk_live                      a walk from a place on comes to live positions alone
use Rattle.std.proofs.Common.{◌≡◌, ◌≤◌, ◌+◌, ℕ, Bool, true, false, if◌then◌else◌, List, length, take, Option, is_some, Result, Vec, Global, All, sym, ap, subst, ◌∙◌}
use Rattle.std.proofs.lemmas.Result.{IfErr-weaker, IfOk-weaker}
use Rattle.std.specs.Cmp.{IsTotalOrder}
use Rattle.std.specs.FinMap.{entries, get}
use Rattle.std.specs.Option.{IfSome, option_map}
use Rattle.std.specs.Result.{IfErr, IfOk}
use Rattle.std.specs.declared.cmp.Ordering.{Ordering}
use Rattle.key_index_flat.specs.Content.{IsLawful}
use Rattle.key_index_flat.specs.FullKeys.{IsBytes}
use Rattle.key_index_flat.specs.Neighbours.{KeepsOrder, first_entry, last_entry}
use Rattle.key_index_flat.specs.Values.{values_of}
use Rattle.key_index_flat.specs.View.{View, run_of}
use Rattle.key_index_store.specs.Damage.{MayMissAt}
use Rattle.key_index_store.specs.Device.{IsRead, Sees}
use Rattle.key_index_store.specs.Indexed.{IsLive, IsPlace, IsRun, Keeps, entry_at}
use Rattle.key_index_store.specs.Positions.{first_from, last_before, positions_from}
use Rattle.key_index_store.specs.Stored.{Values, entry_after, entry_before, held_by, in_bytes}
use Rattle.key_index_store.specs.declared.store.Fault.{Fault}
use Rattle.key_index_store.specs.declared.store.Tail.{Tail}
use Rattle.key_index_store.proofs.DamageLemmas.{IsMissedAt, missed_at}
use Rattle.key_index_store.proofs.KeepLemmas.{kept_held}
use Rattle.key_index_store.proofs.NearestLemmas.{IsTold, KeepsOrdered, Pair, above_told, below_told, first_told, last_told, live_from}
use Rattle.key_index_store.proofs.StoreLemmas.{is_run, place-get}

-- ---- a side of a key, and an end of all

abbrev pub position_beside : {K : Type 0} → (K → K → Ordering) → Bool → View K ℕ → List ℕ → ℕ → Bool → Option ℕ
position_beside cmp true s key place is_held = first_from cmp s (s.slot key) (place + (if is_held then 1 else 0))
position_beside cmp false s key place is_held = last_before cmp s (s.slot key) place

abbrev pub entry_beside : Bool → Values → List ℕ → Option Pair
entry_beside true m key = entry_after m key
entry_beside false m key = entry_before m key

abbrev pub end_of_all : {X : Type 0} → Bool → List X → Option X
end_of_all true l = first_entry l
end_of_all false l = last_entry l

-- ---- what a store keeps

module _ {K : Type 0} (cmp : K → K → Ordering) (log : List ℕ) (s : View K ℕ) (end : ℕ) (t : Tail) where
  pub record StandsAt (key : List ℕ) (place : ℕ) (is_held : Bool) : Type 0 where
    pub ordered : KeepsOrdered cmp log s end t
    pub bytes : IsBytes key
    pub at : IsPlace (entry_at (take end log)) key (run_of cmp s key) place is_held

  pub record Tells (r : Option ℕ) (answer : Option Pair) : Type 0 where
    pub kept : Keeps cmp log s end t
    pub told : IsTold (take end log) r answer

module _ {K : Type 0} {cmp : K → K → Ordering} {s : View K ℕ} {end : ℕ} {t : Tail} {D : Type 0} {seen : D → Option (List ℕ)} {damaged : D → ℕ → Type 0}
    {may_leave : D → Option (List ℕ) → Type 0} {old new : D} (read : IsRead seen damaged may_leave old new) (keeps : Sees (seen old) (λ log. Keeps cmp log s end t)) where
  pub sees_ordered : IsTotalOrder cmp → IsLawful cmp s.content → KeepsOrder cmp s.slot → Sees (seen new) (λ log. KeepsOrdered cmp log s end t)
  sees_ordered total lawful in_order log sees = record { total = total; lawful = lawful; in_order = in_order; kept = keeps log (read.stays log sees) }

  pub sees_place : IsTotalOrder cmp → IsLawful cmp s.content → KeepsOrder cmp s.slot → {key : List ℕ} {place : ℕ} {is_held : Bool} → IsBytes key
      → Sees (seen new) (λ log. end ≤ length log → IsRun (take end log) (run_of cmp s key) → IsPlace (entry_at (take end log)) key (run_of cmp s key) place is_held)
      → Sees (seen new) (λ log. StandsAt cmp log s end t key place is_held)
  sees_place total lawful in_order {key} bytes at log sees =
      let kept = keeps log (read.stays log sees) in
      record {
        ordered = sees_ordered total lawful in_order log sees;
        bytes = bytes;
        at = at log sees kept.within (is_run cmp (take end log) s key kept.indexed);
      }

-- ---- the position that is asked for

module _ {K : Type 0} {cmp : K → K → Ordering} {log : List ℕ} {s : View K ℕ} {end : ℕ} {t : Tail} where
  pub stands_held : {key : List ℕ} {place : ℕ} {is_held : Bool} → StandsAt cmp log s end t key place is_held → is_held ≡ is_some (get (held_by log) key)
  stands_held {key} {place} {is_held} h =
      place-get cmp (take end log) s key place is_held h.ordered.kept.indexed h.at ∙ ap (λ m. is_some (get m key)) (sym (kept_held cmp log s end t h.ordered.kept))

  pub beside_told : (is_above : Bool) {key : List ℕ} {place : ℕ} {is_held : Bool} {r : Option ℕ} → StandsAt cmp log s end t key place is_held → r ≡ position_beside cmp is_above s key place is_held
      → Tells cmp log s end t r (entry_beside is_above (held_by log) key)
  beside_told is_above {key} {place} {is_held} h is = record {
    kept = h.ordered.kept;
    told = subst (λ r. IsTold (take end log) r (entry_beside is_above (held_by log) key)) (sym is) (of is_above);
  }
    where
      of : (b : Bool) → IsTold (take end log) (position_beside cmp b s key place is_held) (entry_beside b (held_by log) key)
      of true = above_told h.ordered key h.bytes place is_held h.at
      of false = below_told h.ordered key h.bytes place is_held h.at

  pub end_told : (is_first : Bool) {r : Option ℕ} → KeepsOrdered cmp log s end t → r ≡ end_of_all is_first (values_of s.content) → Tells cmp log s end t r (end_of_all is_first (entries (held_by log)))
  end_told is_first ordered is = record {
    kept = ordered.kept;
    told = subst (λ r. IsTold (take end log) r (end_of_all is_first (entries (held_by log)))) (sym is) (of is_first);
  }
    where
      of : (b : Bool) → IsTold (take end log) (end_of_all b (values_of s.content)) (end_of_all b (entries (held_by log)))
      of true = first_told ordered
      of false = last_told ordered

  -- by what is known of the first bytes of the log, which are those that the store keeps
  module _ {r : Option ℕ} {answer : Option Pair} (h : Tells cmp log s end t r answer) (result : Result (Option (Vec ℕ Global × Vec ℕ Global)) Fault) {e : ℕ} (is : e ≡ end) where
    pub told_entry : (e ≤ length log → IfSome r (IsLive (take e log)) → IfOk result (λ o. in_bytes o ≡ option_map (entry_at (take e log)) r)) → IfOk result (λ o. in_bytes o ≡ answer)
    told_entry entry =
        IfOk-weaker result _ _ (λ o own. own ∙ h.told.1)
        (subst (λ n. n ≤ length log → IfSome r (IsLive (take n log)) → IfOk result (λ o. in_bytes o ≡ option_map (entry_at (take n log)) r)) is entry h.kept.within h.told.0)

    pub told_fault : (damaged : ℕ → Type 0) → (e ≤ length log → IfSome r (IsLive (take e log)) → IfErr result (IsMissedAt damaged r)) → IfErr result (MayMissAt damaged log answer)
    told_fault damaged fault =
        IfErr-weaker result _ _ (λ f why. missed_at cmp damaged log s end t h.kept r answer f h.told why)
        (subst (λ n. n ≤ length log → IfSome r (IsLive (take n log)) → IfErr result (IsMissedAt damaged r)) is fault h.kept.within h.told.0)

  -- ---- a walk

  pub walk_live : {key : List ℕ} {k : K} → KeepsOrdered cmp log s end t → IsBytes key → k ≡ s.slot key → (place : ℕ) → All (IsLive (take end log)) (positions_from cmp s k place)
  walk_live {key} ordered bytes slot place = subst (λ k. All (IsLive (take end log)) (positions_from cmp s k place)) (sym slot) (live_from ordered key bytes place)
