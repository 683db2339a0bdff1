-- The bound on moved values is kept.
--     step_keeps                a step that moves `cost` values, and leaves one partition standing otherwise
--     credit_pays, range_pays   what an index and a range owe pays for a spill and for an edit
--     Paid                      what a partition owes pays for what becomes of it
--     paid-then, paid-same      one change after another, and none
--     paid-settled, paid-left   a partition settled, and an edit in it as it stands
--     paid-call, paid-edit      a call by key, and a cursor's edit
--     paid-refused              a refused insertion
--     paid-removed              a call that moves a small one back: the bound of an index alone
--     refused-threshold, ..     neither changes the threshold
--     stays_paid                the bound holds of them all
--     range_within              a range is within the bound of an index of any threshold
--     install_within            an index keeps the bound when it gets a range of any threshold
--     new_ranged, new_within    where nothing was moved yet
use Rattle.std.proofs.Common.{◌≡◌, inl, inr, ℕ, zero, suc, ◌+◌, ◌-◌, ◌*◌, ◌^◌, ◌<◌, ◌≤◌, Bool, true, false, not, ◌&&◌, ◌||◌, nat_lt, nat_le, IsTrue, if◌then◌else◌, List, [], ◌∷◌, length, set, get_or, take, drop, ◌++◌, T, refl, sym, ap, subst, arith}
use Rattle.std.proofs.lemmas.Bool.Decides.{nat_tests}
use Rattle.std.proofs.lemmas.List.Sums.{sum_by-set, sum_by-append, sum_by-take-drop, sum_by-drop_more, sum_by-cons}
use Rattle.std.specs.List.{sum_by}
use Rattle.key_index_flat.specs.View.{pruned_after}
use Rattle.key_index_parts.specs.Counts.{one_if}
use Rattle.key_index_parts.specs.Moves.{IsPaid, IsRangeWithin, IsWithin, credit, range_credit}
use Rattle.key_index_parts.specs.Standing.{Account, IsCalled, IsLeftBy, IsRemoved, Returns, Standing, Standings, account_at, called, entries_at, is_due, joined_standings, returned, settled, standing_at, with_account, with_values}

-- owed: what each partition owes; cost: how many values are moved; the count of moved values is raised by no more
step_keeps : (owed : Standing → ℕ) (ps : List Standing) (n : ℕ) (q : Standing) (had has pruned after taken cost : ℕ) → n < length ps
    → has ≤ had + cost → after ≡ pruned_after pruned taken
    → cost + owed q + 2 * (get_or ps n (record { entries = 0; spilled = false })).entries
    ≤ owed (get_or ps n (record { entries = 0; spilled = false })) + 2 * q.entries + 3 * taken
    → (pruned < 2 ^ 64 - 1 → had + sum_by owed ps ≤ 2 * sum_by (λ p. p.entries) ps + 3 * pruned)
    → after < 2 ^ 64 - 1
    → has + sum_by owed (set ps n q) ≤ 2 * sum_by (λ p. p.entries) (set ps n q) + 3 * after
step_keeps owed ps n q had has pruned after taken cost inside counted after_is pays before low =
    let bound = before (omega (arith, after_is, low)) in
    let owes = sum_by-set owed ps n q (record { entries = 0; spilled = false }) inside in
    let counts = sum_by-set (λ p. p.entries) ps n q (record { entries = 0; spilled = false }) inside in
    omega (arith, bound, owes, counts, pays, counted, after_is, low)

-- what partitions owe, by the threshold, pays for the spill of one that is due, and for an edit that takes k values out
pub record Pays (owed : ℕ → Standing → ℕ) : Type 0 where
  pub spill : (t n : ℕ) (b : Bool) → (not b && nat_le t n) ≡ true
      → n + owed t (record { entries = n; spilled = true }) ≤ owed t (record { entries = n; spilled = b })
  pub edit : (t n m k : ℕ) (b : Bool) → n ≤ m + k
      → owed t (record { entries = m; spilled = b && nat_lt 0 m }) + 2 * n ≤ owed t (record { entries = n; spilled = b }) + 2 * m + 3 * k

pub credit_pays : Pays credit
credit_pays = record { spill = spill; edit = edit } where
  spill : (t n : ℕ) (b : Bool) → (not b && nat_le t n) ≡ true
      → n + credit t (record { entries = n; spilled = true }) ≤ credit t (record { entries = n; spilled = b })
  spill t n true due = grind (arith, nat_tests)
  spill t n false due = grind (arith, nat_tests)

  edit : (t n m k : ℕ) (b : Bool) → n ≤ m + k
      → credit t (record { entries = m; spilled = b && nat_lt 0 m }) + 2 * n ≤ credit t (record { entries = n; spilled = b }) + 2 * m + 3 * k
  edit t n m k true left = grind (arith, nat_tests)
  edit t n m k false left = grind (arith, nat_tests)

pub range_pays : Pays (λ _. range_credit)
range_pays = record { spill = spill; edit = edit } where
  spill : (t n : ℕ) (b : Bool) → (not b && nat_le t n) ≡ true
      → n + range_credit (record { entries = n; spilled = true }) ≤ range_credit (record { entries = n; spilled = b })
  spill t n true due = grind (arith, nat_tests)
  spill t n false due = grind (arith, nat_tests)

  edit : (t n m k : ℕ) (b : Bool) → n ≤ m + k
      → range_credit (record { entries = m; spilled = b && nat_lt 0 m }) + 2 * n ≤ range_credit (record { entries = n; spilled = b }) + 2 * m + 3 * k
  edit t n m k true left = grind (arith, nat_tests)
  edit t n m k false left = grind (arith, nat_tests)

-- what a partition owes pays for what becomes of it: b where it was a, with so many values taken out
pub record Paid (owed : Standing → ℕ) (a b : Account) (gone : ℕ) : Type 0 where
  pub cost : ℕ
  pub counted : b.moved ≤ a.moved + cost
  pub cheap : cost + owed b.standing + 2 * a.standing.entries ≤ owed a.standing + 2 * b.standing.entries + 3 * gone

pub paid-then : {owed : Standing → ℕ} (a b c : Account) (g h k : ℕ) → Paid owed a b g → Paid owed b c h → g + h ≡ k → Paid owed a c k
paid-then a b c g h k first next sum = record {
  cost = first.cost + next.cost;
  counted = omega (arith, first.counted, next.counted);
  cheap = omega (arith, first.cheap, next.cheap, sum);
}

pub paid-same : {owed : Standing → ℕ} (a : Account) → Paid owed a a 0
paid-same a = record { cost = 0; counted = omega arith; cheap = omega arith }

module _ {owed : ℕ → Standing → ℕ} (pays : Pays owed) (spills : Bool) (a : Account) where
  pub paid-settled : Paid (owed a.threshold) a (settled spills a) 0
  paid-settled =
      elim (spills && is_due a) as (λ d. (spills && is_due a) ≡ d → Paid (owed a.threshold) a (record {
        threshold = a.threshold;
        standing = record { entries = a.standing.entries; spilled = d || a.standing.spilled };
        spills = pruned_after a.spills (one_if d);
        moved = pruned_after a.moved (if d then a.standing.entries else 0);
      }) 0) [
        | true ↦ λ e. record {
          cost = a.standing.entries;
          counted = omega arith;
          cheap = let cheap = pays.spill a.threshold a.standing.entries a.standing.spilled (both_true spills (is_due a) e) in omega (arith, cheap);
        }
        | false ↦ λ e. record { cost = 0; counted = omega arith; cheap = omega arith }
      ] refl
    where
      both_true : (x y : Bool) → (x && y) ≡ true → y ≡ true
      both_true true y e = e
      both_true false y e = absurd (subst T (sym e) tt)

pub paid-left : {owed : ℕ → Standing → ℕ} → Pays owed → (a : Account) (m gone : ℕ) → a.standing.entries ≤ m + gone
    → Paid (owed a.threshold) a (with_values a m) gone
paid-left pays a m gone left = record {
  cost = 0;
  counted = omega arith;
  cheap = let cheap = pays.edit a.threshold a.standing.entries m gone a.standing.spilled left in omega (arith, cheap);
}

module _ {owed : ℕ → Standing → ℕ} (pays : Pays owed) (spills : Bool) (a b : Account) (gone : ℕ) (left : a.standing.entries ≤ b.standing.entries + gone) where
  pub paid-called : Paid (owed a.threshold) a (called spills a b.standing.entries) gone
  paid-called =
      let m = b.standing.entries in
      let edited = with_values (settled spills a) m in
      paid-then a (settled spills a) (called spills a m) 0 gone gone (paid-settled pays spills a)
      (paid-then (settled spills a) edited (called spills a m) gone 0 gone (paid-left pays (settled spills a) m gone left) (paid-settled pays spills edited) (omega arith)) (omega arith)

  pub paid-call : IsCalled spills a b → Paid (owed a.threshold) a b gone
  paid-call is = subst (λ x. Paid (owed a.threshold) a x gone) (sym is) paid-called

  pub paid-edit : b ≡ with_values a b.standing.entries → Paid (owed a.threshold) a b gone
  paid-edit is = subst (λ x. Paid (owed a.threshold) a x gone) (sym is) (paid-left pays a b.standing.entries gone left)

pub paid-refused : {owed : ℕ → Standing → ℕ} → Pays owed → (spills : Bool) (a b : Account) → IsLeftBy spills a b → Paid (owed a.threshold) a b 0
paid-refused {owed = owed} pays spills a b (inl same) = subst (λ x. Paid (owed a.threshold) a x 0) (sym same) (paid-same a)
paid-refused {owed = owed} pays spills a b (inr so) = subst (λ x. Paid (owed a.threshold) a x 0) (sym so) (paid-settled pays spills a)

-- the bound of an index alone
pub paid-removed : (spills : Bool) (a b : Account) (gone : ℕ) → a.standing.entries ≤ b.standing.entries + gone → IsRemoved spills a b → Paid (credit a.threshold) a b gone
paid-removed spills a b gone left told = by_case told where
  between : Account
  between = called spills a b.standing.entries

  back_pays : (t n : ℕ) (s : Bool) → IsTrue (s && nat_lt (2 * n) t)
      → n + credit t (record { entries = n; spilled = false }) ≤ credit t (record { entries = n; spilled = s })
  back_pays t n true small = grind (arith, nat_tests)
  back_pays t n false small = grind (arith, nat_tests)

  by_case : Returns between b → Paid (credit a.threshold) a b gone
  by_case (inl same) = paid-call credit_pays spills a b gone left same
  by_case (inr back) =
      let cheap = back_pays a.threshold b.standing.entries between.standing.spilled back.0 in
      subst (λ x. Paid (credit a.threshold) a x gone) (sym back.1)
      (paid-then a between (returned between) gone 0 gone (paid-called credit_pays spills a b gone left)
      (record { cost = b.standing.entries; counted = omega arith; cheap = omega (arith, cheap) }) (omega arith))

pub refused-threshold : (spills : Bool) (a b : Account) → IsLeftBy spills a b → b.threshold ≡ a.threshold
refused-threshold spills a b (inl same) = ap (λ x. x.threshold) same
refused-threshold spills a b (inr so) = ap (λ x. x.threshold) so

pub removed-threshold : (spills : Bool) (a b : Account) → IsRemoved spills a b → b.threshold ≡ a.threshold
removed-threshold spills a b told = by_case told where
  by_case : Returns (called spills a b.standing.entries) b → b.threshold ≡ a.threshold
  by_case (inl same) = ap (λ x. x.threshold) same
  by_case (inr back) = ap (λ x. x.threshold) back.1

-- so the bound holds of them all
pub stays_paid : (owed : ℕ → Standing → ℕ) (old new : Standings) (n pruned after gone : ℕ) → n < length old.buckets → after ≡ pruned_after pruned gone
    → new ≡ with_account old n (account_at new n) → new.threshold ≡ old.threshold → Paid (owed old.threshold) (account_at old n) (account_at new n) gone
    → IsPaid (owed old.threshold) old pruned → IsPaid (owed new.threshold) new after
stays_paid owed old new n pruned after gone inside after_is alone same paid before =
    subst (λ t. IsPaid (owed t) new after) (sym same)
    (subst (λ s. IsPaid (owed old.threshold) s after) (sym alone)
    (step_keeps (owed old.threshold) old.buckets n (standing_at new n) old.moved new.moved pruned after gone paid.cost inside paid.counted after_is paid.cheap before))

credit_least : (t n : ℕ) (b : Bool) → credit t (record { entries = n; spilled = b }) ≤ range_credit (record { entries = n; spilled = b })
credit_least t n true = grind arith
credit_least t n false = grind arith

credits_least : (t : ℕ) (ps : List Standing) → sum_by (credit t) ps ≤ sum_by range_credit ps
credits_least t [] = omega arith
credits_least t (p ∷ ps) =
    let first = credit_least t p.entries p.spilled in let rest = credits_least t ps in
    omega (arith, first, rest, sum_by-cons (credit t) p ps, sum_by-cons range_credit p ps)

pub range_within : (s : Standings) (pruned t : ℕ) → IsRangeWithin s pruned → IsPaid (credit t) s pruned
range_within s pruned t h low = let bound = h low in let least = credits_least t s.buckets in omega (arith, bound, least)

module _ (ps : List Standing) (first : ℕ) where
  sum_by-drop_first : (f : Standing → ℕ) (count : ℕ) → first + suc count ≤ length ps
      → sum_by f (drop (first + count) ps) ≡ f (get_or ps (first + count) (record { entries = 0; spilled = false })) + sum_by f (drop (first + suc count) ps)
  sum_by-drop_first f count fits =
      let next = sum_by-drop_more f ps (first + count) (record { entries = 0; spilled = false }) (omega arith) in
      let same : first + suc count ≡ first + count + 1 = omega arith in
      let moved = ap (λ j. sum_by f (drop j ps)) same in omega (arith, next, moved)

  sum_by-drop_none : (f : Standing → ℕ) → sum_by f (drop (first + 0) ps) ≡ sum_by f (drop first ps)
  sum_by-drop_none f = let same : first + 0 ≡ first = omega arith in ap (λ j. sum_by f (drop j ps)) same

  -- those from `first` on have no values
  sum_by-drop_free : (count : ℕ) → first + count ≤ length ps
      → ((n : ℕ) → first ≤ n → n < first + count → (get_or ps n (record { entries = 0; spilled = false })).entries ≡ 0)
      → sum_by (λ p. p.entries) (drop first ps) ≡ sum_by (λ p. p.entries) (drop (first + count) ps)
  sum_by-drop_free zero fits free = sym (sum_by-drop_none (λ p. p.entries))
  sum_by-drop_free (suc count) fits free =
      let rest = sum_by-drop_free count (omega arith) (λ n from below. free n from (omega arith)) in
      let next = sum_by-drop_first (λ p. p.entries) count fits in
      let none = free (first + count) (omega arith) (omega arith) in omega (arith, rest, next, none)

  fewer_credits : (t count : ℕ) → first + count ≤ length ps → sum_by (credit t) (drop (first + count) ps) ≤ sum_by (credit t) (drop first ps)
  fewer_credits t zero fits = let none = sum_by-drop_none (credit t) in omega (arith, none)
  fewer_credits t (suc count) fits =
      let rest = fewer_credits t count (omega arith) in let next = sum_by-drop_first (credit t) count fits in omega (arith, rest, next)

-- a range of any threshold goes into partitions without values
pub install_within : (s range : Standings) (first pruned taken : ℕ) → first + length range.buckets ≤ length s.buckets
    → ((n : ℕ) → first ≤ n → n < first + length range.buckets → entries_at s n ≡ 0)
    → IsWithin s pruned → IsRangeWithin range taken → IsWithin (joined_standings s first range) (pruned_after pruned taken)
install_within s range first pruned taken fits free before apart low =
    let own = before (omega arith) in
    let other = range_within range taken s.threshold apart (omega arith) in
    let gap = sum_by-drop_free s.buckets first (length range.buckets) fits free in
    let whole = sum_by-take-drop (λ p. p.entries) s.buckets first in
    let all = sum_by-append (λ p. p.entries) (take first s.buckets) (range.buckets ++ drop (first + length range.buckets) s.buckets) in
    let late = sum_by-append (λ p. p.entries) range.buckets (drop (first + length range.buckets) s.buckets) in
    let owed = sum_by-append (credit s.threshold) (take first s.buckets) (range.buckets ++ drop (first + length range.buckets) s.buckets) in
    let owed_late = sum_by-append (credit s.threshold) range.buckets (drop (first + length range.buckets) s.buckets) in
    let owed_whole = sum_by-take-drop (credit s.threshold) s.buckets first in
    let owed_rest = fewer_credits s.buckets first s.threshold (length range.buckets) fits in
    omega (arith, own, other, gap, whole, all, late, owed, owed_late, owed_whole, owed_rest)

-- where nothing was moved yet; an index too, by range_within
pub new_ranged : (s : Standings) (pruned : ℕ) → s.moved ≡ 0 → IsRangeWithin s pruned
new_ranged s pruned none low = let owed = owed_most s.buckets in omega (arith, none, owed) where
  most : (n : ℕ) (b : Bool) → range_credit (record { entries = n; spilled = b }) ≤ 2 * n
  most n true = grind arith
  most n false = grind arith

  owed_most : (ps : List Standing) → sum_by range_credit ps ≤ 2 * sum_by (λ p. p.entries) ps
  owed_most [] = omega arith
  owed_most (p ∷ ps) =
      let one = most p.entries p.spilled in let rest = owed_most ps in
      omega (arith, one, rest, sum_by-cons range_credit p ps, sum_by-cons (λ q. q.entries) p ps)

pub new_within : (s : Standings) (pruned : ℕ) → s.moved ≡ 0 → IsWithin s pruned
new_within s pruned none = range_within s pruned s.threshold (new_ranged s pruned none)
