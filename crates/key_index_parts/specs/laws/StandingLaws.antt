-- The laws of standing, in its own words. The threshold is at least 1.
--     inline_filled     a bucket that isn't spilled is held to nothing
--     called-stands     after a call by key a partition has the values that it was left with, and is spilled exactly where there are some and
--                       it was spilled, was due, or is due by the call
--     called-spills     a spill is counted exactly where it stood inline and had reached the threshold, or reaches it by the call
--     called-moved      a spill before the call moves what the partition held, and one behind it what it is left with
--     called-below      it has fewer values in arrays than the threshold
--     removed-stands    after a call that takes values out it stands so too, or a small one stands in arrays: what was moved back is counted
--     removed-spills    that is no spill
--     removed-below     it has fewer values in arrays than the threshold
--     others            every other partition stands as before
use Rattle.std.proofs.Common.{◌≡◌, ◌≢◌, ◌⊎◌, inl, inr, ℕ, ◌*◌, ◌<◌, ◌≤◌, Bool, true, false, not, ◌&&◌, ◌||◌, nat_lt, nat_le, if◌then◌else◌, T, refl, sym, ap, subst, ◌∙◌, arith}
use Rattle.std.proofs.lemmas.Bool.Decides.{nat_tests}
use Rattle.std.proofs.lemmas.List.{get_or-set_other}
use Rattle.std.specs.Prelude.{IsTrue}
use Rattle.key_index_flat.specs.View.{pruned_after}
use Rattle.key_index_parts.specs.Counts.{one_if}
use Rattle.key_index_parts.specs.Standing.{Account, Changes, IsBelow, IsRemoved, Returns, Standings, called, is_due, is_small, standing_at}

pub inline_filled : (n : ℕ) → IsTrue false → 0 < n
inline_filled n h = absurd (subst T (sym h) tt)

-- of a partition that was spilled or not, had reached the threshold or not, and is left with m values
spilled_then : (s e : Bool) (t m : ℕ) → 1 ≤ t → ((not (((not s && e) || s) && nat_lt 0 m) && nat_le t m) || (((not s && e) || s) && nat_lt 0 m))
    ≡ ((s || e || nat_le t m) && nat_lt 0 m)
spilled_then true e t m least = grind (arith, nat_tests)
spilled_then false true t m least = grind (arith, nat_tests)
spilled_then false false t m least = grind (arith, nat_tests)

-- a tree doesn't spill
not_due : (t m : ℕ) → 1 ≤ t → (not (nat_lt 0 m) && nat_le t m) ≡ false
not_due t m least = grind (arith, nat_tests)

spills_then : (s e : Bool) (t m n : ℕ) → 1 ≤ t → pruned_after (pruned_after n (one_if (not s && e))) (one_if (not (((not s && e) || s) && nat_lt 0 m) && nat_le t m))
    ≡ pruned_after n (if not s && (e || nat_le t m) then 1 else 0)
spills_then true e t m n least = ap (λ d. pruned_after (pruned_after n 0) (one_if d)) (not_due t m least) ∙ omega arith
spills_then false true t m n least = ap (λ d. pruned_after (pruned_after n 1) (one_if d)) (not_due t m least) ∙ omega arith
spills_then false false t m n least = omega arith

moved_then : (s e : Bool) (t k m n : ℕ) → 1 ≤ t
    → pruned_after (pruned_after n (if not s && e then k else 0)) (if not (((not s && e) || s) && nat_lt 0 m) && nat_le t m then m else 0)
    ≡ pruned_after n (if not s && e then k else if not s && nat_le t m then m else 0)
moved_then true e t k m n least = ap (λ d. pruned_after (pruned_after n 0) (if d then m else 0)) (not_due t m least) ∙ omega arith
moved_then false true t k m n least = ap (λ d. pruned_after (pruned_after n k) (if d then m else 0)) (not_due t m least) ∙ omega arith
moved_then false false t k m n least = omega arith

below_then : (s : Bool) (t m : ℕ) → 1 ≤ t → (if (s || nat_le t m) && nat_lt 0 m then 0 else m) < t
below_then true t m least = grind (arith, nat_tests)
below_then false t m least = grind (arith, nat_tests)

or-assoc : (a b c : Bool) → (a || b || c) ≡ ((a || b) || c)
or-assoc true b c = refl
or-assoc false b c = refl

module _ (a : Account) (m : ℕ) (least : 1 ≤ a.threshold) where
  pub called-stands : (called true a m).standing ≡ record {
    entries = m;
    spilled = (a.standing.spilled || nat_le a.threshold a.standing.entries || nat_le a.threshold m) && nat_lt 0 m;
  }
  called-stands = ap (λ b. record { entries = m; spilled = b }) (spilled_then a.standing.spilled (nat_le a.threshold a.standing.entries) a.threshold m least)

  pub called-spills : (called true a m).spills ≡ pruned_after a.spills (
      if not a.standing.spilled && (nat_le a.threshold a.standing.entries || nat_le a.threshold m) then 1 else 0)
  called-spills = spills_then a.standing.spilled (nat_le a.threshold a.standing.entries) a.threshold m a.spills least

  pub called-moved : (called true a m).moved ≡ pruned_after a.moved (
      if is_due a then a.standing.entries else if not a.standing.spilled && nat_le a.threshold m then m else 0)
  called-moved = moved_then a.standing.spilled (nat_le a.threshold a.standing.entries) a.threshold a.standing.entries m a.moved least

  pub called-below : IsBelow (called true a m)
  called-below =
      subst (λ p. (if p.spilled then 0 else p.entries) < a.threshold) (sym called-stands)
      (subst (λ b. (if b && nat_lt 0 m then 0 else m) < a.threshold) (sym (or-assoc a.standing.spilled (nat_le a.threshold a.standing.entries) (nat_le a.threshold m)))
      (below_then (a.standing.spilled || nat_le a.threshold a.standing.entries) a.threshold m least))

-- a call that takes values out, and moves a partition that it leaves small back to arrays where there is memory for it
module _ (a b : Account) (told : IsRemoved true a b) where
  abbrev left : Account
  left = called true a b.standing.entries

  pub removed-stands : ((b.standing ≡ left.standing) × (b.moved ≡ left.moved))
      ⊎ (IsTrue (is_small left) × (b.standing ≡ record { entries = b.standing.entries; spilled = false })
      × (b.moved ≡ pruned_after left.moved b.standing.entries))
  removed-stands = by_case told where
    by_case : Returns left b → ((b.standing ≡ left.standing) × (b.moved ≡ left.moved))
        ⊎ (IsTrue (is_small left) × (b.standing ≡ record { entries = b.standing.entries; spilled = false })
        × (b.moved ≡ pruned_after left.moved b.standing.entries))
    by_case (inl same) = inl (ap (λ x. x.standing) same, ap (λ x. x.moved) same)
    by_case (inr back) = inr (back.0, ap (λ x. x.standing) back.1, ap (λ x. x.moved) back.1)

  pub removed-spills : b.spills ≡ left.spills
  removed-spills = by_case told where
    by_case : Returns left b → b.spills ≡ left.spills
    by_case (inl same) = ap (λ x. x.spills) same
    by_case (inr back) = ap (λ x. x.spills) back.1

  pub removed-below : 1 ≤ a.threshold → IsBelow b
  removed-below least = by_case told where
    few_left : (spilled : Bool) (t m : ℕ) → IsTrue (spilled && nat_lt (2 * m) t) → m < t
    few_left true t m small = grind (arith, nat_tests)
    few_left false t m small = grind (arith, nat_tests)

    by_case : Returns left b → IsBelow b
    by_case (inl same) = subst IsBelow (sym same) (called-below a b.standing.entries least)
    by_case (inr back) = subst IsBelow (sym back.1) (few_left left.standing.spilled left.threshold left.standing.entries back.0)

pub others : (R : Account → Account → Type 0) (old new : Standings) (n j : ℕ) → j ≢ n → Changes R old n new → standing_at new j ≡ standing_at old j
others R old new n j other told =
    ap (λ s. standing_at s j) told.alone
    ∙ get_or-set_other old.buckets n j (standing_at new n) (record { entries = 0; spilled = false }) other
