-- What the edits of an index in partitions keep of the bound on moved values.
--     entries_sum                     buckets stand with as many values in all as they hold
--     entries-AreFree                 places that hold nothing have no values
--     map-with_items_from             what is told of each item, with others in the place of some
--     StaysPaid                       the bounds of an index and of a range hold if they held before
--     paid-Calls, paid-Leaves         after a call by key, and a cursor's edit
--     within-Removes                  after a call that takes values out, that of an index
--     paid-Refuses                    after a refused insertion
use Rattle.std.proofs.Common.{◌≡◌, ℕ, zero, suc, ◌+◌, ◌<◌, ◌≤◌, Bool, List, [], ◌∷◌, ◌++◌, map, take, drop, length, refl, sym, ap, ◌∙◌, arith}
use Rattle.std.proofs.lemmas.List.{length-map, map-append, take-map, drop-map}
use Rattle.std.proofs.lemmas.List.Sums.{sum_by-cons}
use Rattle.std.specs.List.{sum_by}
use Rattle.key_index_flat.specs.Content.{Content, item_count}
use Rattle.key_index_flat.specs.View.{pruned_after}
use Rattle.key_index_parts.specs.Buckets.{AreFree, bucket_at, standing_of_all, with_items_from}
use Rattle.key_index_parts.specs.Moves.{IsPaid, IsRangeWithin, IsWithin, credit}
use Rattle.key_index_parts.specs.Standing.{Changes, IsCalled, IsLeftBy, IsRemoved, Leaves, Standing, Standings, account_at, entries_at, nth_standing, with_account}
use Rattle.key_index_parts.proofs.standing.MoveLemmas.{Paid, Pays, credit_pays, paid-call, paid-edit, paid-refused, paid-removed, range_pays, refused-threshold, removed-threshold, stays_paid}

module _ {X K V : Type 0} (f : X → Content K V) (s : X → Bool) where
  entries_told : (xs : List X) (n : ℕ) → (nth_standing (standing_of_all f s xs) n).entries ≡ item_count (bucket_at (map f xs) n)
  entries_told [] n = refl
  entries_told (x ∷ xs) zero = refl
  entries_told (x ∷ xs) (suc n) = entries_told xs n

  pub entries_sum : (xs : List X) → sum_by (λ (p : Standing). p.entries) (standing_of_all f s xs) ≡ sum_by (λ c. item_count c) (map f xs)
  entries_sum [] = refl
  entries_sum (x ∷ xs) =
      let rest = entries_sum xs in
      omega (arith, rest, sum_by-cons (λ (p : Standing). p.entries) (record { entries = item_count (f x); spilled = s x }) (standing_of_all f s xs), sum_by-cons (λ c. item_count c) (f x) (map f xs))

  pub entries-AreFree : (xs : List X) (start count : ℕ) → AreFree (map f xs) start count
      → (n : ℕ) → start ≤ n → n < start + count → (nth_standing (standing_of_all f s xs) n).entries ≡ 0
  entries-AreFree xs start count free n from upto = entries_told xs n ∙ ap (λ c. item_count c) (free n from upto)

pub map-with_items_from : {A B : Type 0} (f : A → B) (xs ys : List A) (n : ℕ) → map f (with_items_from xs n ys) ≡ with_items_from (map f xs) n (map f ys)
map-with_items_from f xs ys n =
    map-append f (take n xs) (ys ++ drop (n + length ys) xs) ∙ ap (λ l. map f (take n xs) ++ l) (map-append f ys (drop (n + length ys) xs))
    ∙ (λ i. sym (take-map f n xs) i ++ (map f ys ++ sym (drop-map f (n + length ys) xs) i))
    ∙ ap (λ m. take n (map f xs) ++ (map f ys ++ drop (n + m) (map f xs))) (sym (length-map ys f))

pub record StaysPaid (old new : Standings) (pruned after : ℕ) : Type 0 where
  pub within : IsWithin old pruned → IsWithin new after
  pub range_bound : IsRangeWithin old pruned → IsRangeWithin new after

-- of a change of one partition; gone: how many of the values that were held are taken out
module _ (old new : Standings) (n pruned after gone : ℕ) (inside : n < length old.buckets) (after_is : after ≡ pruned_after pruned gone)
    (left : entries_at old n ≤ entries_at new n + gone) (spills : Bool) where
  paid_by : (owed : ℕ → Standing → ℕ) → new ≡ with_account old n (account_at new n) → new.threshold ≡ old.threshold
      → Paid (owed old.threshold) (account_at old n) (account_at new n) gone → IsPaid (owed old.threshold) old pruned → IsPaid (owed new.threshold) new after
  paid_by owed alone same paid before = stays_paid owed old new n pruned after gone inside after_is alone same paid before

  pub paid-Calls : Changes (IsCalled spills) old n new → StaysPaid old new pruned after
  paid-Calls told = record { within = keeps credit_pays; range_bound = keeps range_pays } where
    keeps : {owed : ℕ → Standing → ℕ} → Pays owed → IsPaid (owed old.threshold) old pruned → IsPaid (owed new.threshold) new after
    keeps {owed = owed} pays before = paid_by owed told.alone (ap (λ a. a.threshold) told.by) (paid-call pays spills (account_at old n) (account_at new n) gone left told.by) before

  pub paid-Leaves : Leaves old n new → StaysPaid old new pruned after
  paid-Leaves told = record { within = keeps credit_pays; range_bound = keeps range_pays } where
    keeps : {owed : ℕ → Standing → ℕ} → Pays owed → IsPaid (owed old.threshold) old pruned → IsPaid (owed new.threshold) new after
    keeps {owed = owed} pays before = paid_by owed told.alone (ap (λ a. a.threshold) told.by) (paid-edit pays spills (account_at old n) (account_at new n) gone left told.by) before

  pub within-Removes : Changes (IsRemoved spills) old n new → IsWithin old pruned → IsWithin new after
  within-Removes told before =
      paid_by credit told.alone (removed-threshold spills (account_at old n) (account_at new n) told.by) (paid-removed spills (account_at old n) (account_at new n) gone left told.by) before

pub paid-Refuses : (spills : Bool) (old new : Standings) (n pruned : ℕ) → n < length old.buckets → Changes (IsLeftBy spills) old n new → StaysPaid old new pruned pruned
paid-Refuses spills old new n pruned inside told = record { within = keeps credit_pays; range_bound = keeps range_pays } where
  keeps : {owed : ℕ → Standing → ℕ} → Pays owed → IsPaid (owed old.threshold) old pruned → IsPaid (owed new.threshold) new pruned
  keeps {owed = owed} pays before =
      stays_paid owed old new n pruned pruned 0 inside (omega arith) told.alone (refused-threshold spills (account_at old n) (account_at new n) told.by)
      (paid-refused pays spills (account_at old n) (account_at new n) told.by) before
