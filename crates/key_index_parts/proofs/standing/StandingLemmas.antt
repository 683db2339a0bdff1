-- On a partition apart from the others.
--     pruned_after-zero                a count that nothing is added to
--     settled-same                     a partition that is not due stays as it is
--     not_due-fewer                    once settled it isn't due by no more values
--     called-fewer                     so a call that leaves no more values spills nothing behind it, of whatever kind
--     settled-called                   a call that leaves the values is a settling
--     settled-some                     the same of one that may put a value in
--     account-grown                    an insertion, with how many values it moved: it spills where that is due
--     removed-by                       a call by key that moves a small one back last, or doesn't
--     changed                          the partitions after a change of one bucket, y, that was x
--     settles, resettles               what a call by key leaves
--     unchanged                        nothing changed of it
--     leaves_some, leaves_either       an edit that was refused; one that was done or refused
--     left_either                      a settling that was refused or not
--     left_by, left_standing           a refused insertion
use Rattle.std.proofs.Common.{◌≡◌, ◌⊎◌, ℕ, ◌-◌, ◌^◌, ◌<◌, ◌≤◌, Bool, true, false, not, ◌&&◌, ◌||◌, if◌then◌else◌, nat_le, nat_lt, List, map, length, set, inl, inr, refl, sym, ap, subst, ◌∙◌, arith}
use Rattle.std.specs.Prelude.{IsTrue, Result, Ok, Err, OnOk, OnErr}
use Rattle.std.proofs.lemmas.Bool.{lt-ltb}
use Rattle.std.proofs.lemmas.Bool.Decides.{nat_tests}
use Rattle.std.proofs.lemmas.List.{get_or_past, set_past, set-get_or, map-set}
use Rattle.key_index_flat.specs.Content.{Content, item_count}
use Rattle.key_index_flat.specs.View.{pruned_after}
use Rattle.key_index_parts.specs.Counts.{one_if}
use Rattle.key_index_parts.specs.Buckets.{Grows, IsLeft, Kept, account, standings_with, stays_spilled}
use Rattle.key_index_parts.specs.Gathered.{gathered}
use Rattle.key_index_parts.specs.Standing.{Account, Changes, IsCalled, IsLeftBy, IsRemoved, Leaves, LeavesSome, Refuses, Resettles, Returns, Settles, Standing, Standings, account_at, IsBelow, called, is_due, settled, standing_at, standings_of, with_account, with_values}
use Rattle.key_index_parts.specs.declared.index.partitioned.counts.Moves.{Moves}
use Rattle.key_index_parts.specs.laws.StandingLaws.{called-below, removed-below}
use Rattle.key_index_parts.proofs.buckets.BucketLemmas.{IsBucket, nth_standing-map, standing_new}

pub pruned_after-zero : (n : ℕ) → pruned_after n 0 ≡ n
pruned_after-zero n = omega arith

pub settled-same : (spills : Bool) (a : Account) → (spills && is_due a) ≡ false → settled spills a ≡ a
settled-same spills a e =
    ap (λ d. record {
      threshold = a.threshold;
      standing = record { entries = a.standing.entries; spilled = d || a.standing.spilled };
      spills = pruned_after a.spills (one_if d);
      moved = pruned_after a.moved (if d then a.standing.entries else 0);
    }) e
    ∙ (λ i. record { threshold = a.threshold; standing = a.standing; spills = pruned_after-zero a.spills i; moved = pruned_after-zero a.moved i })

not_due-fewer : (t e m : ℕ) (spills s : Bool) → 1 ≤ t → m ≤ e → (spills && (not (((spills && (not s && nat_le t e)) || s) && nat_lt 0 m) && nat_le t m)) ≡ false
not_due-fewer t e m false s least few = refl
not_due-fewer t e m true true least few = grind (arith, nat_tests)
not_due-fewer t e m true false least few = grind (arith, nat_tests)

own_values : (t e : ℕ) (spills s : Bool) → 1 ≤ t → (IsTrue s → 0 < e) → ((((spills && (not s && nat_le t e)) || s) && nat_lt 0 e)) ≡ ((spills && (not s && nat_le t e)) || s)
own_values t e true true least some = lt-ltb 0 e (some refl)
own_values t e false true least some = lt-ltb 0 e (some refl)
own_values t e false false least some = refl
own_values t e true false least some = grind (arith, nat_tests)

-- a count of values that is none exactly where it is not said
some_if : (c : Bool) (n : ℕ) → (c ≡ true → 0 < n) → nat_lt 0 (if c then n else 0) ≡ c
some_if true n some = lt-ltb 0 n (some refl)
some_if false n some = refl

module _ (spills : Bool) (a : Account) (least : 1 ≤ a.threshold) where
  pub called-fewer : (m : ℕ) → m ≤ a.standing.entries → with_values (settled spills a) m ≡ called spills a m
  called-fewer m few =
      sym (settled-same spills (with_values (settled spills a) m) (not_due-fewer a.threshold a.standing.entries m spills a.standing.spilled least few))

  pub settled-called : (IsTrue a.standing.spilled → 0 < a.standing.entries) → settled spills a ≡ called spills a a.standing.entries
  settled-called some =
      (λ i. record (settled spills a) {
        standing = record {
          entries = a.standing.entries;
          spilled = sym (own_values a.threshold a.standing.entries spills a.standing.spilled least some) i;
        };
      })
      ∙ called-fewer a.standing.entries (omega arith)

-- a retention puts a value in or none
pub settled-some : (some : Bool) (a : Account) (m : ℕ) → 1 ≤ a.threshold → (some ≡ false → m ≤ a.standing.entries)
    → settled some (with_values (settled true a) m) ≡ called true a m
settled-some true a m least few = refl
settled-some false a m least few = settled-same false (with_values (settled true a) m) refl ∙ called-fewer true a least m (few refl)

module _ {K V : Type 0} (c d : Content K V) (was is : Bool) (before after : Moves) where
  -- d and is: what the bucket holds then, and whether it is spilled; it moved so many values
  pub account-grown : (spills : Bool) (moved : ℕ) → Grows spills before.threshold was moved d is → 1 ≤ before.threshold → after.threshold ≡ before.threshold
      → after.spills ≡ pruned_after before.spills (one_if (nat_lt 0 moved)) → after.moved ≡ pruned_after before.moved moved
      → account d is after ≡ settled spills (with_values (account c was before) (item_count d))
  account-grown spills moved told least same one more =
      let due = spills && is_due (with_values (account c was before) (item_count d)) in
      let flag : nat_lt 0 moved ≡ due =
      ap (λ n. nat_lt 0 n) told.0 ∙ some_if due (item_count d) (due_some (item_count d) spills was) in
      (λ i. record {
        threshold = same i;
        standing = record { entries = item_count d; spilled = (told.1 ∙ ap (λ b. b || stays_spilled was d) flag) i };
        spills = (one ∙ ap (λ b. pruned_after before.spills (one_if b)) flag) i;
        moved = (more ∙ ap (λ n. pruned_after before.moved n) told.0) i;
      })
    where
      due_some : (m : ℕ) (kind s : Bool) → (kind && (not (s && nat_lt 0 m) && nat_le before.threshold m)) ≡ true → 0 < m
      due_some m true true e = grind (arith, nat_tests, least)
      due_some m true false e = grind (arith, nat_tests, least)
      due_some m false s e = grind (arith, nat_tests, least)

pub removed-by : (spills : Bool) (a between b : Account) → between ≡ called spills a between.standing.entries → b.standing.entries ≡ between.standing.entries → Returns between b
    → IsRemoved spills a b
removed-by spills a between b is same back = subst (λ x. Returns x b) (is ∙ ap (λ m. called spills a m) (sym same)) back

-- how buckets stand; f tells what a bucket holds, and s whether it is spilled
module _ {X K V : Type 0} {f : X → Content K V} {xs : List X} {n : ℕ} {x : X} (bucket : IsBucket f xs n x) (s : X → Bool) (y : X) (before after : Moves) where
  pub account-told : account (f x) (s x) before ≡ account_at (standings_with f s xs before) n
  account-told = ap (λ p. record { threshold = before.threshold; standing = p; spills = before.spills; moved = before.moved }) (nth_standing-map bucket s)

  pub account-new : account (f y) (s y) after ≡ account_at (standings_with f s (set xs n y) after) n
  account-new = ap (λ p. record { threshold = after.threshold; standing = p; spills = after.spills; moved = after.moved }) (sym (standing_new bucket s y))

  pub changed : (R : Account → Account → Type 0) → R (account (f x) (s x) before) (account (f y) (s y) after)
      → Changes R (standings_with f s xs before) n (standings_with f s (set xs n y) after)
  changed R told = record {
    by = subst (λ a. R (account_at (standings_with f s xs before) n) a) account-new (subst (λ a. R a (account (f y) (s y) after)) account-told told);
    alone = ap (λ ps. record { threshold = after.threshold; buckets = ps; spills = after.spills; moved = after.moved })
        (map-set (λ z. record { entries = item_count (f z); spilled = s z }) xs n y
        ∙ ap (λ p. set (map (λ z. record { entries = item_count (f z); spilled = s z }) xs) n p) (sym (standing_new bucket s y)));
  }

-- so R may be said in weaker words
pub changes_as : {R Q : Account → Account → Type 0} → ((a b : Account) → R a b → Q a b) → (old new : Standings) (n : ℕ) → Changes R old n new → Changes Q old n new
changes_as same old new n told = record { by = same (account_at old n) (account_at new n) told.by; alone = told.alone }

module _ (spills : Bool) (is : IsTrue spills) (old new : Standings) (n : ℕ) (least : 1 ≤ old.threshold) where
  pub settles : Changes (IsCalled spills) old n new → Settles old n new
  settles told =
      let so = subst (λ b. IsCalled b (account_at old n) (account_at new n)) is told.by in
      record { by = (so, subst (λ a. IsBelow a) (sym so) (called-below (account_at old n) (standing_at new n).entries least)); alone = told.alone }

  pub resettles : Changes (IsRemoved spills) old n new → Resettles old n new
  resettles told =
      let so = subst (λ b. IsRemoved b (account_at old n) (account_at new n)) is told.by in
      record { by = (so, removed-below (account_at old n) (account_at new n) so least); alone = told.alone }

pub unchanged : (old new : Standings) (n : ℕ) → Changes (λ a b. b ≡ a) old n new → new ≡ old
unchanged old new n told =
    told.alone ∙ ap (λ a. with_account old n a) told.by
    ∙ ap (λ ps. standings_of old.threshold ps old.spills old.moved) (set-get_or old.buckets n (record { entries = 0; spilled = false }))

pub leaves_some : (s : Standings) → LeavesSome s s
leaves_some s =
    let n = length s.buckets in
    let none : standing_at s n ≡ record { entries = 0; spilled = false } = get_or_past s.buckets n (record { entries = 0; spilled = false }) (omega arith) in (
      n,
      record {
        by = subst (λ p. in_place p ≡ with_values (in_place p) p.entries) (sym none) refl;
        alone = ap (λ ps. standings_of s.threshold ps s.spills s.moved) (sym (set_past s.buckets n (standing_at s n) (omega arith)));
      },
    )
  where
    in_place : Standing → Account
    in_place p = record { threshold = s.threshold; standing = p; spills = s.spills; moved = s.moved }

-- an edit that was done or refused
pub leaves_either : {A E : Type 0} (r : Result A E) (n : ℕ) (old new : Standings) → OnOk r (Leaves old n new) → OnErr r (new ≡ old) → LeavesSome old new
leaves_either (Ok x) n old new done refused = (n, done)
leaves_either (Err e) n old new done refused = subst (λ s. LeavesSome old s) (sym refused) (leaves_some old)

-- where memory was refused nothing changed
pub left_either : {A E : Type 0} (spills : Bool) (a b : Account) (r : Result A E) → OnOk r (b ≡ settled spills a) → OnErr r (b ≡ a) → IsLeftBy spills a b
left_either spills a b (Ok x) so same = inr so
left_either spills a b (Err e) so same = inl same

-- a refused insertion
pub left_by : (spills : Bool) (items : ℕ) (old new : Standings) (n : ℕ) → items < 2 ^ 64 - 1 → Changes (IsLeftBy spills) old n new
    → (new ≡ old) ⊎ ((items < 2 ^ 64 - 1) × Changes (λ a b. b ≡ settled spills a) old n new)
left_by spills items old new n room told = by_case told.by where
  by_case : IsLeftBy spills (account_at old n) (account_at new n) → (new ≡ old) ⊎ ((items < 2 ^ 64 - 1) × Changes (λ a b. b ≡ settled spills a) old n new)
  by_case (inl same) = inl (unchanged old new n (record { by = same; alone = told.alone }))
  by_case (inr so) = inr (room, record { by = so; alone = told.alone })

-- what it leaves, of buckets that spill
pub left_standing : {T' K V : Type 0} (spills : Bool) (n : ℕ) (old new : Kept T' K V) → IsLeft spills old n new → IsTrue spills
    → Refuses (item_count (gathered old.buckets)) old.standings n new.standings
left_standing spills n old new left is =
    subst (λ b. (new.standings ≡ old.standings) ⊎ ((item_count (gathered old.buckets) < 2 ^ 64 - 1) × Changes (λ a c. c ≡ settled b a) old.standings n new.standings)) is left
