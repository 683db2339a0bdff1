-- What a change of one bucket makes of an index: y stands where x stood, and what the index counts of moves is `after`, was `before`.
--     Slot                             a bucket, x, among those of an index
--     entries-edited                   of a list that was edited no other values are missing
--     paid-called, paid-edited         the bounds on moved values hold after a call by key, and a cursor's edit
--     within-removed                   and that of an index after a call that takes values out
--     paid-refused_here                and after a refused insertion
--     leaves_here                      how the partitions stand after a cursor's edit
--     stands_here                      and where nothing changed of it
--     kept_stays                       then the index is as it was
--     flags_here                       which buckets are filled, where its content stays
use Rattle.std.proofs.Common.{◌≡◌, ℕ, ◌+◌, ◌≤◌, Bool, false, List, map, set, length, ap, arith}
use Rattle.std.specs.Cmp.{IsTotalOrder}
use Rattle.std.specs.declared.cmp.Ordering.{Ordering}
use Rattle.std.specs.declared.cmp.Ordering.TheVariants.{Equal}
use Rattle.key_index_flat.specs.Content.{Content, IsLawful, is_filled, item_count, list_at, with_list}
use Rattle.key_index_flat.specs.View.{pruned_after}
use Rattle.key_index_flat.proofs.content.ContentLemmas.{item_count-with_list}
use Rattle.key_index_parts.specs.Buckets.{Kept, IsCounted, account, filled_buckets, standings_with, stays_spilled}
use Rattle.key_index_parts.specs.Moves.{IsWithin}
use Rattle.key_index_parts.specs.Standing.{IsCalled, IsLeftBy, IsRemoved, Leaves, Standings, entries_at, with_values}
use Rattle.key_index_parts.specs.declared.index.partitioned.counts.Moves.{Moves}
use Rattle.key_index_parts.proofs.buckets.BucketLemmas.{IsBucket, bucket_stays, flags_stay, nth_standing-map, standing_new, within_mapped}
use Rattle.key_index_parts.proofs.standing.PaidLemmas.{StaysPaid, paid-Calls, paid-Leaves, paid-Refuses, within-Removes}
use Rattle.key_index_parts.proofs.standing.StandingLemmas.{changed, unchanged}

pub record Slot {X K V : Type 0} (cmp : K → K → Ordering) (p : ℕ) (f : X → Content K V) (xs : List X) (items keys n : ℕ) (x : X) : Type 0 where
  pub counted : IsCounted cmp p (map f xs) items keys
  pub total : IsTotalOrder cmp
  pub exact : (a b : K) → cmp a b ≡ Equal → a ≡ b
  pub lawful : IsLawful cmp (f x)
  pub bucket : IsBucket f xs n x

module _ {X K V : Type 0} {cmp : K → K → Ordering} {p : ℕ} {f : X → Content K V} {xs : List X} {items keys n : ℕ} {x : X} (at : Slot cmp p f xs items keys n x) where
  pub entries-edited : (c : Content K V) (k : K) (l : List V) (gone : ℕ) → c ≡ with_list cmp (f x) k l → length (list_at cmp (f x) k) ≤ length l + gone
      → item_count (f x) ≤ item_count c + gone
  entries-edited c k l gone is fits =
      omega (arith, item_count-with_list at.total (f x) k l at.lawful, ap (λ d. item_count d) is, fits)

  module _ (s : X → Bool) (y : X) (before after : Moves) where
    abbrev old : Standings
    old = standings_with f s xs before

    abbrev new : Standings
    new = standings_with f s (set xs n y) after

    entries_left : (gone : ℕ) → item_count (f x) ≤ item_count (f y) + gone → entries_at old n ≤ entries_at new n + gone
    entries_left gone few = omega (arith, few, ap (λ q. q.entries) (nth_standing-map at.bucket s), ap (λ q. q.entries) (standing_new at.bucket s y))

    -- gone: how many of the values that were held are taken out
    module _ (spills : Bool) (pruned later gone : ℕ) (few : item_count (f x) ≤ item_count (f y) + gone) (later_is : later ≡ pruned_after pruned gone) where
      pub paid-called : IsCalled spills (account (f x) (s x) before) (account (f y) (s y) after) → StaysPaid old new pruned later
      paid-called told =
          paid-Calls old new n pruned later gone (within_mapped at.bucket s) later_is (entries_left gone few) spills (changed at.bucket s y before after (IsCalled spills) told)

      pub within-removed : IsRemoved spills (account (f x) (s x) before) (account (f y) (s y) after) → IsWithin old pruned → IsWithin new later
      within-removed told =
          within-Removes old new n pruned later gone (within_mapped at.bucket s) later_is (entries_left gone few) spills (changed at.bucket s y before after (IsRemoved spills) told)

    pub paid-refused_here : (spills : Bool) (pruned : ℕ) → IsLeftBy spills (account (f x) (s x) before) (account (f y) (s y) after) → StaysPaid old new pruned pruned
    paid-refused_here spills pruned told =
        paid-Refuses spills old new n pruned (within_mapped at.bucket s) (changed at.bucket s y before after (IsLeftBy spills) told)

    pub stands_here : account (f y) (s y) after ≡ account (f x) (s x) before → new ≡ old
    stands_here same = unchanged old new n (changed at.bucket s y before after (λ a b. b ≡ a) same)

    pub kept_stays : {T : Type 0} (t : T) (pruned : ℕ) → f y ≡ f x → account (f y) (s y) after ≡ account (f x) (s x) before
        → ◌≡◌ {A = Kept T K V} (record { translator = t; buckets = map f (set xs n y); pruned = pruned; standings = new })
        (record { translator = t; buckets = map f xs; pruned = pruned; standings = old })
    kept_stays t pruned e same = λ i. record { translator = t; buckets = bucket_stays cmp at.bucket y e i; pruned = pruned; standings = stands_here same i }

  -- an edit of it as it stands
  module _ (s : X → Bool) (y : X) (moves : Moves) (stays : s y ≡ stays_spilled (s x) (f y)) where
    pub leaves_here : Leaves (standings_with f s xs moves) n (standings_with f s (set xs n y) moves)
    leaves_here =
        changed at.bucket s y moves moves (λ a b. b ≡ with_values a b.standing.entries)
        (λ i. record { threshold = moves.threshold; standing = record { entries = item_count (f y); spilled = stays i }; spills = moves.spills; moved = moves.moved })

    pub paid-edited : (pruned later gone : ℕ) → item_count (f x) ≤ item_count (f y) + gone → later ≡ pruned_after pruned gone
        → StaysPaid (standings_with f s xs moves) (standings_with f s (set xs n y) moves) pruned later
    paid-edited pruned later gone few later_is =
        paid-Leaves (standings_with f s xs moves) (standings_with f s (set xs n y) moves) n pruned later gone (within_mapped at.bucket s) later_is
        (entries_left s y moves moves gone few) false leaves_here

  pub flags_here : (flags : List Bool) (y : X) → flags ≡ filled_buckets (map f xs) → f y ≡ f x → flags ≡ filled_buckets (map f (set xs n y))
  flags_here flags y told e = flags_stay cmp at.bucket flags y told (ap is_filled e)
