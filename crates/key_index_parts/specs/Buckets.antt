-- Buckets by what each holds, listed by their numbers. A slot is a bucket's number and a key of that bucket.
--     bucket_at                      what the bucket of a number holds, and nothing past the last one
--     filled_buckets                 of each bucket, whether it holds anything
--     held_at                        the list at a slot of the whole
--     KeepsBuckets                   other buckets are as many, and a map of lists that are not empty
--     IsIndex, IsRange               buckets for all partitions of p bytes, and for some from a first one on
--     stands, standing_of_all        how a bucket stands, and how each of them does
--     stays_spilled                  whether a spilled one that is left with this content is spilled still
--     due_in                         how many values of a bucket are due to spill, of a kind that spills at so many values or doesn't
--     Grows                          what an insertion that moved so many values to a tree leaves of a bucket that was spilled or not
--     account                        a bucket apart from the others, with the counts of them all
--     standings_with                 how all of them stand
--     Kept, IsCounted                what the storage of an index keeps, and its counts
--     SameContent                    how its partitions stand may differ, and nothing else
--     IsLeft                         what a refused insertion leaves
--     KeepsRange                     the bound on moved values still holds of a range
--     RetainsList                    what a retention makes of a list
--     view_of                        the view of it, by what its translator makes of a key
--     Edits, Prunes                  another view has what f makes of the list at a slot, and with n values more taken out
--     view_from                      the same of a range's storage, whose buckets are numbered from `first`
--     with_items_from                with other items in the place of those from a number on
--     AreFree                        so many buckets from there hold nothing
use Rattle.std.specs.Prelude.{◌≡◌, ◌⊎◌, ℕ, ◌+◌, ◌-◌, ◌^◌, ◌<◌, ◌≤◌, Bool, not, ◌&&◌, ◌||◌, if◌then◌else◌, nat_lt, nat_le, Option, List, [], ◌++◌, length, map, take, drop, All, slice_index_or}
use Rattle.std.specs.declared.cmp.Ordering.{Ordering}
use Rattle.key_index_flat.specs.Retention.{AsksWith}
use Rattle.key_index_flat.specs.declared.index.retain.Retained.{Retained}
use Rattle.key_index_flat.specs.Content.{Content, is_filled, IsLawful, list_at, item_count, key_count}
use Rattle.key_index_flat.specs.View.{View, with_edit, with_pruned}
use Rattle.key_index_parts.specs.Gathered.{gathered, gathered_from, pair_cmp}
use Rattle.key_index_parts.specs.Joined.{is_between}
use Rattle.key_index_parts.specs.Moves.{IsRangeWithin}
use Rattle.key_index_parts.specs.Prefix.{partition_count, slot_by}
use Rattle.key_index_parts.specs.Standing.{Account, Changes, Standing, Standings, settled, standings_of}
use Rattle.key_index_parts.specs.declared.index.partitioned.counts.Moves.{Moves}

abbrev pub with_items_from : {A : Type 0} → List A → ℕ → List A → List A
with_items_from items n others = take n items ++ (others ++ drop (n + length others) items)

module _ {K V : Type 0} where
  abbrev pub bucket_at : List (Content K V) → ℕ → Content K V
  bucket_at buckets n = slice_index_or buckets n []

  abbrev pub AreFree : List (Content K V) → ℕ → ℕ → Type 0
  AreFree buckets first count = (n : ℕ) → first ≤ n → n < first + count → bucket_at buckets n ≡ []

  abbrev pub filled_buckets : List (Content K V) → List Bool
  filled_buckets buckets = map is_filled buckets

module _ {K V : Type 0} (cmp : K → K → Ordering) where
  abbrev pub held_at : List (Content K V) → ℕ × K → List V
  held_at buckets slot = list_at (pair_cmp cmp) (gathered buckets) slot

  pub record KeepsBuckets (old new : List (Content K V)) : Type 0 where
    pub lawful : IsLawful (pair_cmp cmp) (gathered new)
    pub sized : length new ≡ length old

  pub record IsIndex (p : ℕ) (buckets : List (Content K V)) : Type 0 where
    pub least : 1 ≤ p
    pub greatest : p ≤ 3
    pub lawful : IsLawful (pair_cmp cmp) (gathered buckets)
    pub whole : length buckets ≡ partition_count p

  pub record IsRange (p first : ℕ) (buckets : List (Content K V)) : Type 0 where
    pub least : 1 ≤ p
    pub greatest : p ≤ 3
    pub lawful : IsLawful (pair_cmp cmp) (gathered buckets)
    pub within : first + length buckets ≤ partition_count p

module _ {K V : Type 0} where
  abbrev pub stands : Content K V → Bool → Standing
  stands c spilled = record { entries = item_count c; spilled = spilled }

  abbrev pub standing_of_all : {X : Type 0} → (X → Content K V) → (X → Bool) → List X → List Standing
  standing_of_all content spilled buckets = map (λ x. stands (content x) (spilled x)) buckets

  abbrev pub stays_spilled : Bool → Content K V → Bool
  stays_spilled spilled c = spilled && nat_lt 0 (item_count c)

  abbrev pub due_in : Bool → ℕ → Bool → Content K V → ℕ
  due_in spills threshold spilled c =
      if spills && (not spilled && nat_le threshold (item_count c)) then item_count c else 0

  abbrev pub Grows : Bool → ℕ → Bool → ℕ → Content K V → Bool → Type 0
  Grows spills threshold was moved c is =
      (moved ≡ due_in spills threshold (stays_spilled was c) c) × (is ≡ (nat_lt 0 moved || stays_spilled was c))

  abbrev pub account : Content K V → Bool → Moves → Account
  account c spilled moves = record {
    threshold = moves.threshold;
    standing = stands c spilled;
    spills = moves.spills;
    moved = moves.moved;
  }

  abbrev pub standings_with : {X : Type 0} → (X → Content K V) → (X → Bool) → List X → Moves → Standings
  standings_with content spilled buckets moves =
      standings_of moves.threshold (standing_of_all content spilled buckets) moves.spills moves.moved

-- an index as its storage's contracts see it: its translator, what its buckets hold, how many held values were ever taken out, and how
-- its partitions stand
pub record Kept (T K V : Type 0) : Type 0 where
  pub translator : T
  pub buckets : List (Content K V)
  pub pruned : ℕ
  pub standings : Standings

-- no more buckets than partitions of p bytes, each a map of lists that are not empty, and so many values and keys in all of them
pub record IsCounted {K V : Type 0} (cmp : K → K → Ordering) (p : ℕ) (buckets : List (Content K V)) (items keys : ℕ)
    : Type 0 where
  pub least : 1 ≤ p
  pub greatest : p ≤ 3
  pub sized : length buckets ≤ partition_count p
  pub each : All (IsLawful cmp) buckets
  pub counted : items ≡ item_count (gathered buckets)
  pub keyed : keys ≡ key_count (gathered buckets)

module _ {T K V : Type 0} where
  abbrev pub KeepsRange : Kept T K V → Kept T K V → Type 0
  KeepsRange old new = IsRangeWithin old.standings old.pruned → IsRangeWithin new.standings new.pruned

  abbrev pub SameContent : Kept T K V → Kept T K V → Type 0
  SameContent old new = new ≡ record old { standings = new.standings }

  abbrev pub IsLeft : Bool → Kept T K V → ℕ → Kept T K V → Type 0
  IsLeft spills old n new =
      (new.standings ≡ old.standings) ⊎ ((item_count (gathered old.buckets) < 2 ^ 64 - 1)
      × Changes (λ a b. b ≡ settled spills a) old.standings n new.standings)

abbrev pub view_of : {T K V : Type 0} → ℕ → (T → List ℕ → K) → Kept T K V → View (ℕ × K) V
view_of p translated s = record {
  content = gathered s.buckets;
  pruned = s.pruned;
  slot = slot_by p (translated s.translator);
  admitted = λ slot. nat_lt slot.0 (partition_count p);
}

abbrev pub view_from : {T K V : Type 0} → ℕ → (T → List ℕ → K) → ℕ → Kept T K V → View (ℕ × K) V
view_from p translated first s = record (view_of p translated s) {
  content = gathered_from first s.buckets;
  admitted = λ slot. is_between first (first + length s.buckets) slot.0;
}

module _ {T K V : Type 0} (cmp : K → K → Ordering) (p : ℕ) (translated : T → List ℕ → K) where
  abbrev pub Edits : Kept T K V → ℕ × K → (List V → List V) → Kept T K V → Type 0
  Edits old slot f new = view_of p translated new ≡ with_edit (pair_cmp cmp) (view_of p translated old) slot f

  abbrev pub Prunes : Kept T K V → ℕ × K → (List V → List V) → ℕ → Kept T K V → Type 0
  Prunes old slot f n new =
      view_of p translated new ≡ with_pruned (with_edit (pair_cmp cmp) (view_of p translated old) slot f) n

-- f was asked on each of `held` and on a new value last, if there is one; the list is now what it said true of; and `told` has how many
-- values it had, how many it has, and how many of those that were held are gone
abbrev pub RetainsList : {F V : Type 0} → (F → V → Bool → F → Type 0) → F → List V → Option V → Retained → (List V → Type 0)
    → Type 0
RetainsList {V = V} ask f held new told Becomes =
    (kept : List V) × AsksWith ask f held new kept told.taken × Becomes kept
    × (told.had ≡ length held) × (told.left ≡ length kept)
