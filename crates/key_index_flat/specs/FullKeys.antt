-- Full keys. An index files its values under index keys, which are shorter than keys, and each value knows its own key in full.
--     IsFiled              each value stands under the index key of its full key, which is a list of bytes
--     IsLeast              the least value of a list, the first of those that tie; none exactly where the list is empty
--     beyond, IsNearest    of a side of a key, above it or else below: the values whose full keys are there, and the nearest of some, the first of those that tie
--     IsNearestRead        the same of a value that stands beside its full key
--     first_with           the first value of a list that has a full key
--     AsRead               of each assignment of full keys to values with which a reader agrees
--     FailsOn              an error of a read of one of some values
--     IsFullNext           the value with the least full key strictly above a key, of all that are held. Among equal full keys the first.
--                          None exactly where no full key is above. IsFullPrev: the same with the greatest strictly below
--     IsFullFirst, IsFullLast      the value with the least full key of all, and with the greatest
--     IsFullBeside, IsFullEnd      the one and the other of these two pairs, by the side
--     IsGapAmong           the neighbours of a full key that no value of a list has; none exactly where one has it. IsFullGap: of all that are held
--     IsNextIn             the value with the least full key of those above the key under its own index key. Where none is above, of all those under the next
--                          index key, which a flagged neighbour isn't. IsPrevIn: the same with greatest, below and previous. IsBesideIn: by the side
--     IsFirstCandidate, IsLastCandidate      the least of the first list, and the greatest of the last. IsEndCandidate: by the side
--     IsGapIn              the candidates on both sides of a full key that no value under its own index key has; none exactly where one has it
use Rattle.std.specs.Prelude.{◌≡◌, ◌<◌, ℕ, Bool, true, false, List, [], ◌∷◌, ◌++◌, Option, Some, None, IsSome, IfSome, unwrap_or, All}
use Rattle.std.specs.Borrow.{Bor}
use Rattle.std.specs.List.{Contains, filter, find}
use Rattle.std.specs.Option.{option_copied, option_map}
use Rattle.std.specs.Str.{bytes_eq}
use Rattle.std.specs.declared.cmp.Ordering.{Ordering}
use Rattle.std.specs.declared.cmp.Ordering.TheVariants.{Less}
use Rattle.std.specs.Ordering.{is_lt, nat_cmp, on}
use Rattle.std.specs.Cmp.Lexicographic.{slice_cmp}
use Rattle.std.specs.BTreeMap.Range.{IsLeBy}
use Rattle.key_index_flat.specs.View.{View, run_of}
use Rattle.key_index_flat.specs.Content.{Content, list_at}
use Rattle.key_index_flat.specs.Neighbours.{beside_list, end_list, side_cmp}
use Rattle.key_index_flat.specs.Values.{values_of}

abbrev pub IsBytes : List ℕ → Type 0
IsBytes b = All (λ n. n < 256) b

abbrev pub byte_cmp : List ℕ → List ℕ → Ordering
byte_cmp = slice_cmp nat_cmp

abbrev pub IsLeast : {V : Type 0} → (V → V → Ordering) → List V → Option V → Type 0
IsLeast cmp l None = l ≡ []
IsLeast {V = V} cmp l (Some v) =
    (before : List V) × (after : List V) × (l ≡ before ++ v ∷ after)
    × All (λ w. cmp v w ≡ Less) before × All (λ w. IsLeBy cmp v w) after

abbrev pub first_with : {V : Type 0} → (V → List ℕ) → List ℕ → List V → Option V
first_with full_key a l = find (λ v. bytes_eq (full_key v) a) l

abbrev pub AsRead : {V : Type 0} → ((V → List ℕ) → Type 0) → ((V → List ℕ) → Type 0) → Type 0
AsRead {V = V} agrees P = (keys : V → List ℕ) → agrees keys → P keys

abbrev pub FailsOn : {V E : Type 0} → (V → E → Type 0) → List V → E → Type 0
FailsOn {V = V} fails l e = (v : V) × Contains l v × fails v e

-- the first list, or where it is empty the second
abbrev pub or_list : {V : Type 0} → List V → List V → List V
or_list [] other = other
or_list (v ∷ vs) other = v ∷ vs

-- the values of a neighbour that was found without cycling
abbrev pub unflagged : {V : Type 0} → Option (List V × Bool) → List V
unflagged None = []
unflagged (Some (l, true)) = []
unflagged (Some (l, false)) = l

-- the values of the references in a pair of neighbours
abbrev pub gap_copied : {V : Type 0} → Option (Option (Bor V) × Option (Bor V)) → Option (Option V × Option V)
gap_copied gap = option_map (λ g. (option_copied g.0, option_copied g.1)) gap

module _ {V : Type 0} (full_key : V → List ℕ) where
  abbrev pub cmp_keys : V → V → Ordering
  cmp_keys = on full_key byte_cmp

  abbrev pub beyond : Bool → List ℕ → List V → List V
  beyond is_above a l = filter (λ v. is_lt (side_cmp is_above byte_cmp a (full_key v))) l

  abbrev pub above : List ℕ → List V → List V
  above a l = beyond true a l

  abbrev pub below : List ℕ → List V → List V
  below a l = beyond false a l

  abbrev pub IsNearest : Bool → List V → Option V → Type 0
  IsNearest is_above l o = IsLeast (on full_key (side_cmp is_above byte_cmp)) l o

  abbrev pub IsNearestRead : {R : Type 0} → (R → List ℕ) → Bool → List V → Option (Bor V × R) → Type 0
  IsNearestRead items is_above l o =
      IsNearest is_above l (option_map (λ n. n.0.now) o) × IfSome o (λ n. items n.1 ≡ full_key n.0.now)

  abbrev pub IsFullBeside : {K : Type 0} → Bool → Content K V → List ℕ → Option V → Type 0
  IsFullBeside is_above c a o = IsNearest is_above (beyond is_above a (values_of c)) o

  abbrev pub IsFullNext : {K : Type 0} → Content K V → List ℕ → Option V → Type 0
  IsFullNext c a o = IsFullBeside true c a o

  abbrev pub IsFullPrev : {K : Type 0} → Content K V → List ℕ → Option V → Type 0
  IsFullPrev c a o = IsFullBeside false c a o

  abbrev pub IsFullEnd : {K : Type 0} → Bool → Content K V → Option V → Type 0
  IsFullEnd is_above c o = IsNearest is_above (values_of c) o

  abbrev pub IsFullFirst : {K : Type 0} → Content K V → Option V → Type 0
  IsFullFirst c o = IsFullEnd true c o

  abbrev pub IsFullLast : {K : Type 0} → Content K V → Option V → Type 0
  IsFullLast c o = IsFullEnd false c o

  abbrev pub IsGapAmong : List ℕ → List V → Option (Option V × Option V) → Type 0
  IsGapAmong a l None = IsSome (first_with full_key a l)
  IsGapAmong a l (Some g) =
      (first_with full_key a l ≡ None) × IsNearest false (below a l) g.0 × IsNearest true (above a l) g.1

  abbrev pub IsFullGap : {K : Type 0} → Content K V → List ℕ → Option (Option V × Option V) → Type 0
  IsFullGap c a gap = IsGapAmong a (values_of c) gap

  abbrev pub IsEndCandidate : {K : Type 0} → Bool → Content K V → Option V → Type 0
  IsEndCandidate is_above c o = IsNearest is_above (unwrap_or (end_list is_above c) []) o

  abbrev pub IsFirstCandidate : {K : Type 0} → Content K V → Option V → Type 0
  IsFirstCandidate c o = IsEndCandidate true c o

  abbrev pub IsLastCandidate : {K : Type 0} → Content K V → Option V → Type 0
  IsLastCandidate c o = IsEndCandidate false c o

  module _ {K : Type 0} (cmp : K → K → Ordering) where
    abbrev pub IsFiled : (List ℕ → K) → Content K V → Type 0
    IsFiled slot c = (k : K) → All (λ v. IsBytes (full_key v) × (slot (full_key v) ≡ k)) (list_at cmp c k)

    -- the same of an index as it is seen, at a key
    abbrev pub IsFiledIn : View K V → Type 0
    IsFiledIn s = IsFiled s.slot s.content

    abbrev pub IsBesideIn : Bool → View K V → List ℕ → Option V → Type 0
    IsBesideIn is_above s b o =
        IsNearest is_above
        (or_list (beyond is_above b (run_of cmp s b)) (unflagged (beside_list is_above cmp s.content (s.slot b)))) o

    abbrev pub IsNextIn : View K V → List ℕ → Option V → Type 0
    IsNextIn s b o = IsBesideIn true s b o

    abbrev pub IsPrevIn : View K V → List ℕ → Option V → Type 0
    IsPrevIn s b o = IsBesideIn false s b o

    abbrev pub IsGapIn : View K V → List ℕ → Option (Option V × Option V) → Type 0
    IsGapIn s b None = IsSome (first_with full_key b (run_of cmp s b))
    IsGapIn s b (Some g) = (first_with full_key b (run_of cmp s b) ≡ None) × IsPrevIn s b g.0 × IsNextIn s b g.1
