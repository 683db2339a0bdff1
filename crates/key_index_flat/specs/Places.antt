-- The place of a full key in a list of values that stands in the order of full keys, where the records of some may not read.
--     IsInOrder            a list stands in the order of its full keys, each of which is there once
--     at_most              the values of a list whose full key is at most a key
--     IsPlace              how many keys of a list are below a key, and whether one of them is the key
--     AreHidden            the values of a list from one place to another are such as are hidden
--     IsHiddenIn           the place of a key in a list isn't known: hidden values stand where it stands or would stand
use Rattle.std.specs.Prelude.{◌≡◌, ◌≤◌, ◌<◌, ℕ, Bool, List, length, slice_get, Some, is_some}
use Rattle.std.specs.List.{AllPairs, filter}
use Rattle.std.specs.Ordering.{is_le}
use Rattle.std.specs.declared.cmp.Ordering.TheVariants.{Less}
use Rattle.key_index_flat.specs.FullKeys.{below, byte_cmp, first_with}

abbrev pub AreHidden : {V : Type 0} → (V → Type 0) → List V → ℕ → ℕ → Type 0
AreHidden {V = V} hides l from to = (i : ℕ) (v : V) → from ≤ i → i < to → slice_get l i ≡ Some v → hides v

module _ {V : Type 0} (keys : V → List ℕ) where
  abbrev pub IsInOrder : List V → Type 0
  IsInOrder l = AllPairs (λ v w. byte_cmp (keys v) (keys w) ≡ Less) l

  abbrev pub at_most : List ℕ → List V → List V
  at_most key l = filter (λ v. is_le (byte_cmp (keys v) key)) l

  pub record IsPlace (key : List ℕ) (l : List V) (place : ℕ) (is_held : Bool) : Type 0 where
    pub below : place ≡ length (below keys key l)
    pub held : is_held ≡ is_some (first_with keys key l)

  -- from the place on, up to another one, they are hidden, and the key stands there, or would
  pub record IsHiddenIn (hides : V → Type 0) (key : List ℕ) (l : List V) (place : ℕ) : Type 0 where
    pub behind : ℕ
    pub some : place < behind
    pub within : behind ≤ length l
    pub unread : AreHidden hides l place behind
    pub low : place ≤ length (below keys key l)
    pub high : length (at_most key l) ≤ behind
