-- That no value has a full key, shown by the values next to it.
--     has_key       whether a value of a list has the full key
--     IsBetween     a value's full key lies strictly between those of two others, where one that is absent bounds nothing
--     Excludes      no value has the key a; the value below it and the one above it are of the list, strictly below and strictly above, and none lies between
use Rattle.std.specs.Prelude.{◌≡◌, ℕ, Bool, false, List, Option, All, IfSome}
use Rattle.std.specs.List.{list_any, Contains}
use Rattle.std.specs.Str.{bytes_eq}
use Rattle.std.specs.declared.cmp.Ordering.TheVariants.{Less}
use Rattle.key_index_flat.specs.FullKeys.{byte_cmp}

module _ {V : Type 0} (full_key : V → List ℕ) where
  abbrev pub has_key : List ℕ → List V → Bool
  has_key a l = list_any (λ v. bytes_eq (full_key v) a) l

  abbrev pub IsBetween : Option V → V → Option V → Type 0
  IsBetween below v above =
      IfSome below (λ b. byte_cmp (full_key b) (full_key v) ≡ Less)
      × IfSome above (λ t. byte_cmp (full_key v) (full_key t) ≡ Less)

pub record Excludes {V : Type 0} (full_key : V → List ℕ) (l : List V) (a : List ℕ) (below above : Option V)
    : Type 0 where
  pub absent : has_key full_key a l ≡ false
  pub below_it : IfSome below (λ v. Contains l v × (byte_cmp (full_key v) a ≡ Less))
  pub above_it : IfSome above (λ v. Contains l v × (byte_cmp a (full_key v) ≡ Less))
  pub none_between : All (λ v. ¬ (IsBetween full_key below v above)) l
