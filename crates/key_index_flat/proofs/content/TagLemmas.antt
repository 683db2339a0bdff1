-- On the tags of pairs in an array.
--     before_tag                      no pair before the first place with a key's tag has the key
--     tags_set, tags_push, tags_take  after another value at a place, one more pair, and one that the last replaces
use Rattle.std.proofs.Common.{◌≡◌, ◌≢◌, ℕ, zero, suc, ◌+◌, ◌<◌, ◌≤◌, Bool, IsTrue, List, [], ◌∷◌, ◌++◌, length, get_or, Some, slice_get, slice_set, slice_index, refl, sym, ap, ◌∙◌, arith}
use Rattle.std.proofs.lemmas.Bool.{false_from_ne_true}
use Rattle.std.proofs.lemmas.Option.{get_or_from_slice_get, slice_get_within, slice_get-get_or}
use Rattle.key_index_map.proofs.Places.{key_stays}
use Rattle.key_index_flat.specs.SmallMap.{tag_of, AreTagged, AreTaggedBut, NoneBefore}

before_push : {X : Type 0} (xs : List X) (x : X) (i : ℕ) (y : X) → i ≢ length xs → slice_get (xs ++ x ∷ []) i ≡ Some y → slice_get xs i ≡ Some y
before_push [] x zero y other there = absurd (other refl)
before_push [] x (suc i) y other there = cc
before_push (z ∷ zs) x zero y other there = there
before_push (z ∷ zs) x (suc i) y other there = before_push zs x i y (λ e. other (ap suc e)) there

module _ {K V : Type 0} (input : K → List (List ℕ)) (tags : List ℕ) (pairs : List (K × V)) (tagged : AreTagged input tags pairs) where
  pub before_tag : (eq : K → K → Bool) → ((x y : K) → IsTrue (eq x y) → input x ≡ input y) → (k : K) (place : ℕ) → place ≤ 16 → ((i : ℕ) → i < place → slice_index tags i ≢ tag_of (input k)) → NoneBefore eq pairs place k
  before_tag eq respects k place within before i e below at =
      false_from_ne_true (eq k e.0) (λ is. before i below (tagged i e (omega arith) at ∙ ap (λ x. tag_of x) (sym (respects k e.0 is))))

  pub tags_set : (place : ℕ) (e : K × V) (w : V) → slice_get pairs place ≡ Some e → AreTagged input tags (slice_set pairs place (e.0, w))
  tags_set place e w at i f below there =
      let had = key_stays pairs place e w i f at there in
      tagged i had.pair below had.at ∙ ap (λ k. tag_of (input k)) had.key

  pub tags_push : (e : K × V) → AreTaggedBut input tags (pairs ++ e ∷ []) (length pairs)
  tags_push e i f below other there = tagged i f below (before_push pairs e i f other there)

  pub tags_take : (new : List (K × V)) (place : ℕ) → length new + 1 ≡ length pairs → ((i : ℕ) (d : K × V) → i ≢ place → i + 1 < length pairs → get_or new i d ≡ get_or pairs i d) → AreTaggedBut input tags new place
  tags_take new place len same i f below other there =
      let within = slice_get_within new i f there in
      tagged i f below (slice_get-get_or pairs i f (omega (arith, len)) ∙ ap (λ x. Some x) (sym (same i f other (omega (arith, len))) ∙ get_or_from_slice_get new i f f there))
