-- What moves a content's lists into pairs.
--     grouped-spread                the pairs of a lawful content stand for it
--     zip-more                      a run of pairs behind others, by keys and values
--     replicate-more                one key more

use Rattle.std.proofs.Common.{◌≡◌, ℕ, ◌+◌, cond, T, List, [], ◌∷◌, ◌++◌, length, replicate, unwrap_or, Some, append_assoc, refl, ap, ◌∙◌}
use Rattle.std.specs.List.{zip}
use Rattle.std.specs.Cmp.{IsTotalOrder, tied_itself}
use Rattle.std.specs.FinMap.{put, find}
use Rattle.std.specs.FinMap.Entries.{below_all, by_order}
use Rattle.std.specs.declared.cmp.Ordering.{Ordering}
use Rattle.std.specs.Ordering.{is_eq}
use Rattle.key_index_flat.specs.Content.{Content, is_filled, IsLawful, list_at}
use Rattle.key_index_flat.specs.laws.Laws.{T-and_first, T-and_second}
use Rattle.key_index_flat.proofs.content.ContentLemmas.{list_at-below_all}
use Rattle.key_index_parts.specs.Pairs.{grouped}
use Rattle.key_index_parts.specs.Spread.{pairs_with, spread}
use Rattle.key_index_parts.proofs.pairs.GroupLemmas.{put-below}
use Rattle.key_index_parts.proofs.pairs.ZipLemmas.{zip-append}
use Rattle.std.proofs.lemmas.List.{replicate_more}

module _ {K V : Type 0} {cmp : K → K → Ordering} (o : IsTotalOrder cmp) where
  put-again : (k : K) (x y : List V) (c : Content K V) → put cmp k x ((k, y) ∷ c) ≡ (k, x) ∷ c
  put-again k x y c = ap (λ r. by_order r ((k, x) ∷ (k, y) ∷ c) ((k, x) ∷ c) ((k, y) ∷ put cmp k x c)) (tied_itself o k)

  list_at-first_entry : (k : K) (y : List V) (c : Content K V) → list_at cmp ((k, y) ∷ c) k ≡ y
  list_at-first_entry k y c = ap (λ r. unwrap_or (cond (is_eq r) (Some y) (find cmp k c)) []) (tied_itself o k)

  -- a run in front of pairs that stand for a content behind its key
  grouped-run : (k : K) (v : V) (vs : List V) (es : List (K × V)) (c : Content K V) → grouped cmp es ≡ c → T (below_all cmp k c)
      → grouped cmp (pairs_with k (v ∷ vs) ++ es) ≡ (k, v ∷ vs) ∷ c
  grouped-run k v [] es c is below =
      ap (λ d. put cmp k (v ∷ list_at cmp d k) d) is
      ∙ ap (λ l. put cmp k (v ∷ l) c) (list_at-below_all o k k c (λ y h. h) below) ∙ put-below o k (v ∷ []) c below
  grouped-run k v (w ∷ ws) es c is below =
      ap (λ d. put cmp k (v ∷ list_at cmp d k) d) (grouped-run k w ws es c is below)
      ∙ ap (λ l. put cmp k (v ∷ l) ((k, w ∷ ws) ∷ c)) (list_at-first_entry k (w ∷ ws) c) ∙ put-again k (v ∷ w ∷ ws) (w ∷ ws) c

  grouped-pairs_with : (k : K) (l : List V) (es : List (K × V)) (c : Content K V) → T (is_filled l) → grouped cmp es ≡ c → T (below_all cmp k c)
      → grouped cmp (pairs_with k l ++ es) ≡ (k, l) ∷ c
  grouped-pairs_with k [] es c f is below = absurd f
  grouped-pairs_with k (v ∷ vs) es c f is below = grouped-run k v vs es c is below

  pub grouped-spread : (c : Content K V) → IsLawful cmp c → grouped cmp (spread c) ≡ c
  grouped-spread [] h = refl
  grouped-spread (e ∷ es) h =
      grouped-pairs_with e.0 e.1 (spread es) es (T-and_first (is_filled e.1) _ h.1)
      (grouped-spread es (T-and_second (below_all cmp e.0 es) _ h.0, T-and_second (is_filled e.1) _ h.1)) (T-and_first (below_all cmp e.0 es) _ h.0)

module _ {K : Type 0} where
  pub replicate-more : (ks : List K) (n : ℕ) (k : K) → (ks ++ replicate n k) ++ k ∷ [] ≡ ks ++ replicate (n + 1) k
  replicate-more ks n k = append_assoc ks (replicate n k) (k ∷ []) ∙ ap (λ l. ks ++ l) (replicate_more n k)

module _ {K V : Type 0} where
  zip-alike : (k : K) (vs : List V) → zip (replicate (length vs) k) vs ≡ pairs_with k vs
  zip-alike k [] = refl
  zip-alike k (v ∷ vs) = ap (λ l. (k, v) ∷ l) (zip-alike k vs)

  pub zip-more : (ks : List K) (vs : List V) → length ks ≡ length vs → (k : K) (ws : List V)
      → zip (ks ++ replicate (length ws) k) (vs ++ ws) ≡ zip ks vs ++ pairs_with k ws
  zip-more ks vs h k ws = zip-append ks (replicate (length ws) k) vs ws h ∙ ap (λ l. zip ks vs ++ l) (zip-alike k ws)
