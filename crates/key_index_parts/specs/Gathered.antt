-- The content of buckets that are listed by their numbers.
--     pair_cmp      pairs of a bucket's number and a key of its own, ordered as pairs
--     tagged        the entries of the bucket of number p, at such pairs
--     gathered      the content of the whole: the entries of each bucket in turn
--     entries_of    the entries of one bucket
use Rattle.std.specs.Prelude.{ℕ, suc, List, [], ◌∷◌, ◌++◌}
use Rattle.std.specs.Bool.{◌==◌}
use Rattle.std.specs.List.{filter}
use Rattle.std.specs.declared.cmp.Ordering.{Ordering}
use Rattle.std.specs.Ordering.{nat_cmp, ordering_then}
use Rattle.key_index_flat.specs.Content.{Content}

abbrev pub pair_cmp : {K : Type 0} → (K → K → Ordering) → ℕ × K → ℕ × K → Ordering
pair_cmp cmp x y = ordering_then (nat_cmp x.0 y.0) (cmp x.1 y.1)

module _ {K V : Type 0} where
  abbrev pub tagged : ℕ → Content K V → Content (ℕ × K) V
  tagged p [] = []
  tagged p (e ∷ es) = ((p, e.0), e.1) ∷ tagged p es

  abbrev pub gathered_from : ℕ → List (Content K V) → Content (ℕ × K) V
  gathered_from p [] = []
  gathered_from p (c ∷ cs) = tagged p c ++ gathered_from (suc p) cs

  abbrev pub gathered : List (Content K V) → Content (ℕ × K) V
  gathered cs = gathered_from 0 cs

  abbrev pub entries_of : Content (ℕ × K) V → ℕ → Content (ℕ × K) V
  entries_of c n = filter (λ e. e.0.0 == n) c
