-- On what a search reached.
--     run_reached   in the view after it, an index key and a number are still those of a key, and of the values that it has
use Rattle.std.proofs.Common.{◌≡◌, ℕ, List, length, sym, ap, ◌∙◌}
use Rattle.std.specs.declared.cmp.Ordering.{Ordering}
use Rattle.key_index_flat.specs.View.{View, run_at, Reaches}

pub run_reached : {K V : Type 0} (cmp : K → K → Ordering) {s t : View K V} {b : List ℕ} (k : K) (n : ℕ) → t ≡ s → Reaches cmp s b (k, n) → n ≡ length (run_at cmp t k)
run_reached cmp {s = s} {t = t} {b = b} k n same told =
    told.1 ∙ ap (λ v. length (run_at cmp v (s.slot b))) (sym same) ∙ ap (λ q. length (run_at cmp t q)) (sym told.0)
