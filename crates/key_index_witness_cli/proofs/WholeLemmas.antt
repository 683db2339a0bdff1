-- Where fewer than n of the first n bytes came, these are all.
use Rattle.std.proofs.Common.{arith, ◌≡◌, ◌<◌, ℕ, List, length, ap, ◌∙◌}
use Rattle.std.specs.Prelude.{Option, Some, None, IfSome, option_map, take}
use Rattle.std.proofs.lemmas.List.{length-take, take_all}

pub whole : (n : ℕ) (known : Option (List ℕ)) (got : List ℕ) → IfSome (option_map (take n) known) (λ xs. got ≡ xs) → length got < n → IfSome known (λ all. got ≡ all)
whole n None got h short = h
whole n (Some all) got h short = h ∙ take_all n all (omega (arith, short, ap length h, length-take n all))
