-- The keys of a log, by the positions of its records.
--     key_in        the key at a position, empty where there is none
--     IsMissing     no record stands at a position
use Rattle.std.specs.Prelude.{◌≡◌, ℕ, List, [], None, unwrap_or, Vec}
use Rattle.std.specs.List.{slice_get}
use Rattle.std.specs.Option.{option_map}
use Rattle.std.specs.declared.alloc.Global.{Global}

abbrev pub key_in : List (Vec ℕ Global) → ℕ → List ℕ
key_in keys position = unwrap_or (option_map (λ key. key.items) (slice_get keys position)) []

abbrev pub IsMissing : List (Vec ℕ Global) → ℕ → Type 0
IsMissing keys position = slice_get keys position ≡ None
