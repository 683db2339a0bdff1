-- On a log that is read block by block.
--     zeros_split     zeros in a block, and behind it
--     one_more        the log up to the end of a record that is found in a block is the log in front of it, with it
use Rattle.std.proofs.Common.{◌≡◌, ℕ, ◌+◌, ◌-◌, ◌≤◌, ◌==◌, ◌&&◌, Bool, true, false, cond, List, [], ◌∷◌, ◌++◌, length, take, drop, refl, sym, ap, subst, ◌∙◌, length-drop, length-take, take-append-drop, arith}
use Rattle.std.proofs.lemmas.List.{drop-append-le, drop-drop, take_all}
use Rattle.key_index_store.specs.Indexed.{IsTail}
use Rattle.key_index_store.specs.Record.{Complete, Damaged, Entry, IsFound, Outcome, Stops, Torn, encoded, reading, size_of}
use Rattle.key_index_store.specs.Stored.{is_zeros, tail_by, tail_of}
use Rattle.key_index_store.specs.declared.store.Tail.{Tail}
use Rattle.key_index_store.specs.declared.store.Tail.TheVariants as tail
use Rattle.key_index_store.proofs.LogLemmas.{one_read}
use Rattle.key_index_store.proofs.RecordLemmas.{found_front, found_long}

and_assoc : (a b c : Bool) → (a && (b && c)) ≡ ((a && b) && c)
and_assoc true b c = refl
and_assoc false b c = refl

zeros-append : (a b : List ℕ) → is_zeros (a ++ b) ≡ (is_zeros a && is_zeros b)
zeros-append [] b = refl
zeros-append (x ∷ xs) b = ap (λ t. (x == 0) && t) (zeros-append xs b) ∙ and_assoc (x == 0) (is_zeros xs) (is_zeros b)

pub zeros_split : (p n : ℕ) (log : List ℕ) → is_zeros (drop p log) ≡ (is_zeros (take n (drop p log)) && is_zeros (drop (p + n) log))
zeros_split p n log =
    ap is_zeros (sym (take-append-drop n (drop p log))) ∙ zeros-append (take n (drop p log)) (drop n (drop p log))
    ∙ ap (λ l. is_zeros (take n (drop p log)) && is_zeros l) (drop-drop n p log)

module _ (log bytes : List ℕ) (position : ℕ) (block : bytes ≡ take (length bytes) (drop position log)) where
  module _ (rest : List ℕ) (place : ℕ) (at : place ≡ position + (length bytes - length rest)) (within : length rest ≤ length bytes) (is : rest ≡ drop (length bytes - length rest) bytes)
      (r : Entry) (found : IsFound place rest (Complete r)) where
    abbrev behind : List ℕ
    behind = drop (length bytes) (drop position log)

    drop-place : drop place log ≡ rest ++ behind
    drop-place =
        ap (λ n. drop n log) at ∙ sym (drop-drop (length bytes - length rest) position log)
        ∙ ap (drop (length bytes - length rest)) (sym (ap (λ l. l ++ behind) block ∙ take-append-drop (length bytes) (drop position log)))
        ∙ drop-append-le (length bytes - length rest) bytes behind (omega arith)
        ∙ ap (λ l. l ++ behind) (sym is)

    pub rest-long : size_of r ≤ length rest
    rest-long = found_long place rest r found

    pub place-within : place ≤ length log
    place-within = omega (arith, at, ap (λ l. length l) block, length-take (length bytes) (drop position log), length-drop position log, rest-long, within)

    pub one_more : take (place + size_of r) log ≡ take place log ++ encoded place r
    one_more = one_read log place r (omega (arith, length-take place log, place-within))
        (subst (λ l. IsFound place l (Complete r)) (sym drop-place) (found_front place rest behind r found))

-- a record that is read by itself
module _ (log v : List ℕ) (end len : ℕ) (r : Entry) (whole : len ≡ length log) (front : v ≡ take (length v) (drop end (take len log))) (found : IsFound end v (Complete r)) where
  pub found_whole : IsFound end (drop end log) (Complete r)
  found_whole =
      let x = drop end (take len log) in
      let all : take len log ≡ log = take_all len log (omega (arith, whole)) in
      let longer : v ++ drop (length v) x ≡ x = ap (λ l. l ++ drop (length v) x) front ∙ take-append-drop (length v) x in
      subst (λ l. IsFound end l (Complete r)) (longer ∙ ap (drop end) all) (found_front end v (drop (length v) x) r found)

  pub one_whole : end ≤ len → take (end + size_of r) log ≡ take end log ++ encoded end r
  one_whole le = one_read log end r (omega (arith, length-take end log, whole, le)) found_whole

-- what a block is, as the code has it
pub block-is : (log : List ℕ) (end n : ℕ) (v slice : List ℕ) → slice ≡ v → v ≡ take n (drop end log) → length v ≡ n → slice ≡ take (length slice) (drop end log)
block-is log end n v slice value told counted =
    value ∙ told ∙ ap (λ m. take m (drop end log)) (sym counted ∙ ap (λ l. length l) (sym value))

-- a tail that is told is one that the store may keep
not_nothing : (z : Bool) (o : Outcome) → Stops o → ¬ (tail.Nothing ≡ cond z tail.Torn (tail_by o))
not_nothing true o stops is = cc
not_nothing false (Complete r) stops is = stops
not_nothing false Torn stops is = cc
not_nothing false Damaged stops is = cc

pub told-IsTail : (t : Tail) (place : ℕ) (rest : List ℕ) → t ≡ tail_of place rest → Stops (reading place rest) → IsTail t place rest
told-IsTail tail.Nothing place [] is stops = refl
told-IsTail tail.Nothing place (b ∷ rest) is stops = absurd (not_nothing (is_zeros (b ∷ rest)) (reading place (b ∷ rest)) stops is)
told-IsTail tail.Torn place rest is stops = λ damaged. (let both = is ∙ damaged in cc)
told-IsTail tail.Damaged place rest is stops = sym is
