-- On reads of the front of a record: what is read tells as much as all that stands there.
--     front_tells, step_tells  the key;  and how far it is to the next place that a salvage looks at
--     whole_tells     the record, where all of it was asked for
use Rattle.std.proofs.Common.{◌≡◌, ◌⊎◌, ℕ, zero, suc, ◌+◌, ◌-◌, ◌≤◌, ◌<◌, min, Bool, true, false, cond, List, [], ◌∷◌, ◌++◌, length, take, drop, Some, Result, Ok, Err, inl, inr, refl, sym, ap, subst, ◌∙◌, take-append-drop, length-take, length-drop, arith}
use Rattle.std.specs.Result.{OnOk, is_ok}
use Rattle.std.proofs.lemmas.Bool.{cases_lt}
use Rattle.std.proofs.lemmas.Bool.{false≢true}
use Rattle.std.proofs.lemmas.List.{drop-take, nil_from_length, take_all}
use Rattle.key_index_store.specs.Indexed.{IsLive, key_at}
use Rattle.key_index_store.specs.Record.{has_head, key_in, reading, record_length, value_place}
use Rattle.key_index_store.specs.Reads.{wanted}
use Rattle.key_index_store.specs.Salvage.{step}
use Rattle.key_index_store.proofs.RecordLemmas.{head_front, key_front, key_in-whole, read_front, record_length_front, step_front, value_place_front}

-- all there is, or a head and what it wants
abbrev pub Suffices : Bool → ℕ → List ℕ → List ℕ → Type 0
Suffices is_whole place v x = (v ≡ x) ⊎ ((13 ≤ length v) × (wanted is_whole place v ≤ length v))

wanted_head : (w : Bool) (place : ℕ) (v : List ℕ) → wanted w place v ≤ length v → has_head place v ≡ true → cond w (record_length v) (value_place v) ≤ length v
wanted_head w place v le head = subst (λ n. n ≤ length v) (ap (λ t. cond t (cond w (record_length v) (value_place v)) 0) head) le

key_wanted : (w : Bool) (v : List ℕ) → cond w (record_length v) (value_place v) ≤ length v → value_place v ≤ length v
key_wanted true v le = omega (arith, le)
key_wanted false v le = le

module _ (w : Bool) (place : ℕ) (x v : List ℕ) (front : v ≡ take (length v) x) where
  whole : v ++ drop (length v) x ≡ x
  whole = ap (λ l. l ++ drop (length v) x) front ∙ take-append-drop (length v) x

  pub front_tells : Suffices w place v x → key_in place v ≡ key_in place x
  front_tells (inl all) = ap (key_in place) all
  front_tells (inr enough) =
      sym (key_front v (drop (length v) x) enough.0 place (λ head. key_wanted w v (wanted_head w place v enough.1 head))) ∙ ap (key_in place) whole

  pub step_tells : Suffices w place v x → step place v ≡ step place x
  step_tells (inl all) = ap (step place) all
  step_tells (inr enough) = sym (step_front v (drop (length v) x) enough.0 place) ∙ ap (step place) whole

  pub whole_tells : w ≡ true → Suffices w place v x → reading place v ≡ reading place x
  whole_tells is (inl all) = ap (reading place) all
  whole_tells is (inr enough) =
      sym (read_front v (drop (length v) x) enough.0 place (λ head. subst (λ t. cond t (record_length v) (value_place v) ≤ length v) is (wanted_head w place v enough.1 head))) ∙ ap (reading place) whole

pub whole_enough : (place : ℕ) (v x : List ℕ) → 13 ≤ length v → record_length v ≤ length v → Suffices true place v x
whole_enough place v x head long = inr (head, of (has_head place v))
  where
    of : (b : Bool) → cond b (record_length v) 0 ≤ length v
    of true = long
    of false = omega arith

-- ---- the bytes that are read

pub take-take : (n m : ℕ) (l : List ℕ) → n ≤ m → take n (take m l) ≡ take n l
take-take zero m l h = refl
take-take (suc n) zero l h = absurd (omega (arith, h))
take-take (suc n) (suc m) [] h = refl
take-take (suc n) (suc m) (x ∷ xs) h = ap (λ l. x ∷ l) (take-take n m xs (omega (arith, h)))

module _ (log : List ℕ) (limit p : ℕ) (within : limit ≤ length log) where
  abbrev x : List ℕ
  x = drop p (take limit log)

  x-is_taken : x ≡ take (limit - p) (drop p log)
  x-is_taken = elim (cases_lt limit p) [
    | inl past ↦ (
        let none : x ≡ [] = nil_from_length x (omega (arith, length-drop p (take limit log), length-take limit log, past)) in
        let zero : limit - p ≡ 0 = omega (arith, past) in
        none ∙ sym (ap (λ n. take n (drop p log)) zero))
    | inr le ↦ (
        let sum : p + (limit - p) ≡ limit = omega (arith, le) in
        ap (λ n. drop p (take n log)) (sym sum) ∙ drop-take p (limit - p) log)
  ]

  length-x : length x ≡ limit - p
  length-x = omega (arith, length-drop p (take limit log), length-take limit log, within)

  pub taken_in : (n : ℕ) → n ≤ limit - p → take n (drop p log) ≡ take n x
  taken_in n le = sym (take-take n (limit - p) (drop p log) le) ∙ ap (take n) (sym x-is_taken)

  module _ (v : List ℕ) (n : ℕ) (le : n ≤ limit - p) (is : v ≡ take n (drop p log)) where
    pub length-read : length v ≡ n
    length-read = omega (arith, ap (λ l. length l) (is ∙ taken_in n le), length-take n x, length-x, le)

    pub read-in_front : v ≡ take (length v) x
    read-in_front = is ∙ taken_in n le ∙ ap (λ m. take m x) (sym length-read)

    pub all_read : n ≡ limit - p → v ≡ x
    all_read all = is ∙ taken_in n le ∙ take_all n x (omega (arith, all, length-x))

  -- what is read at first: a block, which has room for a head
  pub first_suffices : (block : ℕ) → 13 ≤ block → (w : Bool) (v : List ℕ) (want : ℕ) → v ≡ take (min (limit - p) block) (drop p log) → want ≡ wanted w p v → min want (limit - p) ≤ length v → Suffices w p v x
  first_suffices block room w v want is same enough =
      let size = length-read v (min (limit - p) block) (omega arith) is in
      elim (cases_lt block (limit - p)) [
        | inl more ↦ inr (omega (arith, size, more, room), omega (arith, same, enough, size, more))
        | inr le ↦ inl (all_read v (min (limit - p) block) (omega arith) is (omega (arith, le)))
      ]

  wanted_front : (w : Bool) (a b : List ℕ) → 13 ≤ length a → wanted w p (a ++ b) ≡ wanted w p a
  wanted_front w a b h = (λ i. cond (head_front a b h p i) (cond w (record_length_front a b h i) (value_place_front a b h i)) 0)

  -- and what is read where that is less than it wants
  pub more_suffices : (block : ℕ) → 13 ≤ block → (w : Bool) (v u : List ℕ) (want : ℕ) → v ≡ take (min (limit - p) block) (drop p log) → want ≡ wanted w p v → length v < min want (limit - p)
      → u ≡ take (min want (limit - p)) (drop p log) → Suffices w p u x
  more_suffices block room w v u want is same less read =
      let size = length-read v (min (limit - p) block) (omega arith) is in
      let long = length-read u (min want (limit - p)) (omega arith) read in
      elim (cases_lt want (limit - p)) [
        | inl lt ↦ (
            let front : v ≡ take (length v) u = read-in_front v (min (limit - p) block) (omega arith) is ∙ sym (ap (take (length v)) (read-in_front u (min want (limit - p)) (omega arith) read) ∙ take-take (length v) (length u) x (omega (arith, long, less))) in
            let whole : v ++ drop (length v) u ≡ u = ap (λ l. l ++ drop (length v) u) front ∙ take-append-drop (length v) u in
            let thirteen : 13 ≤ length v = omega (arith, size, less, room, lt) in
            let wants : wanted w p u ≡ want = sym (ap (wanted w p) whole) ∙ wanted_front w v (drop (length v) u) thirteen ∙ sym same in
            inr (omega (arith, long, less, thirteen), omega (arith, wants, long)))
        | inr le ↦ inl (all_read u (min want (limit - p)) (omega arith) read (omega (arith, le)))
      ]

pub on_ok_told : {A E : Type 0} {P : Type 0} (r : Result A E) → is_ok r ≡ true → OnOk r P → P
on_ok_told (Ok x) e h = h
on_ok_told (Err x) e h = absurd (false≢true e)

-- ---- the key of a live record

pub key_in-live : (log : List ℕ) (p : ℕ) → IsLive log p → key_in p (drop p log) ≡ Some (key_at log p)
key_in-live log p live = key_in-whole p (drop p log) _ live
