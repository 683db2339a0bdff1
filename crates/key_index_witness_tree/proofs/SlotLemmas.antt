-- Slots and places.
--     slot-even, slot-odd     the slots below a place
--     slot-within             of n leaves each has a slot below n
--     place-within            and each slot a place
--     slot-place              the slot of a slot's place
--     slot-alone              two leaves have two slots
use Rattle.std.proofs.Common.{◌≡◌, ◌≢◌, ◌⊎◌, ℕ, zero, suc, ◌+◌, ◌*◌, ◌/◌, ◌%◌, ◌==◌, ◌<◌, ◌≤◌, nat_le, List, length, true, false, if◌then◌else◌, refl, sym, ap, ◌∙◌, inl, inr, arith, le-leb, leb-true, leb-false}
use Rattle.std.proofs.lemmas.Bool.{false≢true}
use Rattle.std.proofs.lemmas.Bool.Decides.{Decides-eqb}
use Rattle.key_index_witness_tree.specs.Heap.{node_at, leaf_in}
use Rattle.key_index_witness_tree.specs.Slots.{slot_from, slot_of, place_from, place_of}

-- by whether a place is even
parity : (p : ℕ) → ((p % 2 == 0) ≡ true) × (p ≡ 2 * (p / 2)) ⊎ ((p % 2 == 0) ≡ false) × (p ≡ 2 * (p / 2) + 1)
parity p =
    elim (p % 2 == 0) as (λ r. r ≡ (p % 2 == 0) → (r ≡ true) × (p ≡ 2 * (p / 2)) ⊎ (r ≡ false) × (p ≡ 2 * (p / 2) + 1)) [
      | true ↦ λ e. let even = (Decides-eqb (p % 2) 0).0 (sym e) in inl (refl, omega (arith, even))
      | false ↦ λ e. let odd : p % 2 ≡ 0 → ⊥ = λ h. false≢true (e ∙ (Decides-eqb (p % 2) 0).1 h) in inr (refl, omega (arith, odd))
    ] refl

from_even : (f p : ℕ) → (p % 2 == 0) ≡ true → slot_from (suc f) p ≡ slot_from f (p / 2)
from_even f p e = ap (λ r. if r then slot_from f (p / 2) else p / 2) e

from_odd : (f p : ℕ) → (p % 2 == 0) ≡ false → slot_from (suc f) p ≡ p / 2
from_odd f p e = ap (λ r. if r then slot_from f (p / 2) else p / 2) e

slot_enough : (f g p : ℕ) → 1 ≤ p → p ≤ f → p ≤ g → slot_from f p ≡ slot_from g p
slot_enough zero g p low h k = absurd (omega (arith, low, h))
slot_enough (suc f) zero p low h k = absurd (omega (arith, low, k))
slot_enough (suc f) (suc g) p low h k = elim (parity p) [
  | inl e ↦ let half = e.1 in
      from_even f p e.0 ∙ (slot_enough f g (p / 2) (omega (arith, low, half)) (omega (arith, low, half, h)) (omega (arith, low, half, k)) ∙ sym (from_even g p e.0))
  | inr o ↦ from_odd f p o.0 ∙ sym (from_odd g p o.0)
]

pub slot-half : (p : ℕ) → 2 ≤ p → (p % 2 == 0) ≡ true → slot_of p ≡ slot_of (p / 2)
slot-half p low e =
    slot_enough p (suc p) p (omega (arith, low)) (omega arith) (omega arith) ∙ (from_even p p e ∙ slot_enough p (p / 2) (p / 2) (omega (arith, low)) (omega arith) (omega arith))

slot-of_odd : (p : ℕ) → 1 ≤ p → (p % 2 == 0) ≡ false → slot_of p ≡ p / 2
slot-of_odd p low e = slot_enough p (suc p) p low (omega arith) (omega arith) ∙ from_odd p p e

pub slot-even : (p : ℕ) → 1 ≤ p → slot_of (2 * p) ≡ slot_of p
slot-even p low = elim (parity (2 * p)) [
  | inl e ↦ slot-half (2 * p) (omega (arith, low)) e.0 ∙ ap slot_of (let h : 2 * p / 2 ≡ p = omega arith in h)
  | inr o ↦ absurd (let h = o.1 in omega (arith, h))
]

pub slot-odd : (p : ℕ) → slot_of (2 * p + 1) ≡ p
slot-odd p = elim (parity (2 * p + 1)) [
  | inl e ↦ absurd (let h = e.1 in omega (arith, h))
  | inr o ↦ slot-of_odd (2 * p + 1) (omega arith) o.0 ∙ (let h : (2 * p + 1) / 2 ≡ p = omega arith in h)
]

slot-small : (f p : ℕ) → 1 ≤ p → p ≤ f → 2 * slot_of p + 1 ≤ p
slot-small zero p low h = absurd (omega (arith, low, h))
slot-small (suc f) p low h = elim (parity p) [
  | inl e ↦
      let half = e.1 in
      let same = slot-half p (omega (arith, low, half)) e.0 in
      let small = slot-small f (p / 2) (omega (arith, low, half)) (omega (arith, low, half, h)) in
      omega (arith, same, small)
  | inr o ↦ let same = slot-of_odd p low o.0 in let half = o.1 in omega (arith, same, half)
]

pub slot-within : (n j : ℕ) → 1 ≤ j → j < 2 * n → slot_of j < n
slot-within n j low high = let small = slot-small j j low (omega arith) in omega (arith, small, high)

place-from_within : (n f p : ℕ) → 1 ≤ p → p < 2 * n → n ≤ p + f → (n ≤ place_from n f p) × (place_from n f p < 2 * n)
place-from_within n zero p low high deep = (omega (arith, deep), high)
place-from_within n (suc f) p low high deep =
    elim (nat_le n p) as (λ r. r ≡ nat_le n p → (n ≤ (if r then p else place_from n f (2 * p))) × ((if r then p else place_from n f (2 * p)) < 2 * n)) [
      | true ↦ λ e. (leb-true n p (sym e), high)
      | false ↦ λ e. let under : p < n = leb-false n p (sym e) in place-from_within n f (2 * p) (omega (arith, low)) (omega (arith, under)) (omega (arith, low, deep))
    ] refl

pub place-within : (n s : ℕ) → s < n → (n ≤ place_of n s) × (place_of n s < 2 * n)
place-within n s h = place-from_within n n (2 * s + 1) (omega arith) (omega (arith, h)) (omega arith)

slot-place_from : (n f p : ℕ) → 1 ≤ p → slot_of (place_from n f p) ≡ slot_of p
slot-place_from n zero p low = refl
slot-place_from n (suc f) p low =
    elim (nat_le n p) as (λ r. slot_of (if r then p else place_from n f (2 * p)) ≡ slot_of p) [
      | true ↦ refl
      | false ↦ slot-place_from n f (2 * p) (omega (arith, low)) ∙ slot-even p low
    ]

pub slot-place : (n s : ℕ) → slot_of (place_of n s) ≡ s
slot-place n s = slot-place_from n n (2 * s + 1) (omega arith) ∙ slot-odd s

-- an odd place is the lowest with its slot
odd_lowest : (j p : ℕ) → 1 ≤ j → 1 ≤ p → (j % 2 == 0) ≡ false → j ≡ 2 * (j / 2) + 1 → (p % 2 == 0) ≡ true → p ≡ 2 * (p / 2) → slot_of j ≡ slot_of p → 2 * j ≤ p
odd_lowest j p a b o half e double same =
    let mine = slot-of_odd j a o in
    let theirs = slot-half p (omega (arith, b, double)) e in
    let small = slot-small (p / 2) (p / 2) (omega (arith, b, double)) (omega arith) in
    omega (arith, mine, theirs, small, half, double, same)

slots-differ : (f j p : ℕ) → j ≤ f → 1 ≤ j → 1 ≤ p → slot_of j ≡ slot_of p → (j ≡ p) ⊎ ((2 * j ≤ p) ⊎ (2 * p ≤ j))
slots-differ zero j p h a b same = absurd (omega (arith, h, a))
slots-differ (suc f) j p h a b same = elim (parity j) [
  | inl e ↦ elim (parity p) [
    | inl g ↦
        let x = e.1 in
        let y = g.1 in
        let halves = sym (slot-half j (omega (arith, a, x)) e.0) ∙ (same ∙ slot-half p (omega (arith, b, y)) g.0) in
        elim (slots-differ f (j / 2) (p / 2) (omega (arith, h, x, a)) (omega (arith, a, x)) (omega (arith, b, y)) halves) [
          | inl q ↦ inl (omega (arith, q, x, y))
          | inr rest ↦ elim rest [
            | inl q ↦ inr (inl (omega (arith, q, x, y)))
            | inr q ↦ inr (inr (omega (arith, q, x, y)))
          ]
        ]
    | inr o ↦ inr (inr (odd_lowest p j b a o.0 o.1 e.0 e.1 (sym same)))
  ]
  | inr o ↦ elim (parity p) [
    | inl g ↦ inr (inl (odd_lowest j p a b o.0 o.1 g.0 g.1 same))
    | inr g ↦
        let x = slot-of_odd j a o.0 in
        let y = slot-of_odd p b g.0 in
        let m = o.1 in
        let k = g.1 in
        inl (omega (arith, x, y, m, k, same))
  ]
]

pub slot-alone : (n j p : ℕ) → 1 ≤ n → n ≤ j → j < 2 * n → n ≤ p → p < 2 * n → slot_of j ≡ slot_of p → j ≡ p
slot-alone n j p some a b c d same = elim (slots-differ j j p (omega arith) (omega (arith, some, a)) (omega (arith, some, c)) same) [
  | inl e ↦ e
  | inr rest ↦ elim rest [
    | inl q ↦ absurd (omega (arith, q, a, d))
    | inr q ↦ absurd (omega (arith, q, c, b))
  ]
]

-- ---- the code's loop

place_there : (n f p : ℕ) → n ≤ p → place_from n (suc f) p ≡ p
place_there n f p h = ap (λ r. if r then p else place_from n f (2 * p)) (le-leb n p h)

place_enough : (n f g p : ℕ) → 1 ≤ p → n ≤ p + f → n ≤ p + g → place_from n f p ≡ place_from n g p
place_enough n zero zero p low h k = refl
place_enough n zero (suc g) p low h k = sym (place_there n g p (omega (arith, h)))
place_enough n (suc f) zero p low h k = place_there n f p (omega (arith, k))
place_enough n (suc f) (suc g) p low h k =
    elim (nat_le n p) as (λ r. r ≡ nat_le n p → (if r then p else place_from n f (2 * p)) ≡ (if r then p else place_from n g (2 * p))) [
      | true ↦ λ _. refl
      | false ↦ λ e. place_enough n f g (2 * p) (omega (arith, low)) (omega (arith, low, h)) (omega (arith, low, k))
    ] refl

pub place_step : (n p : ℕ) → 1 ≤ p → p < n → place_from n n p ≡ place_from n n (2 * p)
place_step n p low h =
    place_enough n n (suc n) p low (omega arith) (omega arith)
    ∙ elim (nat_le n p) as (λ r. r ≡ nat_le n p → (if r then p else place_from n n (2 * p)) ≡ place_from n n (2 * p)) [
      | true ↦ λ e. absurd (let over = leb-true n p (sym e) in omega (arith, over, h))
      | false ↦ λ _. refl
    ] refl

-- ---- the leaves by their slots

-- a leaf stands at the place of its slot
pub place-slot : (n j : ℕ) → 1 ≤ n → n ≤ j → j < 2 * n → place_of n (slot_of j) ≡ j
place-slot n j some a b =
    let low = slot-within n j (omega (arith, some, a)) b in
    let within = place-within n (slot_of j) low in
    slot-alone n (place_of n (slot_of j)) j some within.0 within.1 a b (slot-place n (slot_of j))

-- ---- after a change

places_differ : (n s slot : ℕ) → s ≢ slot → place_of n s ≢ place_of n slot
places_differ n s slot ne e = ne (sym (slot-place n s) ∙ (ap slot_of e ∙ slot-place n slot))

pub leaf_after_set : (old new : List (List ℕ)) (slot place s : ℕ) → length old % 2 ≡ 0 → length new ≡ length old
    → place ≡ place_of (length old / 2) slot
    → ((i : ℕ) → length old ≤ 2 * i → i ≢ place → node_at new i ≡ node_at old i)
    → s < length old / 2 → s ≢ slot → leaf_in new s ≡ leaf_in old s
leaf_after_set old new slot place s even size is others low ne =
    let n = length old / 2 in
    let within = (place-within n s low).0 in
    ap (λ l. node_at new (place_of (l / 2) s)) size
    ∙ others (place_of n s) (omega (arith, within, even)) (λ e. places_differ n s slot ne (e ∙ is))

-- with one leaf more
place_more : (n s : ℕ) → s < n → (place_of n s ≡ n) × (place_of (n + 1) s ≡ 2 * n)
    ⊎ (n < place_of n s) × (place_of n s < 2 * n) × (place_of (n + 1) s ≡ place_of n s)
place_more n s h =
    let j = place_of n s in
    let within = place-within n s h in
    elim (nat_le j n) as (λ r. r ≡ nat_le j n → (j ≡ n) × (place_of (n + 1) s ≡ 2 * n) ⊎ (n < j) × (j < 2 * n) × (place_of (n + 1) s ≡ j)) [
      | true ↦ λ e.
          let over = leb-true j n (sym e) in
          let same : j ≡ n = omega (arith, over, within.0) in
          let slot : slot_of (2 * n) ≡ s = slot-even n (omega (arith, h)) ∙ (ap slot_of (sym same) ∙ slot-place n s) in
          inl (same, ap (place_of (n + 1)) (sym slot) ∙ place-slot (n + 1) (2 * n) (omega arith) (omega (arith, h)) (omega arith))
      | false ↦ λ e.
          let under = leb-false j n (sym e) in
          let high = within.1 in
          inr (under, high, ap (place_of (n + 1)) (sym (slot-place n s)) ∙ place-slot (n + 1) j (omega arith) (omega (arith, under)) (omega (arith, high)))
    ] refl

-- the longer list has the leaves of the shorter one, and one more
pub leaf_of_longer : (shorter longer : List (List ℕ)) (s : ℕ) → length shorter % 2 ≡ 0 → length longer ≡ length shorter + 2
    → node_at longer (length shorter) ≡ node_at shorter (length shorter / 2)
    → ((i : ℕ) → length shorter < 2 * i → i < length shorter → node_at longer i ≡ node_at shorter i)
    → s < length shorter / 2 → leaf_in longer s ≡ leaf_in shorter s
leaf_of_longer shorter longer s even size moved others low =
    let n = length shorter / 2 in
    let more : length longer / 2 ≡ n + 1 = omega (arith, size, even) in
    ap (λ m. node_at longer (place_of m s)) more
    ∙ elim (place_more n s low) [
      | inl x ↦
          let whole : 2 * n ≡ length shorter = omega (arith, even) in
          ap (λ p. node_at longer p) (x.1 ∙ whole) ∙ (moved ∙ ap (λ p. node_at shorter p) (sym x.0))
      | inr x ↦
          let above = x.0 in
          let under = x.1 in
          ap (λ p. node_at longer p) x.2 ∙ others (place_of n s) (omega (arith, above, even)) (omega (arith, under, even))
    ]

pub leaf_added : (shorter longer : List (List ℕ)) → length shorter % 2 ≡ 0 → length longer ≡ length shorter + 2
    → leaf_in longer (length shorter / 2) ≡ node_at longer (length shorter + 1)
leaf_added shorter longer even size =
    let n = length shorter / 2 in
    let more : length longer / 2 ≡ n + 1 = omega (arith, size, even) in
    let whole : 2 * n + 1 ≡ length shorter + 1 = omega (arith, even) in
    ap (λ m. node_at longer (place_of m n)) more
    ∙ ap (λ p. node_at longer p) (ap (place_of (n + 1)) (sym (slot-odd n)) ∙ (place-slot (n + 1) (2 * n + 1) (omega arith) (omega arith) (omega arith) ∙ whole))
