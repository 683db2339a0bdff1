-- Controls of a byte, and of a fingerprint beside the byte that three have.
--     control_low, control_shared, control_own          what a byte stands for
--     control_empty, control_free                       what it tells of its control
--     has_another, has_own                              whether a control is that of a fingerprint
--     control_of_own                                    it is where the bytes are one, and not that of three
--     controls_empty                                    controls of empty cells
--     cells_length, cells_within, control_read          the controls of cells, by their bytes and fingerprints
--     controls_filled, controls_kept                    after a change of both in a cell, and of the byte alone
use Rattle.std.proofs.Common.{◌≡◌, ◌≢◌, ℕ, zero, suc, ◌+◌, ◌<◌, ◌≤◌, true, false, cond, List, [], ◌∷◌, length, replicate, slice_index, slice_set, nat_lt, nat_eq, ◌==◌, refl, sym, ap, ◌∙◌, arith}
use Rattle.std.proofs.lemmas.Bool.{eqb-true, eqb-false, eq-eqb, ne_eqb, le-ltb, lt-ltb, ltb-true, ltb-false}
use Rattle.std.proofs.lemmas.List.{set-get_or}
use Rattle.std.proofs.lemmas.Simd.{length-zip2, get_or-zip2}
use Rattle.std.specs.Simd.Lanes.{zip2}
use Rattle.key_index.specs.Controls.{AreControls, byte_of, control_by, controls_by}

module _ (byte f : ℕ) where
  pub control_low : byte < 2 → control_by byte f ≡ byte
  control_low l = ap (λ b. cond b byte (cond (nat_eq byte 2) (f + 2) (byte + 2))) (lt-ltb byte 2 l)

  pub control_shared : byte ≡ 2 → control_by byte f ≡ f + 2
  control_shared e = ap (λ b. control_by b f) e

  pub control_own : 3 ≤ byte → control_by byte f ≡ byte + 2
  control_own l =
      ap (λ b. cond b byte (cond (nat_eq byte 2) (f + 2) (byte + 2))) (le-ltb byte 2 (omega (arith, l)))
      ∙ ap (λ b. cond b (f + 2) (byte + 2)) (ne_eqb byte 2 (λ e. omega (arith, l, e)))

  -- each byte is one of the three kinds
  by_byte : {A : Type 0} → (byte < 2 → A) → (byte ≡ 2 → A) → (3 ≤ byte → A) → A
  by_byte {A = A} low shared own =
      elim (nat_lt byte 2) as (λ b. nat_lt byte 2 ≡ b → A) [
        | true ↦ λ t. low (ltb-true byte 2 t)
        | false ↦ λ t. elim (nat_eq byte 2) as (λ b. nat_eq byte 2 ≡ b → A) [
          | true ↦ λ e. shared (eqb-true byte 2 e)
          | false ↦ λ n. own (let full = ltb-false byte 2 t in let apart = eqb-false byte 2 n in omega (arith, full, apart))
        ] refl
      ] refl

  pub control_empty : nat_eq byte 0 ≡ (control_by byte f == 0)
  control_empty = by_byte
      (λ l. ap (λ n. n == 0) (sym (control_low l)))
      (λ e. ne_eqb byte 0 (λ z. omega (arith, e, z)) ∙ sym (ap (λ n. n == 0) (control_shared e) ∙ ne_eqb (f + 2) 0 (λ z. omega (arith, z))))
      (λ l. ne_eqb byte 0 (λ z. omega (arith, l, z)) ∙ sym (ap (λ n. n == 0) (control_own l) ∙ ne_eqb (byte + 2) 0 (λ z. omega (arith, z))))

  pub control_free : nat_lt byte 2 ≡ nat_lt (control_by byte f) 2
  control_free = by_byte
      (λ l. ap (λ n. nat_lt n 2) (sym (control_low l)))
      (λ e. le-ltb byte 2 (omega (arith, e)) ∙ sym (ap (λ n. nat_lt n 2) (control_shared e) ∙ le-ltb (f + 2) 2 (omega arith)))
      (λ l. le-ltb byte 2 (omega (arith, l)) ∙ sym (ap (λ n. nat_lt n 2) (control_own l) ∙ le-ltb (byte + 2) 2 (omega arith)))

byte_low : (g : ℕ) → g ≤ 2 → byte_of g ≡ 2
byte_low g l =
    elim (nat_lt g 2) as (λ b. nat_lt g 2 ≡ b → byte_of g ≡ 2) [
      | true ↦ λ t. ap (λ b. cond b 2 g) t
      | false ↦ λ t. ap (λ b. cond b 2 g) t ∙ (let full = ltb-false g 2 t in omega (arith, full, l))
    ] refl

byte_own : (g : ℕ) → 2 ≤ g → byte_of g ≡ g
byte_own g l = ap (λ b. cond b 2 g) (le-ltb g 2 l)

-- a fingerprint whose byte is not that of three
unshared_from_three : (g : ℕ) → byte_of g ≢ 2 → 3 ≤ g
unshared_from_three g n =
    elim (nat_lt g 3) as (λ b. nat_lt g 3 ≡ b → 3 ≤ g) [
      | true ↦ λ t. absurd (n (byte_low g (let few = ltb-true g 3 t in omega (arith, few))))
      | false ↦ λ t. ltb-false g 3 t
    ] refl

module _ (byte f g : ℕ) where
  pub has_another : (byte ≡ 2 → f ≤ 2) → byte ≢ byte_of g → (control_by byte f == g + 2) ≡ false
  has_another few n = ne_eqb _ _ (λ e. by_byte byte f
      (λ l. let low = control_low byte f l in omega (arith, e, low, l))
      (λ s. let shared = control_shared byte f s in let least = few s in n (s ∙ sym (byte_low g (omega (arith, e, shared, least)))))
      (λ l. let own = control_own byte f l in let same : byte ≡ g = omega (arith, e, own) in n (same ∙ sym (byte_own g (omega (arith, l, same))))))

  pub control_of_own : byte ≡ byte_of g → byte_of g ≢ 2 → control_by byte f ≡ g + 2
  control_of_own e n =
      let three = unshared_from_three g n in
      let same = e ∙ byte_own g (omega (arith, three)) in
      control_own byte f (omega (arith, same, three)) ∙ ap (λ m. m + 2) same

  pub has_own : byte ≡ byte_of g → byte_of g ≢ 2 → (control_by byte f == g + 2) ≡ true
  has_own e n = eq-eqb _ _ (control_of_own e n)

pub controls_empty : (n : ℕ) → controls_by (replicate n 0) (replicate n 0) ≡ replicate n 0
controls_empty zero = refl
controls_empty (suc n) = ap (λ l. 0 ∷ l) (controls_empty n)

zip2-set : {A B C : Type 0} (f : A → B → C) (xs : List A) (ys : List B) (i : ℕ) (a : A) (b : B) → length ys ≡ length xs
    → zip2 f (slice_set xs i a) (slice_set ys i b) ≡ slice_set (zip2 f xs ys) i (f a b)
zip2-set f [] [] i a b h = refl
zip2-set f [] (y ∷ ys) i a b h = absurd (omega (arith, h))
zip2-set f (x ∷ xs) [] i a b h = absurd (omega (arith, h))
zip2-set f (x ∷ xs) (y ∷ ys) zero a b h = refl
zip2-set f (x ∷ xs) (y ∷ ys) (suc i) a b h = ap (λ l. f x y ∷ l) (zip2-set f xs ys i a b (omega (arith, h)))

module _ (bytes fs : List ℕ) (are : AreControls bytes fs) where
  module _ (cs : List ℕ) (is : controls_by bytes fs ≡ cs) where
    pub cells_length : length cs ≡ length bytes
    cells_length = ap length (sym is) ∙ length-zip2 control_by bytes fs (sym are.sized)

    pub cells_within : (i : ℕ) → i < length cs → i < length bytes
    cells_within i inside = let same = cells_length in omega (arith, inside, same)

    pub control_read : (i : ℕ) → i < length cs → slice_index cs i ≡ control_by (slice_index bytes i) (slice_index fs i)
    control_read i inside =
        let within = cells_within i inside in
        ap (λ l. slice_index l i) (sym is) ∙ get_or-zip2 control_by bytes fs i 0 0 0 within (let same = are.sized in omega (arith, within, same))

    pub controls_filled : (i byte f : ℕ) → controls_by (slice_set bytes i byte) (slice_set fs i f) ≡ slice_set cs i (control_by byte f)
    controls_filled i byte f = zip2-set control_by bytes fs i byte f are.sized ∙ ap (λ l. slice_set l i (control_by byte f)) is

    pub controls_kept : (i byte : ℕ) → controls_by (slice_set bytes i byte) fs ≡ slice_set cs i (control_by byte (slice_index fs i))
    controls_kept i byte = ap (controls_by (slice_set bytes i byte)) (sym (set-get_or fs i 0)) ∙ controls_filled i byte (slice_index fs i)
