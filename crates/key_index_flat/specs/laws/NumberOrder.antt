-- Numbers by their order: what their comparison answers, and numbers of two digits.
--     nat_below, nat_self, nat_above     the answer from what holds
--     nat_cmp-add                        one number added to both changes nothing
--     smaller_digit                      a smaller first digit makes a smaller number
use Rattle.std.proofs.Common.{◌≡◌, ℕ, suc, ◌+◌, ◌*◌, ◌<◌, ◌≤◌, refl, sym, ap, ◌∙◌, arith}
use Rattle.std.proofs.Math.Nat.{mul-le-mul_right}
use Rattle.std.specs.declared.cmp.Ordering.TheVariants.{Less, Equal, Greater}
use Rattle.std.specs.Ordering.{nat_cmp}
use Rattle.std.specs.Cmp.{nat_cmp_is, ranked}

pub nat_below : (p q : ℕ) → p < q → nat_cmp p q ≡ Less
nat_below p q h = sym (nat_cmp_is p q Less h)

pub nat_self : (p : ℕ) → nat_cmp p p ≡ Equal
nat_self p = sym (nat_cmp_is p p Equal refl)

pub nat_above : (p q : ℕ) → q < p → nat_cmp p q ≡ Greater
nat_above p q h = sym (nat_cmp_is p q Greater h)

pub nat_cmp-add : (q r s : ℕ) → nat_cmp (q + r) (q + s) ≡ nat_cmp r s
nat_cmp-add q r s =
    elim (nat_cmp r s) as (λ o. o ≡ nat_cmp r s → nat_cmp (q + r) (q + s) ≡ o) [
      | Less ↦ λ e. let less = ranked r s Less e in nat_below (q + r) (q + s) (omega (arith, less))
      | Equal ↦ λ e. ap (λ m. nat_cmp (q + r) (q + m)) (sym (ranked r s Equal e)) ∙ nat_self (q + r)
      | Greater ↦ λ e. let greater = ranked r s Greater e in nat_above (q + r) (q + s) (omega (arith, greater))
    ] refl

pub smaller_digit : (x y r s base : ℕ) → x < y → r < base → x * base + r < y * base + s
smaller_digit x y r s base h k = let e : suc x * base ≤ y * base = mul-le-mul_right base h in omega (arith, e, k)
