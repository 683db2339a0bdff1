use Rattle.std.proofs.Common.{◌≡◌, ◌⊎◌, ℕ, ◌+◌, ◌-◌, ◌≤◌, Bool, true, false, cond, List, ◌++◌, length, take, Option, Some, inl, inr, refl, ap, ◌∙◌, arith}
use Rattle.std.proofs.lemmas.Bool.{cases_lt}
use Rattle.std.proofs.lemmas.List.{take-append-le}
use Rattle.std.proofs.Math.Seq.{take-append-add}
use Rattle.key_index_store.proofs.memory_device.MemoryDeviceDevice.write_at.Goals as goal

abbrev IsPart : ℕ → List ℕ → List ℕ → Option (List ℕ) → Type 0
IsPart kept old bytes left = ((n : ℕ) × (kept ≤ n) × (left ≡ Some (take n old))) ⊎ ((l : List ℕ) × (left ≡ Some l) × ((n : ℕ) × (l ≡ old ++ take n bytes)))

-- a part from the front on, of the bytes as they were or with the new ones behind them
part_is : (appends : Bool) (kept n : ℕ) (old bytes : List ℕ) → kept ≤ n → IsPart kept old bytes (Some (take n (cond appends (old ++ bytes) old)))
part_is false kept n old bytes h = inl (n, h, refl)
part_is true kept n old bytes h =
    elim (cases_lt (length old) n) [
      | inl more ↦
          let is : n ≡ length old + (n - length old) = omega arith in
          inr (_, refl, (n - length old, ap (λ k. take k (old ++ bytes)) is ∙ take-append-add old bytes (n - length old)))
      | inr few ↦ inl (n, h, ap Some (take-append-le n old bytes few))
    ]

pub returns-clause-crash : goal.returns-clause-crash
returns-clause-crash c old seen at left may =
    let was : c.args.self.now.bytes.items ≡ old = cc in
    let part = part_is _ c.args.self.now.kept may.0 c.args.self.now.bytes.items c.args.bytes.now may.1 in
    rw (may.2, c.extend_from_slice.ensures.items, ← was) part
