use Rattle.std.proofs.Common.{◌<◌, ℕ, List, sym, ap, ◌∙◌, arith}
use Rattle.std.specs.Int.{w64, to_le_bytes}
use Rattle.key_index_flat.specs.Hashing.{seeded_sha256}
use Rattle.key_index_flat.specs.Padding.{cap_number}
use Rattle.key_index_flat.specs.declared.translator.EightCap.{EightCap}
use Rattle.key_index_c.specs.Any.{slot_of}
use Rattle.key_index_c.proofs.any.Any.new.Goals as goal

pub returns-in-Ok-new-2-clause-made : goal.returns-in-Ok-new-2-clause-made
returns-in-Ok-new-2-clause-made c =
    let known : c.args.kind < 3 = omega (arith, c.in-2.is) in let made = c.in-Ok-new-2.ensures in (
      sym c.in-2.is,
      known,
      made.empty,
      made.pruned,
      made.slots
          ∙ ap {B = List ℕ → ℕ} (λ (hash : ℕ × EightCap) key. cap_number 8 (to_le_bytes w64 (seeded_sha256 hash.0 key))) c.from_seed-hashed.ensures
          ∙ ap (λ kind. slot_of kind c.args.seed) (sym c.in-2.is),
    )
