use Rattle.std.proofs.Common.{ℕ, List, Bor, Some, is_some, not, refl, sym, ap, ◌∙◌, arith}
use Rattle.key_index_store.proofs.HeaderLemmas.{no_magic, no_sum, some_version, version_long}
use Rattle.key_index_store.proofs.IndexLemmas.{some_mapped}
use Rattle.key_index_store.proofs.headed.version_in.Goals.{then-is_none-via-then-is_none, then-is_none-via-else-is_none+then-ne}
use Rattle.key_index_store.proofs.headed.version_in.Goals as goal

pub returns-then-is_none : goal.returns-then-is_none
returns-then-is_none c =
    let bytes = c.args.bytes.now in
    let some = ap is_some (sym c.part.ensures) ∙ sym (some_mapped {A = Bor (List ℕ)} (λ p. p.now) c.part.result) ∙ c.is_none.ensures in
    elim c.then-is_none.branch [
      | then-is_none-via-then-is_none w ↦ sym (no_sum bytes _ refl (some ∙ ap not w.if-is_none.true))
      | then-is_none-via-else-is_none+then-ne w ↦ sym (no_magic bytes w.header.result w.header.ensures w.if-ne.ensures)
    ]

pub u32_at-requires : goal.u32_at-requires
u32_at-requires c =
    let some = ap is_some (sym c.part.ensures) ∙ sym (some_mapped {A = Bor (List ℕ)} (λ p. p.now) c.part.result) ∙ c.is_none.ensures ∙ ap not c.if-is_none.false in
    omega (arith, version_long c.args.bytes.now c.header.result c.header.ensures some)

pub returns : goal.returns
returns c =
    let some = ap is_some (sym c.part.ensures) ∙ sym (some_mapped {A = Bor (List ℕ)} (λ p. p.now) c.part.result) ∙ c.is_none.ensures ∙ ap not c.if-is_none.false in
    ap (λ n. Some n) c.u32_at.ensures ∙ sym (some_version c.args.bytes.now c.header.result c.header.ensures some c.if-ne.ensures)
