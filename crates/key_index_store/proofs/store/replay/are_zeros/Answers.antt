use Rattle.std.proofs.Common.{◌≡◌, ◌&&◌, ◌+◌, drop, sym, ap, ◌∙◌, arith}
use Rattle.key_index_store.specs.Stored.{is_zeros}
use Rattle.key_index_store.specs.laws.ReadLaws.{read-then}
use Rattle.key_index_store.proofs.ReplayLemmas.{zeros_split}
use Rattle.key_index_store.proofs.store.replay.are_zeros.Goals as goal

pub returns-then-not-is_zeros-clause-told : goal.returns-then-not-is_zeros-clause-told
returns-then-not-is_zeros-clause-told g c = λ log seen whole.
    let p = c.loop-position.position in
    let block = c.in_ok-block.ensures.told log seen in
    let other = ap is_zeros (sym block) ∙ ap is_zeros (sym c.as_slice.ensures.value) ∙ sym c.is_zeros.ensures ∙ c.if-not-is_zeros.true in
    sym (c.loop-position.invariant.zeros log (c.in_ok-block.ensures.read.stays log seen) whole
    ∙ zeros_split p c.min.result log ∙ ap (λ t. t && is_zeros (drop (p + c.min.result) log)) other)

pub loop-position-preserved : goal.loop-position-preserved
loop-position-preserved g c = record {
  read = read-then _ _ _ c.loop-position.invariant.read c.in_ok-block.ensures.read;
  zeros = λ log seen whole.
      let p = c.loop-position.position in
      let block = c.in_ok-block.ensures.told log seen in
      let size : c.len.result ≡ c.min.result = omega (arith, c.len.ensures, c.in_ok-block.ensures.counted) in
      let zeros = ap is_zeros (sym block) ∙ ap is_zeros (sym c.as_slice.ensures.value) ∙ sym c.is_zeros.ensures ∙ c.if-not-is_zeros.false in
      c.loop-position.invariant.zeros log (c.in_ok-block.ensures.read.stays log seen) whole
      ∙ zeros_split p c.min.result log ∙ ap (λ t. t && is_zeros (drop (p + c.min.result) log)) zeros
      ∙ ap (λ n. is_zeros (drop (p + n) log)) (sym size);
}
