use Rattle.std.proofs.Common.{◌++◌, inl, inr, take, ap, ◌∙◌}
use Rattle.key_index_store.proofs.store.append.Goals as goal

pub returns-in_err-write-clause-crash : goal.returns-in_err-write-clause-crash
returns-in_err-write-clause-crash g c = λ old seen at left could.
    elim (c.in_err-write.ensures.crash old seen at left could) [
      | inl before ↦ inl before
      | inr more ↦ inr (more.0, more.1, (more.2.0, more.2.1 ∙ ap (λ l. old ++ take more.2.0 l) (c.as_slice.ensures.value ∙ c.in_ok-bytes.ensures)))
    ]

pub returns-clause-crash : goal.returns-clause-crash
returns-clause-crash g c = λ old seen at left could.
    elim (c.in_ok-write.ensures.crash old seen at left could) [
      | inl before ↦ inl before
      | inr more ↦ inr (more.0, more.1, (more.2.0, more.2.1 ∙ ap (λ l. old ++ take more.2.0 l) (c.as_slice.ensures.value ∙ c.in_ok-bytes.ensures)))
    ]
