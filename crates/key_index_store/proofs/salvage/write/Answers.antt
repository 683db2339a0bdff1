use Rattle.std.proofs.Common.{inr, refl, sym, append-nil}
use Rattle.key_index_store.proofs.SalvageLemmas.{on_err_if}
use Rattle.key_index_store.proofs.salvage.write.Goals as goal

pub returns-in_err-bytes-clause-begun : goal.returns-in_err-bytes-clause-begun
returns-in_err-bytes-clause-begun g c = on_err_if c.from_residual.result (λ new seen. (new, seen, λ _. (0, sym (append-nil new), inr refl)))
