use Rattle.std.proofs.lemmas.Result.{IfOk-weaker}
use Rattle.key_index_store.proofs.store.Store.delete.Goals as goal

pub returns-clause-logged : goal.returns-clause-logged
returns-clause-logged g c = IfOk-weaker c.change.result _ _ (λ had told new seen. (let was = told new seen in (was.0, was.1, was.2.logged))) c.change.ensures.changed
