use Rattle.std.proofs.lemmas.Result.{on_ok_weaker}
use Rattle.key_index_parts.proofs.index.partitioned.ordered.IndexUnordered.TheImpl.Goals as goal

pub get_many-tells : goal.get_many-tells
get_many-tells g c = record {
  seen = on_ok_weaker c.result (λ h. (h.0, (h.1.0, (h.1.1.0, h.1.1.1, h.1.1.2.0), h.1.2))) c.ensures.seen;
  fault = c.ensures.fault;
}
