use Rattle.std.proofs.Common.{sym, arith}
use Rattle.key_index_store.specs.Record.{sum_at}
use Rattle.key_index_store.proofs.RecordLemmas.{not_summed-short}
use Rattle.key_index_store.proofs.record.has_head.Goals as goal

pub returns-then-bytes-lt-HEAD : goal.returns-then-bytes-lt-HEAD
returns-then-bytes-lt-HEAD c = sym (not_summed-short (sum_at c.args.place) 9 c.args.bytes.now (omega (arith, c.if-bytes-lt-HEAD.true)))
