use Rattle.std.proofs.Common.{◌+◌, ◌<◌, length, sym, arith}
use Rattle.key_index_store.proofs.RecordLemmas.{part-short}
use Rattle.key_index_store.proofs.record.part.Goals.{then-bytes-lt-SUM-via-then-bytes-lt-SUM, then-bytes-lt-SUM-via-else-bytes-lt-SUM+then-bytes-length}
use Rattle.key_index_store.proofs.record.part.Goals as goal

pub returns-then-bytes-lt-SUM : goal.returns-then-bytes-lt-SUM
returns-then-bytes-lt-SUM c =
    let short : length c.args.bytes.now < c.args.length + 4 = elim c.then-bytes-lt-SUM.branch [
      | then-bytes-lt-SUM-via-then-bytes-lt-SUM w ↦ omega (arith, w.if-bytes-lt-SUM.true)
      | then-bytes-lt-SUM-via-else-bytes-lt-SUM+then-bytes-length w ↦ omega (arith, w.if-bytes-lt-SUM.false, w.if-bytes-length.true)
    ] in
    sym (part-short c.args.length c.args.bytes.now short)
