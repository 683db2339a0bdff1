use Rattle.std.proofs.Common.{◌≡◌, ◌++◌, drop, arith}
use Rattle.std.proofs.lemmas.Grind.{common_steps}
use Rattle.key_index_store.specs.Header.{header}
use Rattle.key_index_store.proofs.HeaderLemmas.{no_header_lacks}
use Rattle.key_index_store.proofs.headed.append.Goals as goal

pub returns-then-end-ge-LENGTH-clause-written : goal.returns-then-end-ge-LENGTH-clause-written
returns-then-end-ge-LENGTH-clause-written g c = rw (no_header_lacks c.args.end c.if-end-ge-LENGTH.true) c.write_at.ensures.written

pub returns-then-end-ge-LENGTH-clause-failed : goal.returns-then-end-ge-LENGTH-clause-failed
returns-then-end-ge-LENGTH-clause-failed g c = rw (no_header_lacks c.args.end c.if-end-ge-LENGTH.true) c.write_at.ensures.failed

pub returns-then-end-ge-LENGTH-clause-crash : goal.returns-then-end-ge-LENGTH-clause-crash
returns-then-end-ge-LENGTH-clause-crash g c = rw (no_header_lacks c.args.end c.if-end-ge-LENGTH.true) c.write_at.ensures.crash

pub returns-clause-crash : goal.returns-clause-crash
returns-clause-crash g c = λ old seen at.
    let is : c.as_slice.result.now ≡ drop c.args.end header ++ c.args.bytes.now = grind (arith, common_steps) in
    rw (← is) (c.write_at-2.ensures.crash old seen at)
