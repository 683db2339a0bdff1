use Rattle.std.proofs.Common.{rules, ◌≡◌, ◌+◌, ◌≤◌, ◌<◌, length, take, drop, sym, subst, length-drop, arith}
use Rattle.std.proofs.lemmas.List.{nil_from_length}
use Rattle.std.specs.Result.{IfErr, IfOk, OnErr}
use Rattle.key_index_store.specs.Indexed.{Indexes}
use Rattle.key_index_store.specs.Record.{Stops, reading}
use Rattle.key_index_store.specs.Stored.{tail_of}
use Rattle.key_index_store.proofs.IndexLemmas.{indexes_none}
use Rattle.key_index_store.specs.laws.ReadLaws.{read-then}
use Rattle.key_index_store.proofs.ReplayLemmas.{block-is, told-IsTail}
use Rattle.key_index_store.proofs.store.replay.replay.Goals as goal

pub loop-end-init : goal.loop-end-init
loop-end-init g c = record {
  below = omega arith;
  read = c.in_ok-len.ensures.read;
  counted = c.in_ok-len.ensures.told;
  indexed = λ log seen. indexes_none g.I.Key.Ord.cmp (g.I.Runs.view c.args.index.now) c.requires;
}

pub returns-in_err-filed-clause-fault : goal.returns-in_err-filed-clause-fault
returns-in_err-filed-clause-fault g c = λ log seen.
    let before = c.in_err-filed.ensures.read.stays log seen in
    let block = block-is log c.loop-end.end _ _ _ c.as_slice.ensures.value (c.in_ok-block.ensures.told log before) c.in_ok-block.ensures.counted in
    let may = c.in_err-filed.ensures.fault log seen block (c.loop-end.invariant.indexed log (c.in_ok-block.ensures.read.stays log before)) in
    search (rules, may)

pub returns-in_err-filed-2-clause-fault : goal.returns-in_err-filed-2-clause-fault
returns-in_err-filed-2-clause-fault g c = λ log seen.
    let before = c.in_err-filed-2.ensures.read.stays log seen in
    let block_seen = c.in_ok-filed.ensures.read.stays log before in
    let old_seen = c.in_ok-block.ensures.read.stays log block_seen in
    let block = block-is log c.loop-end.end _ _ _ c.as_slice.ensures.value (c.in_ok-block.ensures.told log block_seen) c.in_ok-block.ensures.counted in
    let here = c.in_ok-filed.ensures.indexed log before block (c.loop-end.invariant.indexed log old_seen) in
    let same : c.loop-end.end + c.in_ok-filed.filed ≡ c.loop-end.end = omega (arith, c.if-filed-ne0.false) in
    let may = c.in_err-filed-2.ensures.fault log seen (c.loop-end.invariant.counted log old_seen) (subst (λ n. Indexes g.I.Key.Ord.cmp (take n log) (g.I.Runs.view c.file_all.new.index)) same here) in
    search (rules, may)

pub returns-in-Err-clause-kept : goal.returns-in-Err-clause-kept
returns-in-Err-clause-kept g c = λ log seen.
    let end = c.loop-end.end in
    let before = c.in_ok-filed-2.ensures.read.stays log seen in
    let block_seen = c.in_ok-filed.ensures.read.stays log before in
    let old_seen = c.in_ok-block.ensures.read.stays log block_seen in
    let whole = c.loop-end.invariant.counted log old_seen in
    let block = block-is log end _ _ _ c.as_slice.ensures.value (c.in_ok-block.ensures.told log block_seen) c.in_ok-block.ensures.counted in
    let here = c.in_ok-filed.ensures.indexed log before block (c.loop-end.invariant.indexed log old_seen) in
    let same : end + c.in_ok-filed.filed ≡ end = omega (arith, c.if-filed-ne0.false) in
    let indexed = subst (λ n. Indexes g.I.Key.Ord.cmp (take n log) (g.I.Runs.view c.file_all.new.index)) same here in
    let kept = subst (λ r. OnErr r (g.I.Runs.view c.file_one.new.index ≡ g.I.Runs.view c.file_all.new.index)) c.in-Err.is c.in_ok-filed-2.ensures.same in
    let told = subst (λ r. IfErr r (λ t. (t ≡ tail_of end (drop end log)) × Stops (reading end (drop end log)))) c.in-Err.is (c.in_ok-filed-2.ensures.tail log seen whole) in
    record {
      within = omega (arith, whole, c.loop-end.invariant.below);
      indexed = subst (Indexes g.I.Key.Ord.cmp (take end log)) (sym kept) indexed;
      stops = told.1;
      told = told-IsTail c.in-Err.tail end (drop end log) told.0 told.1;
    }

pub returns-in-Err-clause-exact : goal.returns-in-Err-clause-exact
returns-in-Err-clause-exact g c = λ log seen.
    let end = c.loop-end.end in
    let before = c.in_ok-filed-2.ensures.read.stays log seen in
    let old_seen = c.in_ok-block.ensures.read.stays log (c.in_ok-filed.ensures.read.stays log before) in
    (subst (λ r. IfErr r (λ t. (t ≡ tail_of end (drop end log)) × Stops (reading end (drop end log)))) c.in-Err.is (c.in_ok-filed-2.ensures.tail log seen (c.loop-end.invariant.counted log old_seen))).0

pub loop-end-preserved : goal.loop-end-preserved
loop-end-preserved g c =
    let end = c.loop-end.end in
    let filed = subst (λ r. IfOk r (λ n. (0 < n) × (end + n ≤ c.in_ok-len.len))) c.in-Ok.is c.in_ok-filed-2.ensures.within in
    record {
      below = filed.1;
      read = read-then _ _ _ c.loop-end.invariant.read (read-then _ _ _ c.in_ok-block.ensures.read (read-then _ _ _ c.in_ok-filed.ensures.read c.in_ok-filed-2.ensures.read));
      counted = λ log seen. c.loop-end.invariant.counted log (c.in_ok-block.ensures.read.stays log (c.in_ok-filed.ensures.read.stays log (c.in_ok-filed-2.ensures.read.stays log seen)));
      indexed = λ log seen.
          let before = c.in_ok-filed-2.ensures.read.stays log seen in
          let block_seen = c.in_ok-filed.ensures.read.stays log before in
          let old_seen = c.in_ok-block.ensures.read.stays log block_seen in
          let whole = c.loop-end.invariant.counted log old_seen in
          let block = block-is log end _ _ _ c.as_slice.ensures.value (c.in_ok-block.ensures.told log block_seen) c.in_ok-block.ensures.counted in
          let here = c.in_ok-filed.ensures.indexed log before block (c.loop-end.invariant.indexed log old_seen) in
          let same : end + c.in_ok-filed.filed ≡ end = omega (arith, c.if-filed-ne0.false) in
          let indexed = subst (λ n. Indexes g.I.Key.Ord.cmp (take n log) (g.I.Runs.view c.file_all.new.index)) same here in
          subst (λ r. IfOk r (λ n. Indexes g.I.Key.Ord.cmp (take (end + n) log) (g.I.Runs.view c.file_one.new.index))) c.in-Ok.is (c.in_ok-filed-2.ensures.indexed log seen whole indexed);
    }

pub loop-end-preserved-then-filed-ne0 : goal.loop-end-preserved-then-filed-ne0
loop-end-preserved-then-filed-ne0 g c =
    let end = c.loop-end.end in
    record {
      below = omega (arith, c.in_ok-filed.ensures.within, c.as_slice.ensures.len, c.in_ok-block.ensures.counted, c.min.ensures, c.loop-end-test.true);
      read = read-then _ _ _ c.loop-end.invariant.read (read-then _ _ _ c.in_ok-block.ensures.read c.in_ok-filed.ensures.read);
      counted = λ log seen. c.loop-end.invariant.counted log (c.in_ok-block.ensures.read.stays log (c.in_ok-filed.ensures.read.stays log seen));
      indexed = λ log seen.
          let block_seen = c.in_ok-filed.ensures.read.stays log seen in
          let block = block-is log end _ _ _ c.as_slice.ensures.value (c.in_ok-block.ensures.told log block_seen) c.in_ok-block.ensures.counted in
          c.in_ok-filed.ensures.indexed log seen block (c.loop-end.invariant.indexed log (c.in_ok-block.ensures.read.stays log block_seen));
    }

pub returns-clause-kept : goal.returns-clause-kept
returns-clause-kept g c = λ log seen.
    let whole = c.loop-end.invariant.counted log seen in
    let end : c.loop-end.end ≡ length log = omega (arith, whole, c.loop-end.invariant.below, c.loop-end-test.false) in
    let none = nil_from_length (drop c.loop-end.end log) (omega (arith, length-drop c.loop-end.end log, end)) in
    record {
      within = omega (arith, end);
      indexed = c.loop-end.invariant.indexed log seen;
      stops = subst (λ l. Stops (reading c.loop-end.end l)) (sym none) tt;
      told = none;
    }
