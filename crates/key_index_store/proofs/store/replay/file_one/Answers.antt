use Rattle.std.proofs.Common.{rules, ◌≡◌, cond, ◌+◌, ◌≤◌, length, take, drop, refl, sym, ap, subst, ◌∙◌, arith}
use Rattle.std.proofs.lemmas.List.{take_all}
use Rattle.key_index_store.specs.Indexed.{Indexes}
use Rattle.key_index_store.specs.Record.{Complete, Damaged, Torn, IsFound, Stops, entry_of, size_of, outcome_of, reading}
use Rattle.key_index_store.proofs.IndexLemmas.{some_mapped}
use Rattle.key_index_store.specs.laws.ReadLaws.{read-then}
use Rattle.key_index_store.proofs.RecordLemmas.{found_long}
use Rattle.key_index_store.proofs.ReplayLemmas.{one_whole}
use Rattle.key_index_store.proofs.store.replay.file_one.Goals.{in-Torn, in-Damaged}
use Rattle.key_index_store.proofs.store.replay.file_one.Goals as goal

pub returns-in_err-file-in-Complete-clause-read : goal.returns-in_err-file-in-Complete-clause-read
returns-in_err-file-in-Complete-clause-read g c = read-then _ _ _ c.in_ok-bytes.ensures.read c.in_err-file-in-Complete.ensures.read

pub returns-in-Complete-clause-read : goal.returns-in-Complete-clause-read
returns-in-Complete-clause-read g c = read-then _ _ _ c.in_ok-bytes.ensures.read c.in_ok-file-in-Complete.ensures.read

pub returns-in-Complete-clause-indexed : goal.returns-in-Complete-clause-indexed
returns-in-Complete-clause-indexed g c = λ log seen whole indexed.
    let r = entry_of c.in-Complete.record in
    let end = c.args.end in
    let v = c.in_ok-bytes.bytes.items in
    let found : IsFound end v (Complete r) = subst (λ l. IsFound end l (Complete r)) c.as_slice.ensures.value (subst (IsFound end c.as_slice.result.now) (ap outcome_of c.in-Complete.is) c.decode.ensures.found) in
    let front = c.in_ok-bytes.ensures.front log (c.in_ok-file-in-Complete.ensures.read.stays log seen) (omega (arith, whole)) in
    let more = c.in_ok-file-in-Complete.ensures.filed log seen _ (c.is_some.ensures ∙ some_mapped (λ v. v.now) c.in-Complete.record.value) found.0 (omega (arith, whole, c.requires)) indexed in
    subst (λ l. Indexes g.I.Key.Ord.cmp l (g.I.Runs.view c.file.new.index))
    (sym (ap (λ n. take (end + n) log) c.length.ensures ∙ one_whole log v end c.args.len r whole front found (omega (arith, c.requires)))) more

pub returns-in-Complete-clause-within : goal.returns-in-Complete-clause-within
returns-in-Complete-clause-within g c =
    let r = entry_of c.in-Complete.record in
    let end = c.args.end in
    let v = c.in_ok-bytes.bytes.items in
    let found : IsFound end v (Complete r) = subst (λ l. IsFound end l (Complete r)) c.as_slice.ensures.value (subst (IsFound end c.as_slice.result.now) (ap outcome_of c.in-Complete.is) c.decode.ensures.found) in
    let short : size_of r ≤ length v = found_long end v r found in
    (omega (arith, c.length.ensures), omega (arith, short, c.length.ensures, c.in_ok-bytes.ensures.within, c.requires))

pub returns-clause-tail : goal.returns-clause-tail
returns-clause-tail g c = λ log seen whole.
    let end = c.args.end in
    let all : take c.args.len log ≡ log = take_all c.args.len log (omega (arith, whole)) in
    let seen_first = c.in_ok-tail_at.ensures.read.stays log seen in
    let told : outcome_of c.decode.result ≡ reading end (drop end log) =
    c.decode.ensures.exact ∙ ap (reading end) c.as_slice.ensures.value ∙ c.in_ok-bytes.ensures.whole refl log seen_first (omega (arith, whole)) ∙ ap (λ l. reading end (drop end l)) all in
    elim c.match-decode.branch [
      | in-Torn w ↦ (
          let is : reading end (drop end log) ≡ Torn = sym told ∙ ap outcome_of w.in-Torn.is in
          (c.in_ok-tail_at.ensures.told log seen whole (is ∙ sym (ap (λ b. cond b Torn Damaged) w.is_torn-is)), subst Stops (sym is) tt))
      | in-Damaged w ↦ (
          let is : reading end (drop end log) ≡ Damaged = sym told ∙ ap outcome_of w.in-Damaged.is in
          (c.in_ok-tail_at.ensures.told log seen whole (is ∙ sym (ap (λ b. cond b Torn Damaged) w.is_torn-is)), subst Stops (sym is) tt))
    ]

pub returns-clause-read : goal.returns-clause-read
returns-clause-read g c = read-then _ _ _ c.in_ok-bytes.ensures.read c.in_ok-tail_at.ensures.read

pub returns-in_err-file-in-Complete-clause-fault : goal.returns-in_err-file-in-Complete-clause-fault
returns-in_err-file-in-Complete-clause-fault g c = λ log seen whole indexed.
    let may = c.in_err-file-in-Complete.ensures.fault log seen (omega (arith, whole, c.requires)) (omega (arith, c.requires)) indexed in
    search (rules, may)
