use Rattle.std.proofs.Common.{rules, ◌≡◌, ◌+◌, ◌-◌, length, take, drop, sym, ap, subst, ◌∙◌, arith}
use Rattle.std.proofs.lemmas.List.{drop-drop}
use Rattle.key_index_store.specs.Indexed.{Indexes}
use Rattle.key_index_store.specs.Record.{Complete, IsFound, entry_of, outcome_of, size_of}
use Rattle.key_index_store.proofs.IndexLemmas.{some_mapped}
use Rattle.key_index_store.specs.laws.ReadLaws.{read-then}
use Rattle.key_index_store.proofs.ReplayLemmas.{one_more, place-within, rest-long}
use Rattle.key_index_store.proofs.store.replay.file_all.Goals as goal

pub returns-in_err-file-clause-fault : goal.returns-in_err-file-clause-fault
returns-in_err-file-clause-fault g c = λ log seen is indexed.
    let inv = c.loop-record.invariant in
    let rest = c.loop-record.rest.now in
    let place = c.loop-record.place in
    let r = entry_of c.in-Complete.record in
    let found : IsFound place rest (Complete r) = subst (IsFound place rest) (ap outcome_of c.in-Complete.is) c.decode.ensures.found in
    let before = inv.indexed log (c.in_err-file.ensures.read.stays log seen) is indexed in
    let within = place-within log c.args.bytes.now c.args.position is rest place inv.at inv.within inv.rest r found in
    let long = rest-long log c.args.bytes.now c.args.position is rest place inv.at inv.within inv.rest r found in
    let may = c.in_err-file.ensures.fault log seen within (omega (arith, c.requires, long, inv.at, inv.within)) before in
    search (rules, may)

pub loop-record-preserved : goal.loop-record-preserved
loop-record-preserved g c =
    let inv = c.loop-record.invariant in
    let bytes = c.args.bytes.now in
    let rest = c.loop-record.rest.now in
    let place = c.loop-record.place in
    let r = entry_of c.in-Complete.record in
    let found : IsFound place rest (Complete r) = subst (IsFound place rest) (ap outcome_of c.in-Complete.is) c.decode.ensures.found in
    let size : length c.split_at.result.1.now + size_of r ≡ length rest = omega (arith, c.split_at.ensures.back_len, c.length-length.ensures) in
    let behind : length bytes - length rest + size_of r ≡ length bytes - length c.split_at.result.1.now = omega (arith, size, inv.within) in
    record {
      within = omega (arith, size, inv.within);
      at = omega (arith, size, inv.within, inv.at, c.length-length.ensures);
      rest = c.split_at.ensures.back ∙ ap (λ n. drop n rest) c.length-length.ensures ∙ ap (drop (size_of r)) inv.rest ∙ drop-drop (size_of r) (length bytes - length rest) bytes ∙ ap (λ n. drop n bytes) behind;
      read = read-then _ _ _ inv.read c.in_ok-file.ensures.read;
      indexed = λ log seen is indexed.
          let before = inv.indexed log (c.in_ok-file.ensures.read.stays log seen) is indexed in
          let within = place-within log bytes c.args.position is rest place inv.at inv.within inv.rest r found in
          let more = c.in_ok-file.ensures.filed log seen _ (c.is_some.ensures ∙ some_mapped (λ v. v.now) c.in-Complete.record.value) found.0 within before in
          subst (λ l. Indexes g.I.Key.Ord.cmp l (g.I.Runs.view c.file.new.index))
          (sym (ap (λ n. take (place + n) log) c.length-length.ensures ∙ one_more log bytes c.args.position is rest place inv.at inv.within inv.rest r found)) more;
    }

pub returns-clause-indexed : goal.returns-clause-indexed
returns-clause-indexed g c = λ log seen is indexed.
    let place : c.loop-record.place ≡ c.args.position + (c.loop-record.place - c.args.position) = omega (arith, c.loop-record.invariant.at) in
    subst (λ n. Indexes g.I.Key.Ord.cmp (take n log) (g.I.Runs.view c.loop-record.index)) place (c.loop-record.invariant.indexed log seen is indexed)

pub returns-clause-within : goal.returns-clause-within
returns-clause-within g c = omega (arith, c.loop-record.invariant.at)
