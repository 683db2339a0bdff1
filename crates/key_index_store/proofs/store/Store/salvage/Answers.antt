use Rattle.std.proofs.Common.{length, take, ap, ◌∙◌, ◌++◌, arith}
use Rattle.std.proofs.lemmas.Result.{IfOk-weaker, on_ok_weaker}
use Rattle.key_index_store.specs.Record.{log_of}
use Rattle.key_index_store.proofs.KeepLemmas.{undamaged_spelled}
use Rattle.key_index_store.proofs.SalvageLemmas.{copied_whole, salvaged_kept}
use Rattle.key_index_store.proofs.store.Store.salvage.Goals as goal

pub returns-clause-copied : goal.returns-clause-copied
returns-clause-copied g c = on_ok_weaker c.copy.result (λ copied log seen new now.
    let whole = c.in_ok-len.ensures.told log (c.copy.ensures.read.stays log seen) in
    let made = copied log seen (omega (arith, whole)) (λ some. absurd (cc)) new now in
    (made.0, made.1, (made.2.0, made.2.1 ∙ ap log_of (copied_whole g.I.Key.Ord.cmp (g.I.Runs.view c.self.inside.index) log c.in_ok-len.len whole)))) c.copy.ensures.copied

pub returns-clause-records : goal.returns-clause-records
returns-clause-records g c = IfOk-weaker c.copy.result _ _ (λ x records log seen.
    let whole = c.in_ok-len.ensures.told log (c.copy.ensures.read.stays log seen) in
    records log seen (omega (arith, whole)) (λ some. absurd (cc)) ∙ ap (λ rs. length rs) (copied_whole g.I.Key.Ord.cmp (g.I.Runs.view c.self.inside.index) log c.in_ok-len.len whole)) c.copy.ensures.records

pub returns-clause-begun : goal.returns-clause-begun
returns-clause-begun g c = λ log seen new now.
    let whole = c.in_ok-len.ensures.told log (c.copy.ensures.read.stays log seen) in
    let part = c.copy.ensures.begun log seen (omega (arith, whole)) (λ some. absurd (cc)) new now in (
      part.0,
      part.1,
      (
        part.2.0,
        part.2.1
            ∙ ap (λ rs. part.0 ++ take part.2.0 (log_of rs)) (copied_whole g.I.Key.Ord.cmp (g.I.Runs.view c.self.inside.index) log c.in_ok-len.len whole),
      ),
    )

pub returns-clause-undamaged : goal.returns-clause-undamaged
returns-clause-undamaged g c = on_ok_weaker c.copy.result (λ copied log seen undamaged bytes at.
    let before = c.copy.ensures.read.stays log seen in
    let whole = c.in_ok-len.ensures.told log before in
    let h = c.self.invariant.0 log (c.length_of.ensures.read.stays log before) in
    let made = copied log seen (omega (arith, whole)) (λ some. absurd (cc)) bytes at in
    made.2.1 ∙ ap log_of (copied_whole g.I.Key.Ord.cmp (g.I.Runs.view c.self.inside.index) log c.in_ok-len.len whole)
    ∙ undamaged_spelled g.I.Key.Ord.cmp log (g.I.Runs.view c.self.inside.index) c.self.inside.log.end c.self.inside.tail h undamaged) c.copy.ensures.copied

pub returns-clause-written : goal.returns-clause-written
returns-clause-written g c = λ log seen rs have. salvaged_kept log rs have

pub returns-in_err-len-clause-written : goal.returns-in_err-len-clause-written
returns-in_err-len-clause-written g c = λ log seen rs have. salvaged_kept log rs have
