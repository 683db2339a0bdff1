use Rattle.std.proofs.Common.{length, take, sym, ap, ◌∙◌, ◌++◌, ◌-◌}
use Rattle.std.proofs.lemmas.Result.{IfOk-weaker, on_ok_weaker}
use Rattle.key_index_store.specs.Record.{log_of}
use Rattle.key_index_store.specs.Salvage.{gap_of}
use Rattle.key_index_store.specs.Stored.{held_by}
use Rattle.key_index_store.proofs.KeepLemmas.{kept_end}
use Rattle.key_index_store.proofs.NewestLemmas.{kept_count, kept_gaps, kept_newest, map-nil, newest_log}
use Rattle.key_index_store.proofs.StoreLemmas.{is_run}
use Rattle.key_index_store.proofs.store.Store.compact.Goals as goal

pub returns-clause-copied : goal.returns-clause-copied
returns-clause-copied g c = on_ok_weaker c.copy.result (λ copied undamaged log seen new now.
    let h = c.self.invariant.0 log (c.copy.ensures.read.stays log seen) in
    let made = copied log seen h.within (λ _. (undamaged, λ key. is_run g.I.Key.Ord.cmp (take c.self.inside.log.end log) (g.I.Runs.view c.self.inside.index) key h.indexed)) new now in
    (made.0, made.1, (made.2.0, made.2.1 ∙ ap log_of (kept_newest g.I.Key.Ord.cmp log (g.I.Runs.view c.self.inside.index) c.self.inside.log.end c.self.inside.tail h)))) c.copy.ensures.copied

pub returns-clause-held : goal.returns-clause-held
returns-clause-held g c = on_ok_weaker c.copy.result (λ copied undamaged log seen new now.
    let h = c.self.invariant.0 log (c.copy.ensures.read.stays log seen) in
    let made = copied log seen h.within (λ _. (undamaged, λ key. is_run g.I.Key.Ord.cmp (take c.self.inside.log.end log) (g.I.Runs.view c.self.inside.index) key h.indexed)) new now in
    ap held_by (made.2.1 ∙ ap log_of (kept_newest g.I.Key.Ord.cmp log (g.I.Runs.view c.self.inside.index) c.self.inside.log.end c.self.inside.tail h))
    ∙ newest_log g.I.Key.Ord.cmp log (g.I.Runs.view c.self.inside.index) c.self.inside.log.end c.self.inside.tail h) c.copy.ensures.copied

pub returns-clause-records : goal.returns-clause-records
returns-clause-records g c = IfOk-weaker c.copy.result _ _ (λ x records undamaged log seen.
    let h = c.self.invariant.0 log (c.copy.ensures.read.stays log seen) in
    records log seen h.within (λ _. (undamaged, λ key. is_run g.I.Key.Ord.cmp (take c.self.inside.log.end log) (g.I.Runs.view c.self.inside.index) key h.indexed)) ∙ kept_count g.I.Key.Ord.cmp log (g.I.Runs.view c.self.inside.index) c.self.inside.log.end c.self.inside.tail h) c.copy.ensures.records

pub returns-clause-left_out : goal.returns-clause-left_out
returns-clause-left_out g c = IfOk-weaker c.copy.result _ _ (λ x left_out undamaged log seen bytes now.
    let h = c.self.invariant.0 log (c.copy.ensures.read.stays log seen) in
    left_out log seen h.within (λ _. (undamaged, λ key. is_run g.I.Key.Ord.cmp (take c.self.inside.log.end log) (g.I.Runs.view c.self.inside.index) key h.indexed)) bytes now
    ∙ ap (λ n. n - length bytes) (sym (kept_end g.I.Key.Ord.cmp log (g.I.Runs.view c.self.inside.index) c.self.inside.log.end c.self.inside.tail h))) c.copy.ensures.left_out

pub returns-clause-gaps : goal.returns-clause-gaps
returns-clause-gaps g c = IfOk-weaker c.copy.result _ _ (λ x gaps undamaged log seen.
    let h = c.self.invariant.0 log (c.copy.ensures.read.stays log seen) in
    map-nil gap_of x.gaps.items (gaps log seen h.within (λ _. (undamaged, λ key. is_run g.I.Key.Ord.cmp (take c.self.inside.log.end log) (g.I.Runs.view c.self.inside.index) key h.indexed))
    ∙ kept_gaps g.I.Key.Ord.cmp log (g.I.Runs.view c.self.inside.index) c.self.inside.log.end c.self.inside.tail h)) c.copy.ensures.gaps

pub returns-clause-begun : goal.returns-clause-begun
returns-clause-begun g c = λ undamaged log seen new now.
    let h = c.self.invariant.0 log (c.copy.ensures.read.stays log seen) in
    let part = c.copy.ensures.begun log seen h.within (λ _. (undamaged, λ key. is_run g.I.Key.Ord.cmp (take c.self.inside.log.end log) (g.I.Runs.view c.self.inside.index) key h.indexed)) new now in (
      part.0,
      part.1,
      (
        part.2.0,
        part.2.1
            ∙ ap (λ rs. part.0 ++ take part.2.0 (log_of rs)) (kept_newest g.I.Key.Ord.cmp log (g.I.Runs.view c.self.inside.index) c.self.inside.log.end c.self.inside.tail h),
      ),
    )
