use Rattle.std.proofs.Common.{rules, of_calls, ◌≡◌, map, length, sym, ap, subst, ◌∙◌}
use mathlib.Core.List.{map-map}
use Rattle.std.proofs.lemmas.Iterator.{items_from_drains, YieldsList-from_slice}
use Rattle.std.proofs.lemmas.List.{length-map}
use Rattle.std.proofs.lemmas.Result.{on_err_weaker, on_ok_weaker}
use Rattle.std.specs.List.{fold, last_or}
use Rattle.std.specs.List.Sorted.{IsPermutation}
use Rattle.key_index_flat.specs.View.{run_at}
use Rattle.key_index_flat.specs.Visits.{probes_from}
use Rattle.key_index_parts.specs.Ahead.{events_of}
use Rattle.key_index_uses.specs.Records.{records_of, with_visit}
use Rattle.key_index_uses.proofs.RecordLemmas.{fold-visits_of, beside, fold-beside, fold-with_event, kept_events, folded_events, zip-map}
use Rattle.key_index_uses.proofs.records.find_records.Goals as goal

pub returns-clause-found : goal.returns-clause-found
returns-clause-found g c = on_ok_weaker c.visit_ahead.result (λ h.
    let last = c.visit_ahead.new.on in
    let drained = h.1.1 in
    let run = run_at g.I.Key.Ord.cmp (g.I.Runs.view c.args.index.now) in
    let slot = (g.I.Runs.view c.args.index.now).slot in
    let log = map (λ key. key.now) c.args.log.now in
    let keys = map (λ key. key.now) c.args.keys.now in
    let items = items_from_drains h.1.0 (drained.1.0, drained.1.1, λ _. (drained.0, drained.1.2)) (YieldsList-from_slice c.args.keys.now c.iter.ensures.rest) in
    let placed = ap (λ bs. probes_from slot 0 bs) (sym (map-map (λ k. k.now) (λ y. y.now) h.1.0) ∙ ap (λ ks. map (λ k. k.now) ks) items) in
    let moved = subst (λ ps. IsPermutation ps h.0) placed h.1.2.0 in
    let size : length c.args.answers.now ≡ length keys = c.requires ∙ sym (length-map c.args.keys.now (λ key. key.now)) in
    let filled =
    fold-with_event log keys c.args.answers.now (events_of run h.0) ∙ ap (λ vs. fold (with_visit log keys) c.args.answers.now vs) (c.same_visits.ensures run h.0)
    ∙ fold-visits_of log keys run slot c.args.answers.now h.0 size moved
    ∙ zip-map (λ p. last_or p.0 (records_of log p.1 (run (slot p.1)))) (λ key. key.now) c.args.answers.now c.args.keys.now in
    let same = kept_events _ (λ q. q.1.ghost_name) (λ p x q e. search (rules, of_calls)) _ last _ h.2 in
    let folds = folded_events _ (λ q. (map (λ key. key.now) q.2.now, map (λ key. key.now) q.0.now, q.1.now)) beside (λ p x q e. search (rules, of_calls)) _ last _ h.2 ∙ fold-beside log keys c.args.answers.now (events_of run h.0) in
    let ends = ap (λ s. s.2) folds ∙ filled in
    search (rules, same, ends)) c.visit_ahead.ensures.told

pub returns-clause-refused : goal.returns-clause-refused
returns-clause-refused g c = on_err_weaker c.visit_ahead.result (λ h.
    let same = ap (λ q. q.1.ghost_name) h in
    let ends = ap (λ q. q.1.now) h in
    search (rules, same, ends)) c.visit_ahead.ensures.untold
