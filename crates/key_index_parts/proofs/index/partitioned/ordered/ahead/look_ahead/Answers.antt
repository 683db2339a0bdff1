use Rattle.std.proofs.Common.{◌≡◌, ◌+◌, ◌<◌, ◌%◌, length, drop, map, take, Some, unwrap_or, [], slice_get, slice_set, refl, sym, ap, subst, ◌∙◌, arith}
use Rattle.std.proofs.lemmas.List.{drop-drop, drop_all, length-set}
use Rattle.std.proofs.lemmas.Option.{slice_get_read}
use denote.Param.Always.{always_mut}
use Rattle.std.specs.List.{FoldsTo}
use Rattle.std.specs.Slice.Iter.{iter_rest}
use Rattle.std.specs.Option.{option_map}
use Rattle.key_index_flat.proofs.closures.VisitLemmas.{folds_append}
use Rattle.key_index_flat.specs.View.{run_at}
use Rattle.key_index_parts.specs.Ahead.{TellsAt, events_from, found_at, visits_at}
use Rattle.key_index_parts.proofs.closures.AheadLemmas.{Waits, waits_next, waits_turn, folds_found, folds_step}
use Rattle.key_index_parts.proofs.index.partitioned.ordered.ahead.look_ahead.Goals as goal
use Rattle.key_index_parts.proofs.index.partitioned.ordered.ahead.look_ahead.Goals.{in-Some, in_default}

pub loop-cell-preserved : goal.loop-cell-preserved
loop-cell-preserved g c =
    let run = run_at g.I.Key.Ord.cmp (g.I.Runs.view c.args.index.now) in
    let probes = c.args.probes.now in
    let i = c.loop-cell.invariant in
    let cell = c.loop-cell.cell in
    let within = c.loop-cell-test.true in (
      c.find_next.ensures.callable,
      length-set c.loop-cell.waiting cell c.find_next.result ∙ i.1,
      c.find_next.ensures.later ∙ ap (λ l. drop 1 l) i.2 ∙ drop-drop 1 cell probes,
      waits_next run probes c.loop-cell.waiting c.find_next.result 0 cell cell i.1 (omega arith) (omega arith)
          (c.find_next.ensures.found ∙ ap (λ l. option_map (λ p. run p.0) (slice_get l 0)) i.2) i.3,
      folds_found run probes (TellsAt g.F.FnMut) _ c.loop-cell.on _ cell _ i.2 i.4 c.find_next.ensures.told,
    )

pub loop-number-init : goal.loop-number-init
loop-number-init g c =
    let run = run_at g.I.Key.Ord.cmp (g.I.Runs.view c.args.index.now) in
    let probes = c.args.probes.now in
    let i = c.loop-cell.invariant in
    let full : c.loop-cell.cell ≡ 4 = omega arith in (
      i.0,
      i.1,
      i.2 ∙ ap (λ n. drop n probes) full,
      subst (λ n. Waits run probes c.loop-cell.waiting 0 n) full i.3,
      λ last h. folds_append (TellsAt g.F.FnMut) c.args.on.now c.loop-cell.on last (map (found_at run) (take 4 probes)) (events_from run (drop 4 probes) probes)
          (subst (λ n. FoldsTo (TellsAt g.F.FnMut) c.args.on.now (map (found_at run) (take n probes)) c.loop-cell.on) full i.4) h,
    )

pub loop-number-preserved : goal.loop-number-preserved
loop-number-preserved g c =
    let run = run_at g.I.Key.Ord.cmp (g.I.Runs.view c.args.index.now) in
    let probes = c.args.probes.now in
    let tells = TellsAt g.F.FnMut in
    let i = c.loop-number.invariant in
    let n = c.loop-number.number in
    let waiting = c.loop-number.waiting in
    let probe = c.index-probes-number.result in
    let within : n < length probes = c.loop-number-test.true in
    let there : slice_get probes n ≡ Some probe = slice_get_read probes (length probes) n probe refl within c.index-probes-number.is in
    let found : c.take_waiting.result ≡ Some (run probe.0) = c.take_waiting.ensures.taken ∙ i.3 n probe (omega arith) (omega arith) there in
    let mid = c.take_waiting.new.on in
    let told : always_mut g.F.FnMut c.match-take_waiting.on × FoldsTo tells mid (visits_at probe.1 (run probe.0)) c.match-take_waiting.on =
    elim c.match-take_waiting.branch [
      | in-Some w ↦
          let same : w.in-Some.values ≡ run probe.0 = ap (λ o. unwrap_or o []) (sym w.in-Some.is ∙ found) in
          subst (λ f. always_mut g.F.FnMut f × FoldsTo tells mid (visits_at probe.1 (run probe.0)) f) (sym w.on-is)
          (w.visit.ensures.callable, subst (λ l. FoldsTo tells mid (visits_at probe.1 l) w.visit.new.on) same w.visit.ensures.told)
      | in_default w ↦ absurd (w.in_default.not-Some (run probe.0) found)
    ] in
    let more : n + 4 + 1 ≡ n + 1 + 4 = omega arith in
    let next : slice_get (iter_rest c.loop-number.later) 0 ≡ slice_get (drop (n + 4) probes) 0 = ap (λ l. slice_get l 0) i.2 in
    let put = option_map (λ p. run p.0) (slice_get (drop (n + 4) probes) 0) in
    let refilled : c.take_waiting.new.waiting ≡ slice_set waiting (n % 4) put =
    c.take_waiting.ensures.refilled ∙ ap (λ o. slice_set waiting (n % 4) (option_map (λ p. run p.0) o)) next in (
      told.0,
      ap (λ l. length l) refilled ∙ length-set waiting (n % 4) put ∙ i.1,
      c.take_waiting.ensures.later ∙ ap (λ l. drop 1 l) i.2 ∙ drop-drop 1 (n + 4) probes ∙ ap (λ m. drop m probes) more,
      subst (λ cells. Waits run probes cells (n + 1) (n + 1 + 4)) (sym refilled) (waits_turn run probes waiting put n i.1 refl i.3),
      λ last h. i.4 last (folds_step run probes tells c.loop-number.on mid c.match-take_waiting.on last n probe within c.index-probes-number.is
          (subst (λ l. FoldsTo tells c.loop-number.on (map (found_at run) (take 1 l)) mid) i.2 c.take_waiting.ensures.told) told.1 h),
    )

pub returns-clause-told : goal.returns-clause-told
returns-clause-told g c =
    let run = run_at g.I.Key.Ord.cmp (g.I.Runs.view c.args.index.now) in
    let probes = c.args.probes.now in
    let n = c.loop-number.number in
    let past = c.loop-number-test.false in
    c.loop-number.invariant.4 c.loop-number.on
    (subst (λ l. FoldsTo (TellsAt g.F.FnMut) c.loop-number.on (events_from run (drop (n + 4) probes) l) c.loop-number.on) (sym (drop_all n probes past)) refl)
