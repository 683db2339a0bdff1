use Rattle.std.proofs.Common.{◌≡◌, ◌<◌, ◌≤◌, ◌++◌, ◌∷◌, [], ℕ, List, Option, length, map, replicate, take, None, Some, is_some, IfSome, slice_get, slice_index_or, inl, inr, refl, sym, ap, subst, ◌∙◌, arith}
use Rattle.std.proofs.lemmas.Bool.{cases_eq, cases_lt, true≢false}
use Rattle.std.proofs.lemmas.Grind.{get_or-set_at}
use Rattle.std.proofs.lemmas.List.{take_more, take_all, length-set, length-replicate, get_or-set_other, get_or-replicate, get_or_past}
use Rattle.std.proofs.lemmas.Option.{slice_get_read, get_or_from_slice_get, slice_get-get_or}
use Rattle.std.specs.List.{FoldsTo}
use Rattle.key_index_flat.specs.View.{run_at}
use Rattle.key_index_flat.specs.Visits.{VisitsAt, visits_of}
use Rattle.key_index_flat.proofs.closures.VisitLemmas.{folds_probe}
use Rattle.key_index_parts.specs.Gathered.{pair_cmp}
use Rattle.key_index_parts.specs.Ordered.{view}
use Rattle.key_index_parts.proofs.index.partitioned.ordered.together.show_few.Goals as goal
use Rattle.key_index_parts.proofs.index.partitioned.ordered.together.show_few.Goals.{in-Some, in-None}

none_there : {X : Type 0} (count n : ℕ) → slice_index_or {A = Option X} (replicate count None) n None ≡ None
none_there count n = elim (cases_lt n count) [
  | inl within ↦ get_or-replicate count n None None within
  | inr past ↦ get_or_past (replicate count None) n None (subst (λ m. m ≤ n) (sym (length-replicate count None)) past)
]

got_there : {X : Type 0} (xs : List (Option X)) (n : ℕ) (x : X) (d : Option X) → n < length xs → slice_index_or xs n d ≡ Some x → slice_index_or xs n None ≡ Some x
got_there xs n x d within is = get_or_from_slice_get xs n (Some x) None (slice_get-get_or xs n d within ∙ ap (λ o. Some o) is)

pub find-init : goal.find-init
find-init g c = (refl, λ n probe run there got. absurd (true≢false (ap (λ o. is_some o) (sym got ∙ none_there 16 n))))

pub find-preserved : goal.find-preserved
find-preserved g c =
    let list = run_at (pair_cmp g.T.Key.Ord.cmp) (view c.args.index.now) in
    let cell = c.find.cell in
    let within = c.find.invariant.0 in (
      length-set c.find.runs cell c.run_near.result ∙ within,
      λ n probe run there put. elim (cases_eq n cell) as (λ _. run.now ≡ list probe.0) [
        | inl same ↦
            let set = sym (get_or-set_at c.find.runs cell n c.run_near.result None same (omega (arith, within, c.requires.few, c.find-test.true))) ∙ put in
            subst (λ found. IfSome found (λ l. l.now ≡ list (slice_index_or c.args.probes.now cell c.index-probes-cell.result).0)) set c.run_near.ensures
            ∙ ap (λ p. list p.0) (get_or_from_slice_get c.args.probes.now cell probe c.index-probes-cell.result (subst (λ i. slice_get c.args.probes.now i ≡ Some probe) same there))
        | inr other ↦ c.find.invariant.1 n probe run there (sym (get_or-set_other c.find.runs cell n c.run_near.result None other) ∙ put)
      ],
    )

pub bounds-runs-cell-in-visit : goal.bounds-runs-cell-in-visit
bounds-runs-cell-in-visit g c =
    let all = c.find.invariant.0 in
    omega (arith, all, c.requires.few, c.visit-test.true)

pub visit-preserved : goal.visit-preserved
visit-preserved g c =
    let list = run_at (pair_cmp g.T.Key.Ord.cmp) (view c.args.index.now) in
    let visits = VisitsAt g.F.FnMut in
    let probes = c.args.probes.now in
    let cell = c.visit.cell in
    let probe = c.index-probes-cell-in-visit.result in
    let values = c.match-runs-cell.values in
    let all = c.find.invariant.0 in
    let there : slice_get probes cell ≡ Some probe = slice_get_read probes (length probes) cell probe refl c.visit-test.true c.index-probes-cell-in-visit.is in
    let held : (c.match-runs-cell.probe.1.0 ≡ probe.1) × (values ≡ list probe.0) = elim c.match-runs-cell.branch [
      | in-Some w ↦
          let got = got_there c.find.runs cell w.in-Some.run' _ (omega (arith, all, c.requires.few, c.visit-test.true)) w.in-Some.is in
          (ap (λ p. p.1.0) w.probe-is, w.values-is ∙ w.of_slice-values.ensures ∙ c.find.invariant.1 cell probe w.in-Some.run' there got)
      | in-None w ↦ (ap (λ p. p.1.0) w.probe-is, w.values-is ∙ w.list_at-values.ensures)
    ] in
    let more = take_more probes cell probe c.visit-test.true ∙ ap (λ p. take cell probes ++ p ∷ []) (sym c.index-probes-cell-in-visit.is) in
    let visited = subst (λ place. FoldsTo visits c.visit.visit (map (λ v. (place, v)) values) c.show_list-visit.result) held.0 c.show_list-visit.ensures.visited in (
      c.show_list-visit.ensures.again,
      subst (λ (ps : List ((ℕ × g.row.T-Key.Denot) × ℕ)). FoldsTo visits c.args.visit (visits_of list ps) c.show_list-visit.result) (sym more)
          (folds_probe list visits c.args.visit c.visit.visit c.show_list-visit.result (take cell probes) probe values held.1 c.visit.invariant.1 visited),
    )

pub returns-clause-visited : goal.returns-clause-visited
returns-clause-visited g c =
    let run = run_at (pair_cmp g.T.Key.Ord.cmp) (view c.args.index.now) in
    let all = take_all c.visit.cell c.args.probes.now c.visit-test.false in
    subst (λ (ps : List ((ℕ × g.row.T-Key.Denot) × ℕ)). FoldsTo (VisitsAt g.F.FnMut) c.args.visit (visits_of run ps) c.visit.visit) all c.visit.invariant.1
