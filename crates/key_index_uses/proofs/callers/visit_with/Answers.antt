use Rattle.std.proofs.Common.{rules, of_calls, refl, map, sym, ap, subst, ◌∙◌}
use denote.Param.Always.{always_mut, mut_by}
use mathlib.Core.List.{map-map}
use Rattle.std.proofs.lemmas.Iterator.{items_from_drains, YieldsList-from_slice}
use Rattle.std.specs.List.{FoldsTo}
use Rattle.key_index_flat.specs.View.{run_at}
use Rattle.key_index_flat.specs.Visits.{VisitsAt, probes_from, visits_of}
use Rattle.key_index_flat.proofs.closures.VisitLemmas.{folds_through}
use Rattle.key_index_uses.proofs.VisitLemmas.{FoldsTo-inside}
use Rattle.key_index_uses.proofs.callers.visit_with.Goals as goal

pub visit_by_place-requires : goal.visit_by_place-requires
visit_by_place-requires g c κs = (
  (refl, tt),
  ((tt, search rules), mut_by _ (λ s. always_mut g.F.FnMut s.0.now) (λ s a i. search (rules, i)) (λ s a r t i e. search (rules, of_calls)) _ c.requires),
)

pub returns : goal.returns
returns g c =
    let h = c.visit_by_place.ensures in
    let last = c.visit_by_place.result in
    let view = g.I.Runs.view c.args.index.now in
    let items = items_from_drains h.1.0 (h.1.1.1.0, h.1.1.1.1, λ _. (h.1.1.0, h.1.1.1.2)) (YieldsList-from_slice c.args.keys.now c.iter.ensures.rest) in
    let probes = h.1.2 ∙ ap (λ bs. probes_from view.slot 0 bs) (sym (map-map (λ k. k.now) (λ y. y.now) h.1.0) ∙ ap (λ ks. map (λ k. k.now) ks) items) in
    let same = FoldsTo-inside _ (λ q. q.0.ghost_name) (λ p x q e. search (rules, of_calls)) _ last _ h.2 in
    let calls = folds_through _ (VisitsAt g.F.FnMut) (λ s. s.0.now) (λ s x t e. (e.0, e.1, search (rules, of_calls))) _ last _ h.2 in
    let told = subst (λ ps. FoldsTo (VisitsAt g.F.FnMut) c.args.visit.now (visits_of (run_at g.I.Key.Ord.cmp view) ps) last.0.now) probes calls in
    search (rules, same, told)
