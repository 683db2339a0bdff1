use Rattle.std.proofs.Common.{refl, rules, of_calls}
use denote.Param.Always.{always_mut, mut_by}
use Rattle.key_index_flat.proofs.closures.VisitLemmas.{visits_through}
use Rattle.key_index_flat.proofs.index.batch.show_by_key.Goals as goal

pub visit_probes-requires : goal.visit_probes-requires
visit_probes-requires g c κs =
    ((refl, tt), mut_by _ (λ s. always_mut g.F.FnMut s.0) (λ s a i. search (rules, i)) (λ s a r t i e. search (rules, of_calls)) _ c.requires.callable)

pub returns-clause-seen : goal.returns-clause-seen
returns-clause-seen g c =
    let through = visits_through _ g.F.FnMut (λ s. s.0) (λ p t q e. search (rules, of_calls)) _ c.visit_probes.result _ c.visit_probes.ensures in
    (c.visit_probes.result.0, (c.in_ok-probes.probes.items, c.in_ok-probes.ensures.probes, through))
