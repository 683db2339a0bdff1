use Rattle.std.proofs.Common.{refl, rules, of_calls}
use denote.Param.Always.{always_mut, mut_by}
use Rattle.key_index_flat.proofs.closures.VisitLemmas.{visits_through}
use Rattle.key_index_flat.proofs.index.batch.show_by_place.Goals as goal

pub visit_by_place-requires : goal.visit_by_place-requires
visit_by_place-requires g c κs =
    ((refl, tt), (c.requires.batch, mut_by _ (λ s. always_mut g.F.FnMut s.0) (λ s a i. search (rules, i)) (λ s a r t i e. search (rules, of_calls)) _ c.requires.callable))

pub returns : goal.returns
returns g c =
    let visited = c.visit_by_place.ensures in
    let through = visits_through _ g.F.FnMut (λ s. s.0) (λ p t q e. search (rules, of_calls)) _ c.visit_by_place.result _ visited.2 in
    (c.visit_by_place.result.0, (visited.0, visited.1, through))
