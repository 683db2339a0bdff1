use Rattle.std.proofs.Common.{refl, sym, subst, rules, of_calls}
use denote.Param.Always.{always_mut, mut_by}
use Rattle.key_index_flat.specs.Visits.{AreProbes, ByKey}
use Rattle.key_index_parts.proofs.closures.AheadLemmas.{tells_through}
use Rattle.key_index_parts.proofs.index.partitioned.ordered.ahead.show_ahead.Goals as goal

pub look_ahead-requires : goal.look_ahead-requires
look_ahead-requires g c κs =
    ((refl, tt), mut_by _ (λ s. always_mut g.F.FnMut s.0) (λ s a i. search (rules, i)) (λ s a r t i e. search (rules, of_calls)) _ c.requires.callable)

pub returns-clause-told : goal.returns-clause-told
returns-clause-told g c =
    let probes = subst (λ l. AreProbes ByKey g.B.Iterator g.B.Item.AsSlice.items c.args.keys g.I.Key.Ord.cmp (g.I.Runs.view c.args.index.now) l) (sym c.deref.ensures.value) c.in_ok-sorted.ensures.probes in
    let told = tells_through _ g.F.FnMut (λ s. s.0) (λ p t q e. search (rules, of_calls)) _ c.look_ahead.new.on _ c.look_ahead.ensures.told in
    (c.look_ahead.new.on.0, (c.deref.result.now, probes, told))
