use Rattle.std.proofs.Common.{sym, subst, ◌∙◌}
use Rattle.key_index_flat.specs.SmallMap.{NoneBefore}
use Rattle.key_index_flat.proofs.content.TagLemmas.{before_tag}
use Rattle.key_index_flat.proofs.index.storage.small_map.Pairs.held_place_of.Goals as goal

pub held_place_from-requires-clause-before : goal.held_place_from-requires-clause-before
held_place_from-requires-clause-before g c =
    subst (λ l. NoneBefore g.K.PartialEq.eq l c.first_tagged.result c.args.key.now) (sym c.deref.ensures.value)
    (before_tag g.K.Hash.hash_input c.self.inside.tags c.self.inside.pairs.items c.self.invariant.2 g.K.PartialEq.eq g.met.K.Hash.respects_eq c.args.key.now c.first_tagged.result c.first_tagged.ensures.within
    (λ i below same. c.first_tagged.ensures.before i below (same ∙ sym c.tag_of.ensures)))
