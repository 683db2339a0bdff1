use Rattle.std.proofs.Common.{None, sym, subst, arith}
use Rattle.std.specs.List.{IsDistinct}
use Rattle.std.specs.Map.{keys_of}
use Rattle.key_index_flat.specs.SmallMap.{AreTagged, AreTaggedBut}
use Rattle.key_index_flat.specs.Storage.{Sets}
use Rattle.key_index_flat.proofs.content.PairLemmas.{value_at, sets_taken, differ_taken}
use Rattle.key_index_flat.proofs.content.TagLemmas.{tags_take}
use Rattle.key_index_flat.proofs.index.storage.small_map.Pairs.remove.Goals as goal

pub retag-requires : goal.retag-requires
retag-requires g c =
    let pairs = c.self.inside.pairs.items in
    let new = c.swap_remove-value.new.self in
    let len = c.self.inside.pairs.ok.0 in
    subst (λ l. AreTaggedBut g.K.Hash.hash_input c.self.inside.tags l c.in_ok-place.place) (sym c.deref.ensures.value)
    (tags_take g.K.Hash.hash_input c.self.inside.tags pairs c.self.invariant.2 new.items c.in_ok-place.place (omega (arith, len, new.ok.0, c.swap_remove-value.ensures.len))
    (λ i d other below. c.swap_remove-value.ensures.by_index.1 i d other (omega (arith, len, below))))

pub invariant_of-self : goal.invariant_of-self
invariant_of-self g c =
    let pairs = c.self.inside.pairs.items in
    let removed = c.swap_remove-value.ensures in
    let differ = differ_taken g.met.K.Ord.matches_eq g.met.K.Ord.total g.met.K.Eq.laws pairs c.args.self.now c.self.view_is c.self.invariant.1 c.args.key.now c.in_ok-place.place c.in_ok-place.ensures.found c.swap_remove-value.result removed.value in (
      omega (arith, c.self.invariant.0, removed.len),
      subst (λ l. IsDistinct g.K.PartialEq.eq (keys_of l)) (sym removed.items) differ,
      subst (λ l. AreTagged g.K.Hash.hash_input c.retag.new.tags l) c.deref.ensures.value c.retag.ensures,
    )

pub returns-clause-value : goal.returns-clause-value
returns-clause-value g c =
    value_at g.met.K.Ord.matches_eq g.met.K.Ord.total g.met.K.Eq.laws c.self.inside.pairs.items c.args.self.now c.self.view_is c.self.invariant.1 c.args.key.now c.in_ok-place.place c.in_ok-place.ensures.found c.swap_remove-value.result c.swap_remove-value.ensures.value

pub returns-clause-sets : goal.returns-clause-sets
returns-clause-sets g c =
    subst (λ l. Sets g.K.Ord.cmp c.args.self.now l c.args.key.now None) (sym c.swap_remove-value.ensures.items)
    (sets_taken g.met.K.Ord.matches_eq g.met.K.Ord.total g.met.K.Eq.laws c.self.inside.pairs.items c.args.self.now c.self.view_is c.self.invariant.1 c.args.key.now c.in_ok-place.place c.in_ok-place.ensures.found c.swap_remove-value.result c.swap_remove-value.ensures.value)
