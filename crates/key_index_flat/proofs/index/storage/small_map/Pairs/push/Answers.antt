use Rattle.std.proofs.Common.{◌++◌, ◌∷◌, [], Some, ap, sym, subst, length, ◌∙◌, arith}
use Rattle.std.specs.List.{IsDistinct}
use Rattle.std.specs.Map.{keys_of}
use Rattle.key_index_flat.specs.SmallMap.{AreTagged, AreTaggedBut}
use Rattle.key_index_flat.specs.Storage.{Sets}
use Rattle.key_index_flat.proofs.content.PairLemmas.{sets_pushed, differ_pushed}
use Rattle.key_index_flat.proofs.content.TagLemmas.{tags_push}
use Rattle.key_index_flat.proofs.index.storage.small_map.Pairs.push.Goals as goal

pub retag-requires : goal.retag-requires
retag-requires g c =
    let pairs = c.self.inside.pairs.items in
    let input = g.K.Hash.hash_input in
    let tags = c.self.inside.tags in
    subst (λ l. AreTaggedBut input tags l c.len-place.result) (sym (c.deref.ensures.value ∙ c.in-Ok.ensures.items))
    (subst (λ n. AreTaggedBut input tags (pairs ++ (c.args.key, c.args.value) ∷ []) n) (omega (arith, c.len-place.ensures, c.self.inside.pairs.ok.0)) (tags_push input tags pairs c.self.invariant.2 (c.args.key, c.args.value)))

pub invariant_of-self : goal.invariant_of-self
invariant_of-self g c =
    let pairs = c.self.inside.pairs.items in
    let items = c.in-Ok.ensures.items in
    let differ = differ_pushed g.met.K.Ord.matches_eq g.met.K.Ord.total g.met.K.Eq.laws pairs c.args.self.now c.self.view_is c.self.invariant.1 c.args.key c.args.value c.requires.absent in (
      omega (arith, c.requires.room, ap length c.self.view_is, c.in-Ok.ensures.len, c.self.inside.pairs.ok.0, c.push.new.self.ok.0),
      subst (λ l. IsDistinct g.K.PartialEq.eq (keys_of l)) (sym items) differ,
      subst (λ l. AreTagged g.K.Hash.hash_input c.retag.new.tags l) c.deref.ensures.value c.retag.ensures,
    )

pub returns-in-Ok-clause-sets : goal.returns-in-Ok-clause-sets
returns-in-Ok-clause-sets g c =
    subst (λ l. Sets g.K.Ord.cmp c.args.self.now l c.args.key (Some c.args.value)) (sym c.in-Ok.ensures.items)
    (sets_pushed g.met.K.Ord.matches_eq g.met.K.Ord.total g.met.K.Eq.laws c.self.inside.pairs.items c.args.self.now c.self.view_is c.self.invariant.1 c.args.key c.args.value c.requires.absent)
