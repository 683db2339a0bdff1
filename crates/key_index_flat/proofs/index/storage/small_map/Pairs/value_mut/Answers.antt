use Rattle.std.proofs.Common.{refl, arith}
use Rattle.std.proofs.lemmas.List.{length-set}
use Rattle.key_index_flat.proofs.content.PairLemmas.{pair_at, looked_at, written_at, differ_at}
use Rattle.key_index_flat.proofs.content.TagLemmas.{tags_set}
use Rattle.key_index_flat.proofs.index.storage.small_map.Pairs.value_mut.Goals as goal

pub invariant_of-self-lent : goal.invariant_of-self-lent
invariant_of-self-lent g c = λ w.
    let pairs = c.self.inside.pairs.items in
    let e = c.index_mut.result.now in
    let at = pair_at g.met.K.Ord.matches_eq g.met.K.Ord.total g.met.K.Eq.laws pairs c.args.self.now c.self.view_is c.self.invariant.1 c.args.key c.args.place c.requires e c.index_mut.ensures.value in (
      omega (arith, length-set pairs c.args.place (e.0, w), c.self.invariant.0),
      differ_at g.met.K.Ord.matches_eq g.met.K.Ord.total g.met.K.Eq.laws pairs c.args.self.now c.self.view_is c.self.invariant.1 c.args.key c.args.place c.requires e c.index_mut.ensures.value w,
      tags_set g.K.Hash.hash_input c.self.inside.tags pairs c.self.invariant.2 c.args.place e w at,
    )

pub returns : goal.returns
returns g c =
    let pairs = c.self.inside.pairs.items in
    let e = c.index_mut.result.now in (
      (refl, λ w. written_at g.met.K.Ord.matches_eq g.met.K.Ord.total g.met.K.Eq.laws pairs c.args.self.now c.self.view_is c.self.invariant.1 c.args.key c.args.place c.requires e c.index_mut.ensures.value w),
      record { lends = tt; value = looked_at g.met.K.Ord.matches_eq g.met.K.Ord.total g.met.K.Eq.laws pairs c.args.self.now c.self.view_is c.self.invariant.1 c.args.key c.args.place c.requires e c.index_mut.ensures.value },
    )
