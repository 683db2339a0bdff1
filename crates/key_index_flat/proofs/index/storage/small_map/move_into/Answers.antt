use Rattle.std.proofs.Common.{◌∷◌, [], length, ap, subst, ◌∙◌, arith}
use Rattle.std.proofs.lemmas.List.{length-append}
use Rattle.std.proofs.lemmas.List.Sorted.{IsPermutation-to_front}
use Rattle.key_index_map.proofs.Transfer.{Moving, reordered, new_key, one_less}
use Rattle.key_index_flat.proofs.index.storage.small_map.move_into.Given.{Over}
use Rattle.key_index_flat.proofs.index.storage.small_map.move_into.Goals as goal
use Rattle.key_index_flat.proofs.index.storage.small_map.move_into.Goals.{In-Some}

-- the last pair is the next
so_far : (g : Over) (c : In-Some g) → Moving g.met.K.Eq.laws c.args.pairs.now.items (c.in-Some.pair ∷ c.pop.new.self.items) c.loop-pair.map.entries
so_far g c =
    reordered g.met.K.Eq.laws c.args.pairs.now.items _ (c.in-Some.pair ∷ c.pop.new.self.items) c.loop-pair.map.entries (IsPermutation-to_front c.pop.new.self.items c.in-Some.pair)
    (subst (λ l. Moving g.met.K.Eq.laws c.args.pairs.now.items l c.loop-pair.map.entries) c.in-Some.ensures.items c.loop-pair.invariant.moving)

pub add-requires : goal.add-requires
add-requires g c = new_key g.met.K.Eq.laws c.args.pairs.now.items c.pop.new.self.items c.loop-pair.map.entries c.in-Some.pair.0 c.in-Some.pair.1 (so_far g (goal.at.add-requires g c).In-Some)

pub loop-pair-preserved : goal.loop-pair-preserved
loop-pair-preserved g c =
    let left = c.pop.new.self.items in
    let pair = c.in-Some.pair in
    let len = ap length c.in-Some.ensures.items ∙ length-append left (pair ∷ []) in
    record {
      moving = one_less g.met.K.Eq.laws c.args.pairs.now.items left c.loop-pair.map.entries pair.0 pair.1 (so_far g (goal.at.loop-pair-preserved g c).In-Some) c.add.new.self.entries c.in-Ok.ensures.updates c.in-Ok.ensures.len;
      fits = omega (arith, len, c.in-Ok.ensures.room, c.loop-pair.invariant.fits);
      room = omega (arith, len, c.in-Ok.ensures.room, c.loop-pair.invariant.room);
    }
