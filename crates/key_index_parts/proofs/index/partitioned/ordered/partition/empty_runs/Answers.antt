use Rattle.std.proofs.Common.{◌≤◌, ◌+◌, ◌∷◌, ◌++◌, [], length, map, drop, sym, ap, subst, ◌∙◌, arith}
use Rattle.std.proofs.lemmas.List.{map_push, append_assoc, append-nil, take_rest, length-drop, drop_all, get_or_read}
use Rattle.std.specs.List.{zip}
use Rattle.key_index_parts.specs.Pairs.{count_upto, grouped, room_of, room_for}
use Rattle.key_index_parts.proofs.pairs.ZipLemmas.{length-zip}
use Rattle.key_index_parts.proofs.pairs.DrainLemmas.{next_room}
use Rattle.key_index_parts.proofs.index.partitioned.ordered.partition.empty_runs.Goals as goal

pub loop-start-preserved : goal.loop-start-preserved
loop-start-preserved g c =
    let cmp = g.K.Ord.cmp in
    let keys = c.args.keys.now in
    let start = c.loop-start.start in
    let count = c.run_end-count.result in
    let key = c.index-keys-start.result in
    let last = c.index-keys-start-in-loop-start.result in
    let rest = c.part.ensures ∙ take_rest keys start in
    let most = c.run_end-count.ensures.within in
    let test = c.loop-start-test.true in
    record {
      within = omega (arith, ap length rest ∙ length-drop start keys, most, test);
      made = λ vs sized.
          let next = next_room g.met.K.Ord.total keys vs sized c.requires start count key last test (get_or_read keys start key test c.index-keys-start.is last)
          (c.run_end-count.ensures.count ∙ ap (λ l. count_upto cmp l key) rest) (subst (λ l. count ≤ length l) rest most) in
          let behind = map room_for (grouped cmp (drop (start + count) (zip keys vs))) in
          c.loop-start.invariant.made vs sized
          ∙ ap (λ l. map room_of c.loop-start.runs.items ++ l) (next ∙ (λ i. ((sym c.index-keys-start-in-loop-start.is i, sym c.in_ok-values.ensures.items i), sym c.in_ok-values.ensures.exact i) ∷ behind))
          ∙ sym (append_assoc (map room_of c.loop-start.runs.items) (room_of (last, c.in_ok-values.values) ∷ []) behind)
          ∙ ap (λ l. l ++ behind) (sym (map_push room_of c.loop-start.runs.items (last, c.in_ok-values.values)) ∙ ap (map room_of) (sym c.in_ok-push.ensures.items));
    }

pub returns : goal.returns
returns g c vs sized =
    let cmp = g.K.Ord.cmp in
    let whole : length (zip c.args.keys.now vs) ≤ c.loop-start.start = omega (arith, length-zip c.args.keys.now vs sized, c.loop-start-test.false) in
    sym (c.loop-start.invariant.made vs sized
    ∙ ap (λ l. map room_of c.loop-start.runs.items ++ map room_for (grouped cmp l)) (drop_all c.loop-start.start (zip c.args.keys.now vs) whole)
    ∙ append-nil (map room_of c.loop-start.runs.items))
