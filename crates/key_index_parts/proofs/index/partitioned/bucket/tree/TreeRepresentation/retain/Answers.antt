use Rattle.std.proofs.Common.{rules, ◌+◌, ◌<◌, ◌^◌, cond, is_some, sym, ap, ◌∙◌, arith}
use Rattle.std.proofs.lemmas.Bool.{true≢false}
use Rattle.key_index_flat.proofs.closures.KeptLemmas.{IsCounted-with_list, within_count}
use Rattle.key_index_flat.proofs.closures.PutLemmas.{few_with}
use Rattle.key_index_parts.proofs.buckets.CountLemmas.{fits_with}
use Rattle.key_index_parts.proofs.index.partitioned.bucket.tree.TreeRepresentation.retain.Goals.{else-is_some-via-then-is_some+else-self, else-is_some-via-else-is_some}
use Rattle.key_index_parts.proofs.index.partitioned.bucket.tree.TreeRepresentation.retain.Goals as goal

pub overflow_sub-self : goal.overflow_sub-self
overflow_sub-self g c =
    let within = within_count g.met.T.Key.Ord.total c.args.self.now.lists.content c.args.key _ c.args.self.now.counted in
    omega (arith, within, c.in_ok-told.ensures.had)

pub overflow_add-self : goal.overflow_add-self
overflow_add-self g c =
    let within = within_count g.met.T.Key.Ord.total c.args.self.now.lists.content c.args.key _ c.args.self.now.counted in
    let said = c.in_ok-told.ensures.accepted in
    let few = few_with _ c.args.should_retain _ said.0 _ _ said.1 in
    let small : c.args.self.now.len < 2 ^ 64 = search rules in
    let room : c.args.self.now.len + cond (is_some c.take-2.result) 1 0 < 2 ^ 64 = elim c.else-is_some.branch [
      | else-is_some-via-then-is_some+else-self w ↦ fits_with (is_some c.take-2.result) _ (λ _. omega (arith, small, w.if-self.false)) small
      | else-is_some-via-else-is_some w ↦ fits_with (is_some c.take-2.result) _ (λ some. absurd (true≢false (sym some ∙ ap is_some c.take-2.ensures.value ∙ sym c.is_some.ensures ∙ w.if-is_some.false))) small
    ] in
    omega (arith, within, room, few, said.3, c.in_ok-told.ensures.had)

pub invariant_of-self-2 : goal.invariant_of-self-2
invariant_of-self-2 g c =
    let within = within_count g.met.T.Key.Ord.total c.args.self.now.lists.content c.args.key _ c.args.self.now.counted in
    let said = c.in_ok-told.ensures.accepted in
    record { counted = IsCounted-with_list g.met.T.Key.Ord.total _ _ _ _ _ _ c.args.self.now.counted said.2 (omega (arith, within, said.3, c.in_ok-told.ensures.had)) }
