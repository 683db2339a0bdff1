use Rattle.std.proofs.Common.{rules, ◌≡◌, ℕ, ◌+◌, ◌<◌, ◌^◌, Bool, true, false, cond, is_some, sym, ◌∙◌, arith}
use Rattle.key_index_flat.proofs.closures.KeptLemmas.{lawful_edit, IsCounted-with_list, within_count}
use Rattle.key_index_flat.proofs.closures.PutLemmas.{few_with}
use Rattle.key_index_flat.proofs.index.storage.Storage.retain.Given.{Over}
use Rattle.key_index_flat.proofs.index.storage.Storage.retain.Goals.{In-Ok, else-is_some-via-then-is_some+else-self, else-is_some-via-else-is_some}
use Rattle.key_index_flat.proofs.index.storage.Storage.retain.Goals as goal

pub overflow_sub-self : goal.overflow_sub-self
overflow_sub-self g c =
    let within = within_count g.met.T.Key.Ord.total c.self.inside.lists.content c.args.slot _ c.self.invariant in
    omega (arith, within, c.in-Ok.ensures.had)

one_more : (b : Bool) (n : ℕ) → n + 1 < 2 ^ 64 → n + cond b 1 0 < 2 ^ 64
one_more true n h = h
one_more false n h = omega (arith, h)

none_more : (b : Bool) (n : ℕ) → b ≡ false → n < 2 ^ 64 → n + cond b 1 0 < 2 ^ 64
none_more b n e h = rw e (omega (arith, h))

room : (g : Over) (c : In-Ok g) → c.self.inside.items + cond (is_some c.args.new) 1 0 < 2 ^ 64
room g c =
    let small : c.self.inside.items < 2 ^ 64 = search rules in
    elim c.else-is_some.branch [
      | else-is_some-via-then-is_some+else-self w ↦ one_more (is_some c.args.new) c.self.inside.items (omega (arith, small, w.if-self.false))
      | else-is_some-via-else-is_some w ↦ none_more (is_some c.args.new) c.self.inside.items (sym c.is_some.ensures ∙ w.if-is_some.false) small
    ]

pub overflow_add-self : goal.overflow_add-self
overflow_add-self g c =
    let within = within_count g.met.T.Key.Ord.total c.self.inside.lists.content c.args.slot _ c.self.invariant in
    let said = c.in-Ok.ensures.accepted in
    let few = few_with _ c.args.should_retain _ said.0 c.args.new _ said.1 in
    let small = room g (goal.at.overflow_add-self g c).In-Ok in
    omega (arith, within, small, few, said.3, c.in-Ok.ensures.had)

pub invariant_of-self : goal.invariant_of-self
invariant_of-self g c =
    let within = within_count g.met.T.Key.Ord.total c.self.inside.lists.content c.args.slot _ c.self.invariant in
    let said = c.in-Ok.ensures.accepted in
    IsCounted-with_list g.met.T.Key.Ord.total _ _ _ _ _ _ c.self.invariant said.2 (omega (arith, within, said.3, c.in-Ok.ensures.had))

pub returns-in-Ok-clause-lawful : goal.returns-in-Ok-clause-lawful
returns-in-Ok-clause-lawful g c = lawful_edit g.met.T.Key.Ord.total _ _ _ _ c.self.invariant.lawful c.in-Ok.ensures.accepted.2
