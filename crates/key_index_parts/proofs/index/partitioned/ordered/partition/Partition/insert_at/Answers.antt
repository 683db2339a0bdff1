use Rattle.std.proofs.Common.{◌≤◌, length, sym, ap, ◌∙◌, arith}
use Rattle.std.proofs.lemmas.List.Edits.{length-insert}
use Rattle.std.proofs.lemmas.Map.Made.{keys_of-zip}
use Rattle.std.specs.Map.{keys_of}
use Rattle.key_index_parts.proofs.pairs.ZipLemmas.{length-zip, zip-insert}
use Rattle.key_index_parts.proofs.index.partitioned.ordered.partition.Partition.insert_at.Goals as goal

pub insert-requires : goal.insert-requires
insert-requires g c = omega (arith, length-zip _ _ c.self.invariant.sized, ap length (ap (λ s. s.pairs) c.self.view_is ∙ c.in_default.ensures.pairs))

pub insert-requires-2 : goal.insert-requires-2
insert-requires-2 g c = omega (arith, c.self.invariant.sized, length-zip _ _ c.self.invariant.sized, ap length (ap (λ s. s.pairs) c.self.view_is ∙ c.in_default.ensures.pairs))

pub invariant_of-self : goal.invariant_of-self
invariant_of-self g c =
    let same = ap (λ s. s.pairs) c.self.view_is ∙ c.in_default.ensures.pairs in
    let keys = sym (keys_of-zip _ _ (sym c.self.invariant.sized)) ∙ ap keys_of same in
    let key_place : c.args.place ≤ length c.self.inside.keys.items = omega (arith, length-zip _ _ c.self.invariant.sized, ap length same) in
    let value_place : c.args.place ≤ length c.self.inside.values.items = omega (arith, c.self.invariant.sized, key_place) in
    rw (c.in-Ok-Ok.ensures.items, c.in-Ok-Ok.ensures'.items) record {
      sized = omega (arith, c.self.invariant.sized, length-insert c.self.inside.keys.items c.args.place c.args.key key_place, length-insert c.self.inside.values.items c.args.place c.args.value value_place);
      sorted = rw keys c.requires.sorted;
    }

pub returns-clause-accepted : goal.returns-clause-accepted
returns-clause-accepted g c =
    rw (c.in-Ok-Ok.ensures.items, c.in-Ok-Ok.ensures'.items, ← c.in_default.ensures.pairs, ← c.self.view_is)
    (zip-insert c.self.inside.keys.items c.self.inside.values.items c.self.invariant.sized c.args.place c.args.key c.args.value)
