use Rattle.std.proofs.Common.{◌≡◌, None, Some, ap, length, slice_get, sym, ◌∙◌, arith}
use Rattle.key_index_map.proofs.Between.{none_differ}
use Rattle.key_index_flat.proofs.index.storage.small_map.Pairs.new.Goals as goal

pub invariant_of-result : goal.invariant_of-result
invariant_of-result g c =
    let none = c.new.ensures.items in
    (omega (arith, ap length none), none_differ g.K.PartialEq.eq c.new.result.items none, λ i e below at. let past : Some e ≡ None = sym at ∙ ap (λ l. slice_get l i) none in cc)
