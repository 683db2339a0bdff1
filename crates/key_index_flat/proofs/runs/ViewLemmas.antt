-- The parts of one view and another: content-same_view, .., and same_view, a view by its parts.
use Rattle.std.proofs.Common.{◌≡◌, ap}
use Rattle.key_index_flat.specs.View.{View}

module _ {K V : Type 0} {s t : View K V} where
  pub content-same_view : s ≡ t → s.content ≡ t.content
  content-same_view e = ap (λ (v : View K V). v.content) e

  pub same_pruned : s ≡ t → s.pruned ≡ t.pruned
  same_pruned e = ap (λ (v : View K V). v.pruned) e

  pub same_slot : s ≡ t → s.slot ≡ t.slot
  same_slot e = ap (λ (v : View K V). v.slot) e

  pub same_admitted : s ≡ t → s.admitted ≡ t.admitted
  same_admitted e = ap (λ (v : View K V). v.admitted) e

  pub same_view : s.content ≡ t.content → s.pruned ≡ t.pruned → s.slot ≡ t.slot → s.admitted ≡ t.admitted → s ≡ t
  same_view c p l a = λ i. record { content = c i; pruned = p i; slot = l i; admitted = a i }
