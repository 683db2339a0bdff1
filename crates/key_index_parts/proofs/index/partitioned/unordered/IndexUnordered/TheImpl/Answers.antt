-- A batch by place is one in some order, and none that is made has a fault.
use Rattle.std.proofs.Common.{T, Result, Ok, Err, IsOk, IfErr, OnOk, sym, subst}
use Rattle.std.proofs.lemmas.List.Sorted.{IsPermutation-refl}
use Rattle.std.specs.List.Sorted.{IsPermutation}
use Rattle.key_index_parts.proofs.index.partitioned.unordered.IndexUnordered.TheImpl.Goals as goal

always : {A E P : Type 0} (r : Result A E) → P → OnOk r P
always (Ok x) p = p
always (Err e) p = tt

no_fault : {A E : Type 0} (P : E → Type 0) (r : Result A E) → IsOk r → IfErr r P
no_fault P (Ok x) made = tt
no_fault P (Err e) made = absurd (subst T (sym made) tt)

pub get_many-tells : goal.get_many-tells
get_many-tells g c =
    let h = c.ensures.seen in
    let moved = subst (λ placed. IsPermutation placed h.1.0) h.1.1.2 (IsPermutation-refl h.1.0) in
    record {
      seen = always c.result (h.0, (h.1.0, (h.1.1.0, h.1.1.1, moved), h.1.2));
      fault = no_fault _ c.result c.ensures.made;
    }
