-- On the vectors that entries have at their keys.
--     others_set, at_set    after a change of the entries
--     absent                where no `&mut` to a vector was found
--     Lent, lent            after a `&mut` to a vector: what it was, what it is, and the others
--     only_value            the list of a vector with one value, which was inserted
--     only_behind           or put behind no others
use Rattle.std.proofs.Common.{◌≡◌, ℕ, zero, suc, ◌≤◌, Bool, true, false, List, [], ◌∷◌, ◌++◌, Option, Some, None, IfSome, unwrap_or, insert, refl, sym, ap, subst, ◌∙◌, arith}
use Rattle.std.specs.declared.cmp.Ordering.{Ordering}
use Rattle.std.specs.declared.vec.Vec.{Vec}
use Rattle.std.specs.Borrow.{MutBor}
use Rattle.std.specs.Cmp.{IsTotalOrder, eq_by_cmp_equiv}
use Rattle.std.specs.Map.{lookup}
use Rattle.std.specs.Option.{option_map, option_copied_mut, OnSome}
use Rattle.std.specs.Ordering.{eq_by_cmp}
use Rattle.key_index_map.specs.Table.{Writes}
use Rattle.key_index_flat.specs.Storage.{value_of, vector_at, SameBut}
use Rattle.key_index_flat.specs.Values.{in_order}
use Rattle.key_index_flat.proofs.content.PairLemmas.{lookup-value_of}

abbrev items_of : {V A : Type 0} → Option (Vec V A) → List V
items_of v = unwrap_or (option_map (λ v. v.items) v) []

module _ {K V A : Type 0} {eq : K → K → Bool} (cmp : K → K → Ordering) (ties : (x y : K) → eq x y ≡ eq_by_cmp cmp x y) where
  pub others_set : (old new : List (K × Vec V A)) (k : K) → SameBut cmp (value_of cmp old) (value_of cmp new) k → SameBut cmp (vector_at eq old) (vector_at eq new) k
  others_set old new k same q apart =
      ap items_of (lookup-value_of eq cmp ties new q ∙ same q apart ∙ sym (lookup-value_of eq cmp ties old q))

  pub at_set : (new : List (K × Vec V A)) (k : K) (w : Option (Vec V A)) → value_of cmp new k ≡ w → vector_at eq new k ≡ unwrap_or (option_map (λ v. v.items) w) []
  at_set new k w is = ap items_of (lookup-value_of eq cmp ties new k ∙ is)

  pub absent : (old : List (K × Vec V A)) (k : K) (lent : Option (MutBor (Vec V A))) → lent ≡ None → option_copied_mut lent ≡ lookup (eq k) old → vector_at eq old k ≡ []
  absent old k lent missed held = sym (ap items_of held) ∙ ap (λ r. items_of (option_copied_mut r)) missed

pub record Lent {K V A : Type 0} (eq : K → K → Bool) (cmp : K → K → Ordering) (old new : List (K × Vec V A)) (k : K) (before after : List V) : Type 0 where
  pub had : vector_at eq old k ≡ before
  pub has : vector_at eq new k ≡ after
  pub others : SameBut cmp (vector_at eq old) (vector_at eq new) k

module _ {K V A : Type 0} {eq : K → K → Bool} {cmp : K → K → Ordering} (ties : (x y : K) → eq x y ≡ eq_by_cmp cmp x y) (o : IsTotalOrder cmp)
    (old : List (K × Vec V A)) (k : K) {found : Option (MutBor (Vec V A))} {x : MutBor (Vec V A)}
    (some : found ≡ Some x) (held : option_copied_mut found ≡ lookup (eq k) old) (new : List (K × Vec V A)) (w : Vec V A) (written : OnSome found (Writes eq old new k w)) where
  pub lent : Lent eq cmp old new k x.now.items w.items
  lent =
      let writes = subst (λ r. OnSome r (Writes eq old new k w)) some written in
      record {
        had = sym (ap items_of held) ∙ ap (λ r. items_of (option_copied_mut r)) some;
        has = ap items_of writes.updates.at;
        others = λ q apart. ap items_of (writes.updates.others q (ties k q ∙ (eq_by_cmp_equiv o).symm k q ∙ apart));
      }

pub only_value : {V : Type 0} (reversed : Bool) (place : Option ℕ) (v : V) → IfSome place (λ at. at ≤ 0) → in_order reversed (v ∷ []) ≡ insert (in_order reversed []) (unwrap_or place 0) v
only_value true None v h = refl
only_value true (Some zero) v h = refl
only_value true (Some (suc n)) v h = absurd (omega (arith, h))
only_value false None v h = refl
only_value false (Some zero) v h = refl
only_value false (Some (suc n)) v h = absurd (omega (arith, h))

pub only_behind : {V : Type 0} (reversed : Bool) (v : V) → in_order reversed (v ∷ []) ≡ in_order reversed [] ++ v ∷ []
only_behind true v = refl
only_behind false v = refl
