-- Fields that are written one behind another.
use Rattle.std.proofs.Common.{◌≡◌, ℕ, ◌+◌, ◌≤◌, List, [], ◌∷◌, ◌++◌, length, take, drop, sym, ap, ◌∙◌, append_assoc, length-append, arith}
use Rattle.std.proofs.lemmas.List.{take_at, length-take, drop-drop}
use Rattle.std.proofs.Math.Seq.{drop-append-add}
use Rattle.key_index_witness.specs.Bytes.{written}

-- from a place on a field was written, up to another place
pub record Wrote (from : ℕ) (field old : List ℕ) (end : ℕ) (new : List ℕ) : Type 0 where
  pub end_is : end ≡ from + length field
  pub new_is : new ≡ written from field old

written-then : (at : ℕ) (f g old : List ℕ) → at + length f ≤ length old
    → written (at + length f) g (written at f old) ≡ written at (f ++ g) old
written-then at f g old h =
    let front = take at old ++ f in
    let rest = drop (at + length f) old in
    let sized : length front ≡ at + length f = omega (arith, length-append (take at old) f, length-take at old) in
    let whole : written at f old ≡ front ++ rest = sym (append_assoc (take at old) f rest) in
    let first : take (at + length f) (front ++ rest) ≡ front = take_at front rest (at + length f) sized in
    let sums : (at + length f) + length g ≡ at + length (f ++ g) = omega (arith, length-append f g) in
    let second : drop ((at + length f) + length g) (front ++ rest) ≡ drop (at + length (f ++ g)) old =
    ap (λ n. drop (n + length g) (front ++ rest)) (sym sized)
    ∙ (drop-append-add front rest (length g) ∙ (drop-drop (length g) (at + length f) old ∙ ap (λ n. drop n old) sums)) in
    ap (λ l. written (at + length f) g l) whole
    ∙ ((λ i. first i ++ (g ++ second i))
    ∙ (append_assoc (take at old) f (g ++ drop (at + length (f ++ g)) old)
    ∙ ap (λ l. take at old ++ l) (sym (append_assoc f g (drop (at + length (f ++ g)) old)))))

pub Wrote-first : (from : ℕ) (field old : List ℕ) (end : ℕ) (new : List ℕ) → end ≡ from + length field → new ≡ written from field old
    → Wrote from field old end new
Wrote-first from field old end new e n = record { end_is = e; new_is = n }

pub Wrote-then : (from : ℕ) (f g old : List ℕ) (middle : ℕ) (mid : List ℕ) (end : ℕ) (new : List ℕ)
    → Wrote from f old middle mid → end ≡ middle + length g → new ≡ written middle g mid → end ≤ length old
    → Wrote from (f ++ g) old end new
Wrote-then from f g old middle mid end new w e n room =
    let m = w.end_is in
    record {
      end_is = omega (arith, e, m, length-append f g);
      new_is = n ∙ ((λ i. written (w.end_is i) g (w.new_is i)) ∙ written-then from f g old (omega (arith, e, m, room)));
    }

pub fields-joined : (kind : ℕ) (place digest : List ℕ) (steps : ℕ) (flat : List ℕ)
    → ((((kind ∷ []) ++ place) ++ digest) ++ steps ∷ []) ++ flat ≡ kind ∷ (place ++ (digest ++ (steps ∷ flat)))
fields-joined kind place digest steps flat =
    append_assoc ((kind ∷ place) ++ digest) (steps ∷ []) flat ∙ append_assoc (kind ∷ place) digest (steps ∷ flat)
