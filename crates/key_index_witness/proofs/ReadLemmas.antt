-- A witness that is read is the one that was written, and what was written is read again.
use Rattle.std.proofs.Common.{subst, ◌≡◌, ℕ, zero, suc, Bool, true, false, cond, eqb, List, [], ◌∷◌, ◌++◌, length, Option, Some, None, IfSome, option_map, refl, sym, ap, ◌∙◌, append-nil}
use Rattle.std.proofs.lemmas.Bool.{eqb-true}
use Rattle.key_index_witness.specs.declared.Witness.{Witness}
use Rattle.key_index_witness.specs.Witness.{Parts, Present, Absent, parts_of}
use Rattle.key_index_witness.specs.Bytes.{HasHeadSizes, HasSizes, bound_field, encoded, head_field}
use Rattle.key_index_witness.specs.Reading.{◌>>=◌, Front, head_at, bound_at, absent_at, read}
use Rattle.key_index_witness.proofs.FieldLemmas.{IsBytes, IsBytes-rest, Takes-then, bind_some, some_is, head_takes, head_again, bound_takes, bound_again}

guard_ended : {A : Type 0} (b : Bool) (x y : A) → cond b (Some x) None ≡ Some y → (b ≡ true) × (x ≡ y)
guard_ended true x y e = (refl, cc)
guard_ended false x y e = absurd cc

nil_from_length : (xs : List ℕ) → length xs ≡ 0 → xs ≡ []
nil_from_length [] h = refl
nil_from_length (x ∷ xs) h = absurd cc

pub absent_takes : (h : Front) (bytes : List ℕ) (w : Parts) → IsBytes bytes → HasHeadSizes h.place h.digest h.path → absent_at h bytes ≡ Some w
    → (1 ∷ (head_field h.place h.digest h.path ++ bytes) ≡ encoded w) × HasSizes w
unfolding absent_at
absent_takes h bytes w fits sizes e =
    let a = bind_some (bound_at bytes) (λ below. bound_at below.1 >>= λ next. cond (eqb (length next.1) 0) (Some (Absent below.0 h.digest next.0 h.place h.path)) None) w e in
    let b = bind_some (bound_at a.0.1) (λ next. cond (eqb (length next.1) 0) (Some (Absent a.0.0 h.digest next.0 h.place h.path)) None) w a.2 in
    let made = Absent a.0.0 h.digest b.0.0 h.place h.path in
    let g = guard_ended (eqb (length b.0.1) 0) made w b.2 in
    let below = bound_takes bytes a.0.0 a.0.1 fits a.1 in
    let next = bound_takes a.0.1 b.0.0 b.0.1 below.0.rest_fits b.1 in
    let both = (Takes-then bytes (bound_field a.0.0) a.0.1 (bound_field b.0.0) b.0.1 below.0 next.0).parts in
    let nothing : b.0.1 ≡ [] = nil_from_length b.0.1 (eqb-true _ _ g.0) in
    let whole : bytes ≡ bound_field a.0.0 ++ bound_field b.0.0 =
    both ∙ (ap (λ (r : List ℕ). (bound_field a.0.0 ++ bound_field b.0.0) ++ r) nothing ∙ append-nil (bound_field a.0.0 ++ bound_field b.0.0)) in
    (ap (λ (r : List ℕ). 1 ∷ (head_field h.place h.digest h.path ++ r)) whole ∙ ap encoded g.1, subst HasSizes g.1 (sizes, below.1, next.1))

pub read_takes : (bytes : List ℕ) (w : Parts) → IsBytes bytes → read bytes ≡ Some w → (encoded w ≡ bytes) × HasSizes w
unfolding read
read_takes [] w fits e = absurd cc
read_takes (zero ∷ bytes) w fits e =
    let a = bind_some (head_at bytes) (λ head. Some (Present head.1 head.0.digest head.0.place head.0.path)) w e in
    let head = head_takes bytes a.0.0 a.0.1 (IsBytes-rest 0 bytes fits) a.1 in
    let made = Present a.0.1 a.0.0.digest a.0.0.place a.0.0.path in
    (sym (ap encoded (some_is made w a.2)) ∙ ap (λ (l : List ℕ). 0 ∷ l) (sym head.0.parts), subst HasSizes (some_is made w a.2) head.1)
read_takes (suc zero ∷ bytes) w fits e =
    let a = bind_some (head_at bytes) (λ head. absent_at head.0 head.1) w e in
    let head = head_takes bytes a.0.0 a.0.1 (IsBytes-rest 1 bytes fits) a.1 in
    let absent = absent_takes a.0.0 a.0.1 w head.0.rest_fits head.1 a.2 in
    (sym (ap (λ (l : List ℕ). 1 ∷ l) head.0.parts ∙ absent.0), absent.1)
read_takes (suc (suc kind) ∷ bytes) w fits e = absurd cc

pub read_again : (w : Parts) → HasSizes w → read (encoded w) ≡ Some w
unfolding read absent_at
read_again (Present value next place path) fits =
    let h : Front = record { place = place; digest = next; path = path } in
    rw (head_again h value fits) refl
read_again (Absent below value next place path) fits =
    let h : Front = record { place = place; digest = value; path = path } in
    let last : bound_at (bound_field next) ≡ Some (next, []) = ap bound_at (sym (append-nil (bound_field next))) ∙ bound_again next [] fits.2 in
    rw (head_again h (bound_field below ++ bound_field next) fits.0, bound_again below (bound_field next) fits.1, last) refl

pub written_by : (bytes : List ℕ) (r : Option Witness) → IsBytes bytes → option_map parts_of r ≡ read bytes → IfSome r (λ w. (encoded (parts_of w) ≡ bytes) × HasSizes (parts_of w))
written_by bytes None fits e = tt
written_by bytes (Some w) fits e = read_takes bytes (parts_of w) fits (sym e)

pub read_by : (bytes : List ℕ) (r : Option Witness) → option_map parts_of r ≡ read bytes
    → (w : Parts) → HasSizes w → encoded w ≡ bytes → option_map parts_of r ≡ Some w
read_by bytes r e w fits is = e ∙ (ap read (sym is) ∙ read_again w fits)
