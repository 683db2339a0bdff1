-- A list of which some items are done and the others are left.
--     split_more, split_all one more is done; all are
--     get_done              the next one
use Rattle.std.proofs.Common.{◌≡◌, List, [], ◌∷◌, ◌++◌, Some, length, slice_get, append-nil, append_assoc, length-append, sym, ap, ◌∙◌, arith}
use Rattle.std.proofs.Math.Seq.{get_or-append_seam}
use Rattle.std.proofs.lemmas.Option.{slice_get-get_or}

module _ {A : Type 0} where
  pub split_more : (done rest left all : List A) (x : A) → rest ≡ x ∷ left → done ++ rest ≡ all → (done ++ x ∷ []) ++ left ≡ all
  split_more done rest left all x e was = append_assoc done (x ∷ []) left ∙ ap (λ l. done ++ l) (sym e) ∙ was

  pub split_all : (done rest all : List A) → rest ≡ [] → done ++ rest ≡ all → done ≡ all
  split_all done rest all e was = sym (append-nil done) ∙ ap (λ l. done ++ l) (sym e) ∙ was

  pub get_done : (xs ys all : List A) (y : A) → xs ++ y ∷ ys ≡ all → slice_get all (length xs) ≡ Some y
  get_done xs ys all y e = ap (λ l. slice_get l (length xs)) (sym e) ∙ slice_get-get_or (xs ++ y ∷ ys) (length xs) y (omega (arith, length-append xs (y ∷ ys))) ∙ ap Some (get_or-append_seam xs y ys y)
