-- On a table without pairs.
use Rattle.std.proofs.Common.{◌≡◌, ℕ, suc, ◌*◌, ◌/◌, ◌<◌, ◌≤◌, Bool, true, false, cond, nat_le, List, [], ◌∷◌, length, replicate, slice_index, slice_index_or, refl, sym, ap, ◌∙◌, ⊎_elim, arith}
use Rattle.std.proofs.lemmas.Bool.{cases_lt, lt-leb}
use Rattle.std.proofs.lemmas.List.{get_or-replicate}
use Rattle.std.proofs.lemmas.Option.{slice_get_within}
use Rattle.key_index_map.specs.Table.{AreCells, AreEmpty, held, limit}
use Rattle.key_index_map.proofs.Between.{none_differ}
use Rattle.key_index_map.proofs.Held.{without_first}
use Rattle.key_index_map.proofs.Marks.{no_marks}

pub none_are_held : {X : Type 0} (ts : List ℕ) (xs : List X) → ((i : ℕ) → i < length xs → slice_index ts i < 3) → held ts xs ≡ []
none_are_held [] xs low = refl
none_are_held (t ∷ ts) [] low = refl
none_are_held (t ∷ ts) (x ∷ xs) low =
    without_first t x (held ts xs) (low 0 (omega arith)) ∙ none_are_held ts xs (λ i below. low (suc i) (omega (arith, below)))

pub record New {K V : Type 0} (eq : K → K → Bool) (input : K → List (List ℕ)) (tags : List ℕ) (items : List (K × V)) (filled : List Bool) (groups left : ℕ) : Type 0 where
  pub cells : AreCells eq input tags items filled groups 0 left
  pub empty : held tags items ≡ []

module _ {K V : Type 0} (eq : K → K → Bool) (input : K → List (List ℕ)) (tags : List ℕ) (items : List (K × V)) (filled : List Bool) (groups cells left : ℕ)
    (are : AreEmpty tags groups cells) (long : length items ≡ cells) (unfilled : filled ≡ replicate cells false) (room : left ≤ cells) where
  low : (i : ℕ) → i < length items → slice_index tags i < 3
  low i below = let is = are.empty i (omega (arith, below, long)) in omega (arith, is)

  no_pairs : held tags items ≡ []
  no_pairs = none_are_held tags items low

  new_cells : AreCells eq input tags items filled groups 0 left
  new_cells = record {
    some = omega (arith, are.some, are.enough);
    sized = are.sized;
    within = omega (arith, long, are.enough);
    any = omega (arith, are.some, long);
    beyond = λ i past to. are.beyond i (omega (arith, past, long)) (omega (arith, to, are.sized));
    cells = λ i below two. let is = are.empty i (omega (arith, below, long)) in omega (arith, is, two);
    taken = λ i below. ap (λ l. slice_index_or l i false) unfilled ∙ get_or-replicate cells i false false (omega (arith, below, long)) ∙ sym (lt-leb 3 (slice_index tags i) (low i below));
    tagged = λ i e at had. let is = low i (slice_get_within items i e at) in absurd (omega (arith, is, had));
    reached = λ i e at had group from to. let is = low i (slice_get_within items i e at) in absurd (omega (arith, is, had));
    distinct = none_differ eq (held tags items) no_pairs;
    counted = sym (ap length no_pairs);
    room =
        let marks = no_marks tags (λ i below one. ⊎_elim
        (λ before. let is = are.empty i before in omega (arith, is, one))
        (λ past. let is = are.beyond i past below in omega (arith, is, one))
        (cases_lt i cells)) in
        omega (arith, room, long, marks);
  }

  pub new : New eq input tags items filled groups left
  new = record { cells = new_cells; empty = no_pairs }

pub limit_le : (cells : ℕ) → limit cells ≤ cells
limit_le cells = elim (nat_le cells 16) as (λ b. cond b cells (cells / 8 * 7) ≤ cells) [ true ↦ omega arith | false ↦ omega arith ]
