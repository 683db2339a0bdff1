-- On groups of sixteen tags, joined.
--     joined_length, joined_at, joined_set    how many there are, the tag of a place, and with another tag at a place
--     all_empty                               every tag is that of an empty cell
--     shown_length, shown_in, shown_set       the same of what a table's tags show
--     still_groups                            the groups after another tag
--     new_groups                              groups of empty cells
use Rattle.std.proofs.Common.{◌≡◌, ℕ, zero, suc, ◌+◌, ◌*◌, ◌-◌, ◌<◌, Bool, List, [], ◌∷◌, ◌++◌, length, replicate, get_or, Some, slice_get, slice_set, slice_index, slice_index_or, true, false, refl, sym, ap, ◌∙◌, ⊎_elim, arith}
use Rattle.std.specs.List.{concat}
use Rattle.std.proofs.lemmas.Bool.{cases_lt}
use Rattle.std.proofs.lemmas.List.{length-set, get_or_append_left, get_or-append_right, set-append_left, set-append_right, length-append}
use Rattle.std.proofs.lemmas.Option.{slice_get_read, slice_get_within}
use Rattle.key_index_map.specs.Tags.{AreGroups}
use Rattle.key_index_map.proofs.Places.{at_set}

-- each group has sixteen
abbrev AreSixteen : List (List ℕ) → Type 0
AreSixteen groups = (i : ℕ) (tags : List ℕ) → slice_get groups i ≡ Some tags → length tags ≡ 16

joined_length : (groups : List (List ℕ)) → AreSixteen groups → length (concat groups) ≡ 16 * length groups
joined_length [] are = refl
joined_length (group ∷ groups) are =
    let first = are 0 group refl in
    let others = joined_length groups (λ i. are (suc i)) in
    omega (arith, length-append group (concat groups), first, others)

joined_at : (groups : List (List ℕ)) → AreSixteen groups → (g i place : ℕ) (tags : List ℕ) → place ≡ 16 * g + i → slice_get groups g ≡ Some tags → i < 16 → slice_index (concat groups) place ≡ slice_index tags i
joined_at [] are g i place tags is at below = cc
joined_at (group ∷ groups) are zero i place tags is at below =
    let same : group ≡ tags = cc in
    let long = are 0 group refl in
    let first : place ≡ i = omega (arith, is) in
    ap (λ n. slice_index (group ++ concat groups) n) first ∙ get_or_append_left group (concat groups) 0 i (omega (arith, long, below)) ∙ ap (λ l. slice_index l i) same
joined_at (group ∷ groups) are (suc g) i place tags is at below =
    get_or-append_right group (concat groups) 16 place 0 (are 0 group refl) (omega (arith, is))
    ∙ joined_at groups (λ n. are (suc n)) g i (place - 16) tags (omega (arith, is)) at below

joined_set : (groups : List (List ℕ)) → AreSixteen groups → (g i place t : ℕ) (tags : List ℕ) → place ≡ 16 * g + i → slice_get groups g ≡ Some tags → i < 16 → concat (slice_set groups g (slice_set tags i t)) ≡ slice_set (concat groups) place t
joined_set [] are g i place t tags is at below = cc
joined_set (group ∷ groups) are zero i place t tags is at below =
    let same : group ≡ tags = cc in
    let long = are 0 group refl in
    let first : i ≡ place = omega (arith, is) in
    ap (λ l. slice_set l i t ++ concat groups) (sym same) ∙ sym (set-append_left group (concat groups) i t (omega (arith, long, below)))
    ∙ ap (λ n. slice_set (group ++ concat groups) n t) first
joined_set (group ∷ groups) are (suc g) i place t tags is at below =
    ap (λ l. group ++ l) (joined_set groups (λ n. are (suc n)) g i (place - 16) t tags (omega (arith, is)) at below)
    ∙ sym (set-append_right group (concat groups) 16 place t (are 0 group refl) (omega (arith, is)))

zero_at : (n j : ℕ) → slice_index (replicate n 0) j ≡ 0
zero_at zero j = refl
zero_at (suc n) zero = refl
zero_at (suc n) (suc j) = zero_at n j

-- groups of empty cells
abbrev pub AreZeros : List (List ℕ) → ℕ → Type 0
AreZeros groups n = (i : ℕ) (tags : List ℕ) → i < n → slice_get groups i ≡ Some tags → tags ≡ replicate 16 0

pub all_empty : (groups : List (List ℕ)) → AreZeros groups (length groups) → (place : ℕ) → slice_index (concat groups) place ≡ 0
all_empty [] are place = refl
all_empty (group ∷ groups) are place =
    let first : group ≡ replicate 16 0 = are 0 group (omega arith) refl in
    let long = ap length first in
    ⊎_elim
    (λ below. get_or_append_left group (concat groups) 0 place below ∙ ap (λ l. slice_index l place) first ∙ zero_at 16 place)
    (λ past. get_or-append_right group (concat groups) (length group) place 0 refl past
    ∙ all_empty groups (λ i tags below at. are (suc i) tags (omega (arith, below)) at) (place - length group))
    (cases_lt place (length group))

pub new_groups : (groups : List (List ℕ)) (filled : List Bool) → AreZeros groups (length groups) → ((i : ℕ) → i < length groups → slice_index_or filled i false ≡ true) → AreGroups groups filled
new_groups groups filled are full = record { sixteen = λ i tags at. ap length (are i tags (slice_get_within groups i tags at) at); full = full }

module _ (groups : List (List ℕ)) (filled : List Bool) (are : AreGroups groups filled) (now : List ℕ) (view : concat groups ≡ now) where
  pub shown_length : length now ≡ 16 * length groups
  shown_length = ap length (sym view) ∙ joined_length groups are.sixteen

  -- the tags of a group
  module _ (g : ℕ) (below : g < length groups) (tags : List ℕ) (read : tags ≡ get_or groups g tags) (i place : ℕ) (within : i < 16) (is : place ≡ 16 * g + i) where
    group_at : slice_get groups g ≡ Some tags
    group_at = slice_get_read groups (length groups) g tags refl below read

    pub shown_in : slice_index now place ≡ slice_index tags i
    shown_in = ap (λ l. slice_index l place) (sym view) ∙ joined_at groups are.sixteen g i place tags is group_at within

    pub shown_set : (t : ℕ) → concat (slice_set groups g (slice_set tags i t)) ≡ slice_set now place t
    shown_set t = joined_set groups are.sixteen g i place t tags is group_at within ∙ ap (λ l. slice_set l place t) view

    pub still_groups : (t : ℕ) → AreGroups (slice_set groups g (slice_set tags i t)) filled
    still_groups t = record {
      sixteen = λ j x there.
          at_set groups g j (slice_set tags i t) x there
          (λ _ same. ap length (sym same) ∙ length-set tags i t ∙ are.sixteen g tags group_at)
          (λ _ at. are.sixteen j x at);
      full = λ j inside. let long = length-set groups g (slice_set tags i t) in are.full j (omega (arith, inside, long));
    }
