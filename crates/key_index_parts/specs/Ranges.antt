-- Ranges that ops fill, and ranges that are installed one after another.
--     number_of                the partition of a key's bytes
--     empty_view               the view of a range in which nothing was ever held
--     IsFilled, AreFilled      a range from a up to b holds what the ops within make of no content; each range between two neighbouring
--                              cuts does
--     installed, CanInstall    what the ranges in turn leave of a view, and that each finds its partitions empty
--     filled_by, built_upto    what the ops make of a view whose partition is between the cut n and the next one, and of those below it
--     FillsUp                  the range that an op goes to holds the greatest `usize` of values after the ops before it, and some of
--                              its steps
--     RefusesFilling, RefusesInstalling     why a build is refused while ranges are filled, and while they are installed, and what it
--                              leaves
--     RefusesBuild             either of the two
use Rattle.std.specs.Prelude.{◌≡◌, ◌⊎◌, ℕ, ◌+◌, ◌-◌, ◌^◌, ◌<◌, Bool, IsTrue, List, [], ◌∷◌, ◌++◌, length, take, slice_index, Some}
use Rattle.std.specs.List.{slice_get}
use Rattle.std.specs.declared.cmp.Ordering.{Ordering}
use Rattle.key_index_flat.specs.declared.index.Fault.{Fault}
use Rattle.key_index_flat.specs.declared.index.Fault.TheVariants.{Memory, Full}
use Rattle.key_index_flat.specs.View.{View, items_in}
use Rattle.key_index_parts.specs.declared.index.partitioned.builds.op.Op.{Op}
use Rattle.key_index_parts.specs.Joined.{joined_view, IsFree, is_between, install_fault}
use Rattle.key_index_parts.specs.Ops.{op_key, after_ops, after_begun, ops_within, ops_below}

abbrev pub number_of : {K : Type 0} → (K → ℕ) → (List ℕ → K) → List ℕ → ℕ
number_of partition slot b = partition (slot b)

abbrev pub empty_view : {K V : Type 0} → (List ℕ → K) → (K → Bool) → View K V
empty_view slot admitted = record { content = []; pruned = 0; slot = slot; admitted = admitted }

module _ {R K V : Type 0} (cmp : K → K → Ordering) (first : Bool) (view : R → View K V) (slot : List ℕ → K)
    (partition : K → ℕ) where
  pub record IsFilled (ops : List (Op V)) (a b : ℕ) (range : R) : Type 0 where
    pub holds : view range
        ≡ after_ops cmp first (ops_within (number_of partition slot) a b ops)
        (empty_view slot (λ k. is_between a b (partition k)))

  pub record AreFilled (ops : List (Op V)) (cuts : List ℕ) (ranges : List R) : Type 0 where
    pub long : length ranges + 1 ≡ length cuts
    pub each : (i : ℕ) (range : R) → slice_get ranges i ≡ Some range
        → IsFilled ops (slice_index cuts i) (slice_index cuts (i + 1)) range

module _ {R K V : Type 0} (cmp : K → K → Ordering) (view : R → View K V) where
  abbrev pub installed : List R → View K V → View K V
  installed [] s = s
  installed (r ∷ rs) s = installed rs (joined_view cmp s (view r))

  abbrev pub CanInstall : List R → View K V → Type 0
  CanInstall [] s = Unit {0}
  CanInstall (r ∷ rs) s = IsFree cmp (view r).admitted s.content × CanInstall rs (joined_view cmp s (view r))

  -- the ranges before one are installed, and that one is refused
  pub record StopsAt (ranges : List R) (before after : View K V) (fault : Fault) : Type 0 where
    pub count : ℕ
    pub refused : R
    pub found : slice_get ranges count ≡ Some refused
    pub left : after ≡ installed (take count ranges) before
    pub why : fault ≡ install_fault (items_in after) (items_in (view refused))

-- before: the view of an index before a build from ops between cuts; first: whether a new value goes in front
module _ {K V : Type 0} (cmp : K → K → Ordering) (first : Bool) (partition : K → ℕ) (cuts : List ℕ) (ops : List (Op V))
    (before : View K V) where
  abbrev pub filled_by : ℕ → List (Op V) → View K V
  filled_by n xs =
      let number = number_of partition before.slot in
      after_ops cmp first (ops_within number (slice_index cuts n) (slice_index cuts (n + 1)) xs) before

  abbrev pub built_upto : ℕ → View K V
  built_upto n = after_ops cmp first (ops_below (number_of partition before.slot) (slice_index cuts n) ops) before

  pub record FillsUp : Type 0 where
    pub done : List (Op V)
    pub next : Op V
    pub rest : List (Op V)
    pub steps : ℕ
    pub place : ℕ
    pub split : done ++ next ∷ rest ≡ ops
    pub among : place + 1 < length cuts
    pub goes : IsTrue (is_between (slice_index cuts place) (slice_index cuts (place + 1))
        (number_of partition before.slot (op_key next)))
    pub full : items_in (after_begun cmp steps next (filled_by place done)) ≡ 2 ^ 64 - 1

  abbrev pub IsFillingFault : Fault → Type 0
  IsFillingFault fault = (fault ≡ Memory) ⊎ ((fault ≡ Full) × FillsUp)

  abbrev pub RefusesFilling : View K V → Fault → Type 0
  RefusesFilling after fault = (after ≡ before) × IsFillingFault fault

  abbrev pub RefusesInstalling : View K V → Fault → Type 0
  RefusesInstalling after fault =
      (n : ℕ) × (n + 1 < length cuts) × (after ≡ built_upto n)
      × (fault ≡ install_fault (items_in (built_upto n)) (items_in (filled_by n ops)))

  abbrev pub RefusesBuild : View K V → Fault → Type 0
  RefusesBuild after fault = RefusesFilling after fault ⊎ RefusesInstalling after fault
