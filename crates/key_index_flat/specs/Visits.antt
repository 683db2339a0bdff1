-- What a batch of keys visits. A probe is the index key of a key of the batch, with the key's place in it, from 0.
--     IsBatch            an iterator may be asked for its next item, and gives at most `usize::MAX` items
--     probes_from        the probes of keys, where the first has the place n
--     ByPlace            an order of probes: by place
--     ByKey              by index key, and then by place
--     InAnyOrder         any order
--     AreProbes          the probes of the items that an iterator gives, up to its end, in an order
--     visits_of          the place of each probe with each value of the list at its index key, in order
--     VisitsAt           one call of a closure, at a place and a value
--     Visits             a closure is called once on each visit of a batch, in an order of its probes
--     Visited            the same, and that leaves it so
use Rattle.std.specs.Prelude.{◌≡◌, ℕ, ◌+◌, ◌-◌, ◌^◌, List, [], ◌∷◌, ◌++◌, map}
use Rattle.std.specs.Borrow.{Bor}
use Rattle.std.specs.Fn.{Mut, Called}
use Rattle.std.specs.Iterator.{Drains, UpTo}
use Rattle.std.specs.List.{FoldsTo}
use Rattle.std.specs.List.Sorted.{IsPermutation, IsSorted}
use Rattle.std.specs.Ordering.{nat_cmp, ordering_then}
use Rattle.std.specs.declared.cmp.Ordering.{Ordering}
use Rattle.std.specs.declared.iter.Iterator.{Ghosts}
use Rattle.key_index_flat.specs.View.{View, run_at}

abbrev pub IsBatch : {S A : Type 0} → Ghosts S A → S → Type 0
IsBatch it keys = it.can_next keys × UpTo (it.remaining keys) (2 ^ 64 - 1)

abbrev pub probes_from : {K : Type 0} → (List ℕ → K) → ℕ → List (List ℕ) → List (K × ℕ)
probes_from slot n [] = []
probes_from slot n (b ∷ bs) = (slot b, n) ∷ probes_from slot (n + 1) bs

-- the orders: from the probes by place to the probes in that order
module _ {K : Type 0} (cmp : K → K → Ordering) (placed probes : List (K × ℕ)) where
  abbrev pub ByPlace : Type 0
  ByPlace = probes ≡ placed

  abbrev pub ByKey : Type 0
  ByKey = IsPermutation placed probes × IsSorted (λ p q. ordering_then (cmp p.0 q.0) (nat_cmp p.1 q.1)) probes

  abbrev pub InAnyOrder : Type 0
  InAnyOrder = IsPermutation placed probes

abbrev pub visits_of : {K V : Type 0} → (K → List V) → List (K × ℕ) → List (ℕ × V)
visits_of run [] = []
visits_of run (p ∷ ps) = map (λ v. (p.1, v)) (run p.0) ++ visits_of run ps

abbrev pub VisitsAt : {F V : Type 0} → Mut F (ℕ × (Bor V × Unit {0})) (Unit {0}) → F → ℕ × V → F → Type 0
VisitsAt {V = V} g f p last = (shown : Bor V) × (shown.now ≡ p.1) × Called g f (p.0, (shown, tt)) tt last

-- it: how an iterator goes on; bytes: those of an item
module _ {S A K V : Type 0} (order : (K → K → Ordering) → List (K × ℕ) → List (K × ℕ) → Type 0) (it : Ghosts S A)
    (bytes : A → List ℕ) (keys : S) (cmp : K → K → Ordering) (s : View K V) where
  abbrev pub AreProbes : List (K × ℕ) → Type 0
  AreProbes probes =
      (items : List A) × Drains it.next_gives keys items × order cmp (probes_from s.slot 0 (map bytes items)) probes

  module _ {F : Type 0} (g : Mut F (ℕ × (Bor V × Unit {0})) (Unit {0})) (f : F) where
    abbrev pub Visited : F → Type 0
    Visited last =
        (probes : List (K × ℕ)) × AreProbes probes × FoldsTo (VisitsAt g) f (visits_of (run_at cmp s) probes) last

    abbrev pub Visits : Type 0
    Visits = (last : F) × Visited last
