-- What a batch that looks ahead tells. A probe is an index key with the place of its key in the batch.
--     Event                   a list was found, with its length, or a value of one is visited; both with the place of the key
--     found_at, visits_at     the events of one list
--     events_from             those from a probe on, whose list was found before: behind the finding of a later one, its visits
--     events_of               four lists are found ahead of the one that is visited
--     visits_in               the visits among events
--     SameVisits              those of a batch are the visits of one that finds each list where it visits it
--     TellsAt                 one call of a closure, at an event
--     Tells                   a closure is called once on each event of a batch, by index key and then by place
--     Told                    the same, and that leaves it so
use Rattle.std.specs.Prelude.{◌≡◌, ℕ, List, [], ◌∷◌, ◌++◌, map, length, take, drop}
use Rattle.std.specs.Borrow.{Bor}
use Rattle.std.specs.Fn.{Mut, Called}
use Rattle.std.specs.List.{FoldsTo}
use Rattle.std.specs.declared.cmp.Ordering.{Ordering}
use Rattle.std.specs.declared.iter.Iterator.{Ghosts}
use Rattle.key_index_flat.specs.View.{View, run_at}
use Rattle.key_index_flat.specs.Visits.{AreProbes, ByKey, visits_of}
use Rattle.key_index_parts.specs.declared.index.partitioned.ordered.ahead.Ahead.{Ahead}
use Rattle.key_index_parts.specs.declared.index.partitioned.ordered.ahead.Ahead.TheVariants as ahead

pub data Event (V : Type 0) : Type 0 where
  Found : ℕ → ℕ → Event V
  Visit : ℕ → V → Event V

abbrev pub visits_at : {V : Type 0} → ℕ → List V → List (Event V)
visits_at place values = map (λ v. Visit place v) values

abbrev pub visits_in : {V : Type 0} → List (Event V) → List (ℕ × V)
visits_in [] = []
visits_in (Found place len ∷ events) = visits_in events
visits_in (Visit place value ∷ events) = (place, value) ∷ visits_in events

module _ {K V : Type 0} (run : K → List V) where
  abbrev pub found_at : K × ℕ → Event V
  found_at probe = Found probe.1 (length (run probe.0))

  abbrev pub events_from : List (K × ℕ) → List (K × ℕ) → List (Event V)
  events_from later [] = []
  events_from later (p ∷ ps) = map found_at (take 1 later) ++ visits_at p.1 (run p.0) ++ events_from (drop 1 later) ps

  abbrev pub events_of : List (K × ℕ) → List (Event V)
  events_of probes = map found_at (take 4 probes) ++ events_from (drop 4 probes) probes

abbrev pub SameVisits : Type 0 → Type 0 → Type 0
SameVisits K V = (run : K → List V) (probes : List (K × ℕ)) → visits_in (events_of run probes) ≡ visits_of run probes

abbrev pub TellsAt : {F V : Type 0} → Mut F (Ahead V × Unit {0}) (Unit {0}) → F → Event V → F → Type 0
TellsAt g f (Found place len) last = Called g f (ahead.Found place len, tt) tt last
TellsAt {V = V} g f (Visit place value) last =
    (shown : Bor V) × (shown.now ≡ value) × Called g f (ahead.Visit place shown, tt) tt last

-- it: how an iterator goes on; bytes: those of an item
module _ {S A K V F : Type 0} (it : Ghosts S A) (bytes : A → List ℕ) (keys : S) (cmp : K → K → Ordering) (s : View K V)
    (g : Mut F (Ahead V × Unit {0}) (Unit {0})) (f : F) where
  abbrev pub Told : F → Type 0
  Told last =
      (probes : List (K × ℕ)) × AreProbes ByKey it bytes keys cmp s probes
      × FoldsTo (TellsAt g) f (events_of (run_at cmp s) probes) last

  abbrev pub Tells : Type 0
  Tells = (last : F) × Told last
