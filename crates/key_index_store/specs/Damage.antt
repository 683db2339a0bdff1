-- What damaged records hide: those of which other bytes were given than the log has, since it was opened.
--     HidesIn        a key in a log without a tail: its own record is damaged, if it has one, and if it has none, another one that has a value
--     Hides          the same of any log
--     IsDamagedAt    the record of an entry is damaged
--     MayMiss        why a look-up of a key may be refused
--     MayMissAt      why a read of an entry may be
--     beyond         the entries above a key, or from it on
--     Passes         of entries that were looked through, those beyond a key are those of the records that were passed, and what is left of
--                    them, the first of which is given
use Rattle.std.specs.Prelude.{◌≡◌, ◌⊎◌, ℕ, Bool, if◌then◌else◌, List, ◌++◌, map, Option, Some}
use Rattle.key_index_flat.specs.FullKeys.{byte_cmp}
use Rattle.key_index_flat.specs.Neighbours.{entries_above, first_entry}
use Rattle.key_index_flat.specs.Walk.{entries_from}
use Rattle.key_index_store.specs.Indexed.{IsLatest, entry_at, key_at}
use Rattle.key_index_store.specs.Stored.{MayRead, in_bytes, without_tail}
use Rattle.key_index_store.specs.declared.store.Fault.{Fault}
use Rattle.key_index_store.specs.declared.store.Fault.TheVariants as fault
use Rattle.key_index_store.specs.declared.store.neighbours.Passed.{Passed}

module _ (damaged : ℕ → Type 0) where
  pub record HidesIn (log key : List ℕ) : Type 0 where
    pub own : (place : ℕ) → IsLatest log place → key_at log place ≡ key → damaged place
    pub some : ℕ
    pub latest : IsLatest log some
    pub unread : damaged some

  abbrev pub Hides : List ℕ → List ℕ → Type 0
  Hides log key = HidesIn (without_tail log) key

  abbrev pub IsDamagedAt : List ℕ → Option (List ℕ × List ℕ) → Type 0
  IsDamagedAt log o = (place : ℕ) × damaged place × (o ≡ Some (entry_at (without_tail log) place))

  abbrev pub MayMiss : List ℕ → List ℕ → Fault → Type 0
  MayMiss log key f = MayRead f ⊎ ((f ≡ fault.Damaged) × Hides log key)

  abbrev pub MayMissAt : List ℕ → Option (List ℕ × List ℕ) → Fault → Type 0
  MayMissAt log o f = MayRead f ⊎ ((f ≡ fault.Damaged) × IsDamagedAt log o)

-- those above a key, or with it where that is wanted
abbrev pub beyond : Bool → List ℕ → List (List ℕ × List ℕ) → List (List ℕ × List ℕ)
beyond is_above key es = if is_above then entries_above byte_cmp es key else entries_from byte_cmp es key

abbrev pub Passes : (ℕ → List ℕ × List ℕ) → Bool → List ℕ → List (List ℕ × List ℕ) → Passed → Type 0
Passes entry is_above key es p = (rest : List (List ℕ × List ℕ))
    × (beyond is_above key es ≡ beyond is_above key (map (λ u. entry u.place) p.passed.items) ++ rest)
    × (in_bytes p.entry ≡ first_entry rest)
