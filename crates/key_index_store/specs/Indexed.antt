-- An index of positions in a log. A position is live where the log has a complete record with a value.
--     entry_at, key_at      the key and the value of the record at a position
--     IsLive, IsUnder       a position is live;  and stands under the index key of its full key, which is bytes
--     IsLatest              no later record has the key of the one at a position
--     value_in              the value of the first record in a list of positions that has a key
--     IsPlace, IsIn         the place of a key in a list, by the entries of its positions;  it is there, or may be put in there
--     IsRun                 a list of live positions in the order of their keys
--     key_read, HasKeys     the key of the record at a position, where it reads;  the keys that these give of a log's first bytes
--     IsFront, is_at        bytes that were given of the front of the record at a position;  at this one
--     IsHiddenIn            the place of a key in a list isn't known: damaged records stand where it stands or would stand
--     HasRuns               so is each list of an index, where not all records are kept, and no record is damaged
--     Indexes               the log is complete records, and the index has the position of each key's newest one that has a value, once,
--                           under the index key of the key, where the positions stand in the order of their keys
--     IsTail                what a store knows of the bytes behind the records: after a write that failed, where a torn one may stand,
--                           nothing may
--     Keeps                 what a store keeps of its log: where the complete records end, what stands behind them, and the index of them
--     Settles               after the position of a key's newest record was filed: in the place of the older one, or as a new one
--     KeepsLists            no list is another
use Rattle.std.specs.Prelude.{◌≡◌, ◌==◌, ◌≤◌, ◌<◌, T, ℕ, Bool, true, false, List, [], ◌∷◌, ◌++◌, map, length, drop, take, insert, remove, slice_set, Option, Some, None, is_some, unwrap_or, All}
use Rattle.std.specs.FinMap.{find, get, is_sorted, len}
use Rattle.std.specs.declared.cmp.Ordering.{Ordering}
use Rattle.key_index_flat.specs.FullKeys.{IsBytes, byte_cmp}
use Rattle.key_index_flat.specs.Places as places
use Rattle.key_index_flat.specs.View.{View, items_in, run_at, run_of, with_edit, with_pruned}
use Rattle.key_index_store.specs.Salvage.{has_key}
use Rattle.key_index_store.specs.Record.{Entry, Fits, Outcome, Complete, Torn, Damaged, Stops, bytes_of, key_in, log_of, reading}
use Rattle.key_index_store.specs.Stored.{held_by, records_of, tail_of}
use Rattle.key_index_store.specs.Device.{Gives, IsUndamaged}
use Rattle.key_index_store.specs.declared.store.find.Front.{Front}
use Rattle.key_index_store.specs.declared.store.Tail.{Tail}
use Rattle.key_index_store.specs.declared.store.Tail.TheVariants as tail

abbrev pub parts_of : Outcome → List ℕ × List ℕ
parts_of (Complete r) = (r.key, bytes_of r.value)
parts_of Torn = ([], [])
parts_of Damaged = ([], [])

abbrev pub IsPlace : (ℕ → List ℕ × List ℕ) → List ℕ → List ℕ → ℕ → Bool → Type 0
IsPlace entry key ps place is_held = places.IsPlace (λ p. (entry p).0) key ps place is_held

abbrev pub IsHiddenIn : (ℕ → Type 0) → (ℕ → List ℕ × List ℕ) → List ℕ → List ℕ → ℕ → Type 0
IsHiddenIn damaged entry key ps place = places.IsHiddenIn (λ p. (entry p).0) damaged key ps place

abbrev pub IsIn : List ℕ → ℕ → Bool → Type 0
IsIn ps place true = place < length ps
IsIn ps place false = place ≤ length ps

module _ (log : List ℕ) where
  abbrev pub entry_at : ℕ → List ℕ × List ℕ
  entry_at p = parts_of (reading p (drop p log))

  abbrev pub key_at : ℕ → List ℕ
  key_at p = (entry_at p).0

  abbrev pub key_read : ℕ → List ℕ
  key_read p = unwrap_or (key_in p (drop p log)) []

  abbrev pub IsLive : ℕ → Type 0
  IsLive p = reading p (drop p log) ≡ Complete (record { key = (entry_at p).0; value = Some ((entry_at p).1) })

  abbrev pub IsUnder : {K : Type 0} → (List ℕ → K) → K → ℕ → Type 0
  IsUnder slot k p = IsLive p × IsBytes (key_at p) × (slot (key_at p) ≡ k)

  abbrev pub value_in : List ℕ → List ℕ → Option (List ℕ)
  value_in key ps = find byte_cmp key (map entry_at ps)

  -- live, in the order of their keys, each of which is there once
  abbrev pub IsRun : List ℕ → Type 0
  IsRun ps = All IsLive ps × T (is_sorted byte_cmp (map entry_at ps))

  abbrev pub IsFront : (ℕ → Type 0) → Front → Type 0
  IsFront damaged f = Gives damaged f.position (take (length f.bytes.items) (drop f.position log)) f.bytes.items

  -- the place of a record that has a value, and whose key no later one has
  pub record IsLatest (p : ℕ) : Type 0 where
    pub before : List Entry
    pub here : Entry
    pub after : List Entry
    pub split : records_of log ≡ before ++ here ∷ after
    pub place : p ≡ length (log_of before)
    pub key : key_at p ≡ here.key
    pub valued : is_some here.value ≡ true
    pub last : has_key here.key after ≡ false

abbrev pub HasKeys : Option (List ℕ) → ℕ → (ℕ → List ℕ) → Type 0
HasKeys seen end keys = (log : List ℕ) × (seen ≡ Some log) × (end ≤ length log) × (keys ≡ key_read (take end log))

abbrev pub is_at : Option Front → ℕ → Bool
is_at None place = false
is_at (Some f) place = f.position == place

abbrev pub IsTail : Tail → ℕ → List ℕ → Type 0
IsTail tail.Nothing place rest = rest ≡ []
IsTail tail.Torn place rest = ¬ (tail_of place rest ≡ tail.Damaged)
IsTail tail.Damaged place rest = tail_of place rest ≡ tail.Damaged

module _ {K : Type 0} (cmp : K → K → Ordering) where
  pub record Indexes (log : List ℕ) (s : View K ℕ) : Type 0 where
    pub spelled : log_of (records_of log) ≡ log
    pub fit : All Fits (records_of log)
    pub live : (k : K) → All (IsUnder log s.slot k) (run_at cmp s k)
    pub sorted : (k : K) → T (is_sorted byte_cmp (map (entry_at log) (run_at cmp s k)))
    pub latest : (k : K) → All (IsLatest log) (run_at cmp s k)
    pub found : (key : List ℕ) → value_in log key (run_of cmp s key) ≡ get (held_by log) key
    pub counted : items_in s ≡ len (held_by log)

  abbrev pub HasRuns : View K ℕ → (ℕ → Type 0) → Bool → List ℕ → Type 0
  HasRuns s damaged is_all log = is_all ≡ false → IsUndamaged damaged × ((key : List ℕ) → IsRun log (run_of cmp s key))

  pub record Keeps (log : List ℕ) (s : View K ℕ) (end : ℕ) (tail : Tail) : Type 0 where
    pub within : end ≤ length log
    pub indexed : Indexes (take end log) s
    pub stops : Stops (reading end (drop end log))
    pub told : IsTail tail end (drop end log)

  -- has_value: the record is no deletion; is_held: the key stands at the place
  abbrev pub Settles : View K ℕ → List ℕ → Bool → Bool → ℕ → ℕ → View K ℕ → Type 0
  Settles s key true true place position t = t ≡ with_edit cmp s (s.slot key) (λ l. slice_set l place position)
  Settles s key true false place position t = t ≡ with_edit cmp s (s.slot key) (λ l. insert l place position)
  Settles s key false true place position t = t ≡ with_pruned (with_edit cmp s (s.slot key) (λ l. remove l place)) 1
  Settles s key false false place position t = t ≡ s

abbrev pub KeepsLists : {K : Type 0} → View K ℕ → View K ℕ → Type 0
KeepsLists s t = (t.content ≡ s.content) × (t.slot ≡ s.slot)
