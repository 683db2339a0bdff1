-- What a log stands for: the map that its complete records leave, up to the first place where none stands.
--     Values              a finite map from full keys to values, in the order of the keys' bytes
--     records_of          the complete records at the front of a log
--     held_by             the map that they leave, from the empty one on
--     end_of              how many bytes they take
--     entry_after, entry_before  the entry with the least key strictly above one, and with the greatest strictly below
--     gap_in              of a key without a value both of them
--     in_bytes            an entry that the code has
--     without_tail, with_record  without what stands behind the complete records;  and with one more record
--     IsBeforeOrAfter, LeavesBeforeOrAfter  a log of the same map as before a record was appended, or as after it;  what a crash leaves
--     IsRefused           after a call was refused that would have appended a record
--     MayRead, MayRefuse  why a call may be refused
--     MayOpen       why a log may not be opened
--     HasChanged, HasRefused  after a call that appends a record where one is wanted
--     tail_in             what stands behind the last complete record
use Rattle.std.specs.Prelude.{◌≡◌, ◌⊎◌, ◌+◌, ◌-◌, ◌^◌, ◌==◌, ◌&&◌, ◌||◌, ℕ, zero, suc, Bool, true, List, [], ◌∷◌, ◌++◌, length, take, drop, Option, Some, None, is_some, if◌then◌else◌, Vec}
use Rattle.std.specs.FinMap.{FinMap, empty, entries, get, insert, len, remove}
use Rattle.std.specs.List.{fold}
use Rattle.std.specs.Option.{option_map}
use Rattle.std.specs.declared.alloc.Global.{Global}
use Rattle.key_index_flat.specs.FullKeys.{byte_cmp}
use Rattle.key_index_flat.specs.Neighbours.{entries_above, entries_below, first_entry, last_entry}
use Rattle.key_index_flat.specs.declared.index.Fault as index
use Rattle.key_index_flat.specs.declared.index.Fault.TheVariants as index_fault
use Rattle.key_index_store.specs.Device.{Adds, IsBegun}
use Rattle.key_index_store.specs.declared.store.Fault.{Fault}
use Rattle.key_index_store.specs.declared.store.Fault.TheVariants as fault
use Rattle.key_index_store.specs.declared.store.Tail.{Tail}
use Rattle.key_index_store.specs.declared.store.Tail.TheVariants.{Nothing}
use Rattle.key_index_store.specs.declared.store.Tail.TheVariants as tail
use Rattle.key_index_store.specs.Record.{Entry, Fits, Outcome, Complete, Torn, Damaged, encoded, log_of, reading, size_of}

abbrev pub Values : Type 0
Values = FinMap byte_cmp (List ℕ)

-- a key with a value, or without one
abbrev pub with_value : Values → List ℕ → Option (List ℕ) → Values
with_value m key None = remove m key
with_value m key (Some value) = insert m key value

abbrev pub after_record : Values → Entry → Values
after_record m r = with_value m r.key r.value

-- by what stands at the front, and by the records behind it
abbrev pub first_and : (ℕ → List ℕ → List Entry) → ℕ → List ℕ → Outcome → List Entry
first_and records place bytes (Complete r) = r ∷ records (place + size_of r) (drop (size_of r) bytes)
first_and records place bytes Torn = []
first_and records place bytes Damaged = []

-- n of them at most, of bytes that stand at a place
unfoldable pub records_up_to : ℕ → ℕ → List ℕ → List Entry
records_up_to zero place bytes = []
records_up_to (suc n) place bytes = first_and (λ p rest. records_up_to n p rest) place bytes (reading place bytes)

abbrev pub records_of : List ℕ → List Entry
records_of log = records_up_to (length log) 0 log

abbrev pub held_by : List ℕ → Values
held_by log = fold after_record empty (records_of log)

abbrev pub end_of : List ℕ → ℕ
end_of log = length (log_of (records_of log))

abbrev pub entry_after : Values → List ℕ → Option (List ℕ × List ℕ)
entry_after m key = first_entry (entries_above byte_cmp (entries m) key)

abbrev pub entry_before : Values → List ℕ → Option (List ℕ × List ℕ)
entry_before m key = last_entry (entries_below byte_cmp (entries m) key)

abbrev pub gap_in : Values → List ℕ → Option (Option (List ℕ × List ℕ) × Option (List ℕ × List ℕ))
gap_in m key = if is_some (get m key) then None else Some (entry_before m key, entry_after m key)

abbrev pub in_bytes : Option (Vec ℕ Global × Vec ℕ Global) → Option (List ℕ × List ℕ)
in_bytes o = option_map (λ e. (e.0.items, e.1.items)) o

abbrev pub without_tail : List ℕ → List ℕ
without_tail log = take (end_of log) log

abbrev pub with_record : List ℕ → Entry → List ℕ
with_record log r = without_tail log ++ encoded (end_of log) r

-- the same map as before, or the one with the record
abbrev pub IsBeforeOrAfter : List ℕ → Entry → List ℕ → Type 0
IsBeforeOrAfter old r log = (held_by log ≡ held_by old) ⊎ (held_by log ≡ after_record (held_by old) r)

-- a crash leaves what it might have left before, or one of these
abbrev pub LeavesBeforeOrAfter : List ℕ → Entry → (Option (List ℕ) → Type 0) → (Option (List ℕ) → Type 0) → Type 0
LeavesBeforeOrAfter old r before after = Adds (IsBeforeOrAfter old r) before after

-- a crash leaves what it might have left before, or the same map
abbrev pub LeavesSame : List ℕ → (Option (List ℕ) → Type 0) → (Option (List ℕ) → Type 0) → Type 0
LeavesSame old before after = Adds (λ c. held_by c ≡ held_by old) before after

-- the records stay, and a part of the new one may stand behind them
abbrev pub IsRefused : List ℕ → Entry → List ℕ → Type 0
IsRefused old r new = (held_by new ≡ held_by old) × ((new ≡ old) ⊎ IsBegun (encoded (end_of old) r) (without_tail old) new)

-- the record of an entry
abbrev pub put_of : List ℕ × List ℕ → Entry
put_of e = record { key = e.0; value = Some e.1 }

-- ---- what stands behind the records

abbrev pub is_zeros : List ℕ → Bool
is_zeros [] = true
is_zeros (b ∷ bytes) = (b == 0) && is_zeros bytes

abbrev pub tail_by : Outcome → Tail
tail_by (Complete r) = Nothing
tail_by Torn = tail.Torn
tail_by Damaged = tail.Damaged

-- by the bytes behind them, which stand at a place
abbrev pub tail_of : ℕ → List ℕ → Tail
tail_of place [] = Nothing
tail_of place (b ∷ rest) = if is_zeros (b ∷ rest) then tail.Torn else tail_by (reading place (b ∷ rest))

abbrev pub tail_in : List ℕ → Tail
tail_in log = tail_of (end_of log) (drop (end_of log) log)

-- ---- why a call may be refused

-- what the index refused
abbrev pub refusal_of : index.Fault → Fault
refusal_of index_fault.Memory = fault.Memory
refusal_of index_fault.Full = fault.Full
refusal_of index_fault.TooFar = fault.Full

-- one that only reads
abbrev pub MayRead : Fault → Type 0
MayRead f = (f ≡ fault.Memory) ⊎ (f ≡ fault.ReadFailed)

-- one that reads records again while it opens a log, by the damage that was noted
abbrev pub MayOpen : (ℕ → Type 0) → Fault → Type 0
MayOpen damaged f = MayRead f ⊎ ((f ≡ fault.Damaged) × ((place : ℕ) × damaged place))

-- one that would append a record, by what hides a key. Each of the others may come at any time
abbrev pub MayRefuse : (List ℕ → List ℕ → Type 0) → List ℕ → Entry → Fault → Type 0
MayRefuse hides log r fault.TooLong = ¬ Fits r
MayRefuse hides log r fault.Damaged = (tail_in log ≡ tail.Damaged) ⊎ hides log r.key
MayRefuse hides log r fault.Full = (get (held_by log) r.key ≡ None) × (len (held_by log) ≡ 2 ^ 64 - 1)
MayRefuse hides log r fault.NotEmpty = ⊥
MayRefuse hides log r fault.Memory = Unit {0}
MayRefuse hides log r fault.ReadFailed = Unit {0}
MayRefuse hides log r fault.WriteFailed = Unit {0}

-- ---- a call that appends a record, or finds that none is wanted: had tells whether the key had a value

-- after room was made for a record
pub record HasRoom (old new : List ℕ) : Type 0 where
  pub cut : new ≡ without_tail old
  pub held : held_by new ≡ held_by old
  pub all : end_of new ≡ length new
  pub end : end_of old ≡ length new
  pub undamaged : ¬ (tail_in old ≡ tail.Damaged)

pub record HasChanged (old : List ℕ) (r : Entry) (had : Bool) (new : List ℕ) : Type 0 where
  pub held : held_by new ≡ after_record (held_by old) r
  pub was_there : had ≡ is_some (get (held_by old) r.key)
  pub logged : new ≡ (if is_some r.value || had then with_record old r else without_tail old)
  pub undamaged : ¬ (tail_in old ≡ tail.Damaged)

pub record HasRefused (hides : List ℕ → List ℕ → Type 0) (old : List ℕ) (r : Entry) (f : Fault) (new : List ℕ) :
    Type 0 where
  pub refused : IsRefused old r new
  pub fault : MayRefuse hides old r f
