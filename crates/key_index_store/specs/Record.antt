-- A record of a log, and its bytes.
--     Entry, Fits            a key with its value, or with none, which marks its deletion; lengths that have four bytes
--     summed                 bytes with a checksum behind them
--     sum_at                 a head's checksum, which goes over its place in the log too: the number of bytes in front of it
--     encoded                a record's bytes at a place: head (mark and two lengths), key and value, each with its checksum
--     size_of                how many they are
--     log_of                 the bytes of records, one behind the other
--     Outcome                what reading finds: a complete record, a torn one, or a damaged one
--     key_in, value_in_record  the key and the value at the front of some bytes, where they have their checksums
--     reading, IsFound       what stands at the front of some bytes, which stand at a place;  a complete record does
use Rattle.std.specs.Prelude.{◌≡◌, ℕ, zero, suc, ◌+◌, ◌^◌, ◌<◌, ◌≤◌, Bool, nat_lt, if◌then◌else◌, List, [], ◌∷◌, ◌++◌, length, take, drop, Option, Some, None, option_map}
use Rattle.std.specs.Int.{w32, w64, to_le_bytes, from_le_bytes}
use Rattle.std.specs.Str.{bytes_eq}
use Rattle.key_index_store.specs.Checksum.{crc32}
use Rattle.key_index_store.specs.declared.record.Record.{Record}
use Rattle.key_index_store.specs.declared.record.Reading.{Reading}
use Rattle.key_index_store.specs.declared.record.Reading.TheVariants as read

pub record Entry : Type 0 where
  pub key : List ℕ
  pub value : Option (List ℕ)

abbrev pub mark_of : Option (List ℕ) → ℕ
mark_of None = 2
mark_of (Some v) = 1

abbrev pub bytes_of : Option (List ℕ) → List ℕ
bytes_of None = []
bytes_of (Some v) = v

pub record Fits (r : Entry) : Type 0 where
  pub key : length r.key < 2 ^ 32
  pub value : length (bytes_of r.value) < 2 ^ 32

-- four bytes, the lowest first
abbrev pub number : ℕ → List ℕ
number n = to_le_bytes w32 n

abbrev pub summed : (List ℕ → ℕ) → List ℕ → List ℕ
summed sum part = part ++ number (sum part)

abbrev pub sum_at : ℕ → List ℕ → ℕ
sum_at place head = crc32 (head ++ to_le_bytes w64 place)

abbrev pub head : Entry → List ℕ
head r = mark_of r.value ∷ (number (length r.key) ++ number (length (bytes_of r.value)))

abbrev pub encoded : ℕ → Entry → List ℕ
encoded place r = summed (sum_at place) (head r) ++ (summed crc32 r.key ++ summed crc32 (bytes_of r.value))

abbrev pub size_of : Entry → ℕ
size_of r = 21 + (length r.key + length (bytes_of r.value))

-- the first one at a place
abbrev pub encoded_from : ℕ → List Entry → List ℕ
encoded_from place [] = []
encoded_from place (r ∷ rs) = encoded place r ++ encoded_from (place + size_of r) rs

abbrev pub log_of : List Entry → List ℕ
log_of rs = encoded_from 0 rs

-- ---- reading

pub data Outcome : Type 0 where
  Complete : Entry → Outcome
  Torn : Outcome
  Damaged : Outcome

abbrev pub number_at : ℕ → List ℕ → ℕ
number_at place bytes = from_le_bytes w32 (take 4 (drop place bytes))

-- n bytes have their checksum behind them
abbrev pub is_summed : (List ℕ → ℕ) → ℕ → List ℕ → Bool
is_summed sum n bytes = bytes_eq (take 4 (drop n bytes)) (number (sum (take n bytes)))

abbrev pub has_head : ℕ → List ℕ → Bool
has_head place bytes = is_summed (sum_at place) 9 bytes

-- the first n bytes, if they have their checksum behind them
abbrev pub part : ℕ → List ℕ → Option (List ℕ)
part n bytes = if is_summed crc32 n bytes then Some (take n bytes) else None

-- by the lengths in a head
abbrev pub key_length : List ℕ → ℕ
key_length bytes = number_at 1 bytes

abbrev pub value_place : List ℕ → ℕ
value_place bytes = 17 + key_length bytes

abbrev pub record_length : List ℕ → ℕ
record_length bytes = 21 + (key_length bytes + number_at 5 bytes)

abbrev pub key_in : ℕ → List ℕ → Option (List ℕ)
key_in place bytes = if has_head place bytes then part (key_length bytes) (drop 13 bytes) else None

abbrev pub value_in_record : List ℕ → Option (List ℕ)
value_in_record bytes = part (number_at 5 bytes) (drop (value_place bytes) bytes)

-- by a mark, a key and a value
abbrev pub marked : List ℕ → List ℕ → List ℕ → Outcome
marked (suc zero ∷ rest) key value = Complete (record { key = key; value = Some value })
marked (suc (suc zero) ∷ rest) key [] = Complete (record { key = key; value = None })
marked head key value = Damaged

-- where a whole record's bytes stand, by its key and its value
abbrev pub fields_of : List ℕ → Option (List ℕ) → Option (List ℕ) → Outcome
fields_of bytes None value = Damaged
fields_of bytes (Some key) None = Damaged
fields_of bytes (Some key) (Some value) = marked bytes key value

-- behind a good head: fewer bytes than it says, or as many
abbrev pub behind_head : List ℕ → Outcome
behind_head bytes =
    if nat_lt (length bytes) (record_length bytes) then Torn
    else fields_of bytes (part (key_length bytes) (drop 13 bytes)) (value_in_record bytes)

abbrev pub reading : ℕ → List ℕ → Outcome
reading place bytes =
    if nat_lt (length bytes) 13 then Torn else if has_head place bytes then behind_head bytes else Damaged

-- what is read was encoded: it stands at the front of the bytes
abbrev pub IsFound : ℕ → List ℕ → Outcome → Type 0
IsFound place bytes (Complete r) = Fits r × (bytes ≡ encoded place r ++ drop (size_of r) bytes)
IsFound place bytes Torn = Unit {0}
IsFound place bytes Damaged = Unit {0}

-- no complete record stands there
abbrev pub Stops : Outcome → Type 0
Stops (Complete r) = ⊥
Stops Torn = Unit {0}
Stops Damaged = Unit {0}

-- a complete record takes no more than n bytes
abbrev pub IsWithin : ℕ → Outcome → Type 0
IsWithin n (Complete r) = Fits r × (size_of r ≤ n)
IsWithin n Torn = Unit {0}
IsWithin n Damaged = Unit {0}

-- ---- the code's records as entries

abbrev pub entry_of : Record → Entry
entry_of r = record { key = r.key.now; value = option_map (λ v. v.now) r.value }

abbrev pub outcome_of : Reading → Outcome
outcome_of (read.Complete r) = Complete (entry_of r)
outcome_of read.Torn = Torn
outcome_of read.Damaged = Damaged
