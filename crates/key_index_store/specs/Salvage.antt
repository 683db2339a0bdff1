-- What a salvage copies of a log.
--     next_place    the place that is looked at behind one: behind the whole record where a head says how long it is, or a byte
--                   further on; the end where that is nearer
--     places_in     all of them, from the first byte on
--     salvaged      the records that stand there, in order
--     copied, keeps  those of them that are kept;  all, or those that an index has
--     one_if        a record, if it is kept
--     newest        of records one behind the other, those that leave the map: what a compaction copies
--     gaps_in       the bytes between them: where they stand, how many they are, and the key of the record that stood there,
--                   where its head and its key read
--     HaveHeads, places_of  bytes that have the heads of records which were written one behind the other;  where these were written
--     MaySalvage    why it may be refused, by the bytes of the log that was to be fresh
use Rattle.std.specs.Prelude.{◌≡◌, ◌==◌, ◌&&◌, ◌||◌, ℕ, zero, suc, ◌+◌, ◌-◌, ◌<◌, ◌++◌, Bool, not, is_some, min, List, [], ◌∷◌, length, take, drop, Option, Some, None, nat_lt, option_map, if◌then◌else◌}
use Rattle.std.specs.List.{filter, flat_map, list_any}
use Rattle.std.specs.Ordering.{eq_by_cmp}
use Rattle.std.specs.declared.cmp.Ordering.{Ordering}
use Rattle.key_index_flat.specs.FullKeys.{byte_cmp}
use Rattle.key_index_flat.specs.View.{View, run_of}
use Rattle.key_index_store.specs.declared.salvage.LeftOut.{LeftOut}
use Rattle.key_index_store.specs.declared.store.Fault.{Fault}
use Rattle.key_index_store.specs.declared.store.Fault.TheVariants as fault
use Rattle.key_index_store.specs.Device.{Sees}
use Rattle.key_index_store.specs.Record.{Entry, Fits, Outcome, Complete, Torn, Damaged, encoded, has_head, key_in, reading, record_length, size_of}

abbrev pub step : ℕ → List ℕ → ℕ
step place bytes = if has_head place bytes then record_length bytes else 1

abbrev pub next_place : List ℕ → ℕ → ℕ
next_place log place = min (place + step place (drop place log)) (length log)

-- n of them at most
unfoldable pub places_from : ℕ → List ℕ → ℕ → List ℕ
places_from zero log place = []
places_from (suc n) log place =
    if nat_lt place (length log) then place ∷ places_from n log (next_place log place) else []

abbrev pub places_in : List ℕ → List ℕ
places_in log = places_from (length log) log 0

abbrev pub found : Outcome → List Entry
found (Complete r) = r ∷ []
found Torn = []
found Damaged = []

-- at some places
abbrev pub found_at : List ℕ → List ℕ → List Entry
found_at log places = flat_map (λ place. found (reading place (drop place log))) places

abbrev pub salvaged : List ℕ → List Entry
salvaged log = found_at log (places_in log)

-- those of the records at a place that are kept, by the place and their keys
abbrev pub kept : (ℕ → List ℕ → Bool) → ℕ → List Entry → List Entry
kept keeps place rs = filter (λ r. keeps place r.key) rs

abbrev pub one_if : Bool → Entry → List Entry
one_if is_kept r = if is_kept then r ∷ [] else []

abbrev pub copied : (ℕ → List ℕ → Bool) → List ℕ → List Entry
copied keeps log = flat_map (λ place. kept keeps place (found (reading place (drop place log)))) (places_in log)

abbrev pub is_listed : ℕ → List ℕ → Bool
is_listed place positions = list_any (λ p. p == place) positions

-- all of them, or those whose positions an index has in the lists of their keys
abbrev pub keeps : {K : Type 0} → (K → K → Ordering) → View K ℕ → Bool → ℕ → List ℕ → Bool
keeps cmp s is_all place key = is_all || is_listed place (run_of cmp s key)

-- ---- what a compaction copies

abbrev pub has_key : List ℕ → List Entry → Bool
has_key key rs = list_any (λ r. eq_by_cmp byte_cmp key r.key) rs

-- the records that leave the map: they have a value, and no later one has their key
abbrev pub newest : List Entry → List Entry
newest [] = []
newest (r ∷ rs) = if is_some r.value && not (has_key r.key rs) then r ∷ newest rs else newest rs

pub record Gap : Type 0 where
  pub place : ℕ
  pub size : ℕ
  pub key : Option (List ℕ)

-- from one place to another
abbrev pub unknown : ℕ → ℕ → List Gap
unknown since place =
    if nat_lt since place then record { place = since; size = place - since; key = None } ∷ [] else []

-- at a place and behind it, by the record that is found there, and by its key; from `since` on nothing was told yet
abbrev pub gaps_at : ℕ → ℕ → ℕ → List Entry → Option (List ℕ) → (ℕ → List Gap) → List Gap
gaps_at since place next (r ∷ rs) key behind = unknown since place ++ behind next
gaps_at since place next [] (Some key) behind =
    unknown since place ++ (record { place = place; size = next - place; key = Some key } ∷ behind next)
gaps_at since place next [] None behind = behind since

-- at some places
abbrev pub gaps_from : List ℕ → ℕ → List ℕ → List Gap
gaps_from log since [] = unknown since (length log)
gaps_from log since (place ∷ places) =
    let rest = drop place log in
    gaps_at since place (next_place log place) (found (reading place rest)) (key_in place rest)
    (λ next. gaps_from log next places)

abbrev pub gaps_in : List ℕ → List Gap
gaps_in log = gaps_from log 0 (places_in log)

-- as the code has it
abbrev pub gap_of : LeftOut → Gap
gap_of g = record { place = g.place; size = g.length; key = option_map (λ k. k.items) g.key }

-- whatever stands in their keys and values
abbrev pub HaveHeads : ℕ → List Entry → List ℕ → Type 0
HaveHeads place [] bytes = bytes ≡ []
HaveHeads place (r ∷ rs) bytes =
    Fits r × (take 13 bytes ≡ take 13 (encoded place r)) × HaveHeads (place + size_of r) rs (drop (size_of r) bytes)

abbrev pub places_of : ℕ → List Entry → List ℕ
places_of place [] = []
places_of place (r ∷ rs) = place ∷ places_of (place + size_of r) rs

abbrev pub MaySalvage : Option (List ℕ) → Fault → Type 0
MaySalvage into fault.Memory = Unit {0}
MaySalvage into fault.ReadFailed = Unit {0}
MaySalvage into fault.WriteFailed = Unit {0}
MaySalvage into fault.NotEmpty = Sees into (λ bytes. 0 < length bytes)
MaySalvage into fault.Full = ⊥
MaySalvage into fault.TooLong = ⊥
MaySalvage into fault.Damaged = ⊥
