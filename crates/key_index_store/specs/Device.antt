-- What calls of a device leave. `seen` is its bytes while each of its answers was that of a device that has them, and none once one
-- was not. What a crash may leave is some bytes, or none of which anything is known: None stands for these.
--     Sees          of the bytes that are seen
--     Changes       of the bytes seen before a call and after it: a device that gives no wrong answer in the call gave none before
--     Stays         no byte is changed
--     IsLeft        a crash may leave these bytes
--     IsKnown       what it leaves is known
--     IsFirst       what it leaves are the bytes that are seen, where it is known: since the last sync nothing was written
--     NoMore        it leaves nothing that it could not leave before
--     Adds          or bytes of which a fact holds
--     AddsAtMost    or the old bytes with some of the new ones behind them
--     IsDamaged     of the record at a place other bytes were given than there are: where its key or the whole of it has its checksums, it
--                   is the record's own
--     Gives         of a record the bytes that there are, or such ones, which is noted as damage
--     KeepsDamage   what was noted as damage stays
--     IsUndamaged   none was
--     SeesAll       of the bytes that are seen, where no record is damaged
--     IsRead        no byte is changed, and a crash leaves nothing more
--     IsDurable     a crash leaves the bytes that are seen, and nothing else
--     IsBegun       some of the bytes, but not the whole of them, were appended
use Rattle.key_index_store.specs.Record.{Complete, Entry, key_in, reading}
use Rattle.std.specs.Prelude.{◌≡◌, ◌⊎◌, ◌<◌, ℕ, List, ◌++◌, length, take, Option, Some, None}

abbrev pub Sees : Option (List ℕ) → (List ℕ → Type 0) → Type 0
Sees seen P = (bytes : List ℕ) → seen ≡ Some bytes → P bytes

abbrev pub Changes : Option (List ℕ) → Option (List ℕ) → (List ℕ → List ℕ → Type 0) → Type 0
Changes before after P = (new : List ℕ) → after ≡ Some new → (old : List ℕ) × (before ≡ Some old) × P old new

abbrev pub Stays : Option (List ℕ) → Option (List ℕ) → Type 0
Stays before after = (bytes : List ℕ) → after ≡ Some bytes → before ≡ Some bytes

abbrev pub IsLeft : (Option (List ℕ) → Type 0) → List ℕ → Type 0
IsLeft may_leave bytes = may_leave (Some bytes) ⊎ may_leave None

abbrev pub IsKnown : (Option (List ℕ) → Type 0) → Type 0
IsKnown may_leave = ¬ may_leave None

abbrev pub IsFirst : List ℕ → (Option (List ℕ) → Type 0) → Type 0
IsFirst seen may_leave = (c : Option (List ℕ)) → may_leave c → (c ≡ None) ⊎ (c ≡ Some seen)

abbrev pub NoMore : (Option (List ℕ) → Type 0) → (Option (List ℕ) → Type 0) → Type 0
NoMore before after = (c : Option (List ℕ)) → after c → before c

abbrev pub Adds : (List ℕ → Type 0) → (Option (List ℕ) → Type 0) → (Option (List ℕ) → Type 0) → Type 0
Adds P before after = (c : Option (List ℕ)) → after c → before c ⊎ ((bytes : List ℕ) × (c ≡ Some bytes) × P bytes)

abbrev pub AddsAtMost : List ℕ → List ℕ → (Option (List ℕ) → Type 0) → (Option (List ℕ) → Type 0) → Type 0
AddsAtMost old new before after = Adds (λ c. (n : ℕ) × (c ≡ old ++ take n new)) before after

abbrev pub IsDurable : Option (List ℕ) → (Option (List ℕ) → Type 0) → Type 0
IsDurable seen may_leave = Sees seen (λ bytes. NoMore (λ c. c ≡ Some bytes) may_leave)

abbrev pub IsBegun : List ℕ → List ℕ → List ℕ → Type 0
IsBegun bytes old new = (n : ℕ) × (new ≡ old ++ take n bytes) × ((n < length bytes) ⊎ (n ≡ 0))

pub record IsDamaged (place : ℕ) (own given : List ℕ) : Type 0 where
  pub key : (key : List ℕ) → key_in place given ≡ Some key → key_in place own ≡ Some key
  pub whole : (r : Entry) → reading place given ≡ Complete r → reading place own ≡ Complete r

abbrev pub Gives : (ℕ → Type 0) → ℕ → List ℕ → List ℕ → Type 0
Gives damaged place own given = (given ≡ own) ⊎ (damaged place × IsDamaged place own given)

abbrev pub KeepsDamage : (ℕ → Type 0) → (ℕ → Type 0) → Type 0
KeepsDamage before after = (place : ℕ) → before place → after place

abbrev pub IsUndamaged : (ℕ → Type 0) → Type 0
IsUndamaged damaged = (place : ℕ) → ¬ damaged place

abbrev pub SeesAll : Option (List ℕ) → (ℕ → Type 0) → (List ℕ → Type 0) → Type 0
SeesAll seen damaged P = IsUndamaged damaged → Sees seen P

pub record IsRead {D : Type 0} (seen : D → Option (List ℕ)) (damaged : D → ℕ → Type 0)
    (may_leave : D → Option (List ℕ) → Type 0) (old new : D) : Type 0 where
  pub stays : Stays (seen old) (seen new)
  pub damage : KeepsDamage (damaged old) (damaged new)
  pub crash : NoMore (may_leave old) (may_leave new)
