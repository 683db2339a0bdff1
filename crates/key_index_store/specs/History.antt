-- What a file holds, and what a crash may leave of it, by the calls on it that succeeded. The newest call stands first.
--     Noted              a call, with the bytes that the file gave or took
--     filled, overlaid   the first n bytes, or zeros where there are fewer; new bytes at a position, over the old ones
--     after_call         what a file holds after a call, by what it held before
--     agrees             the answer of a call is that of a file that holds these bytes
--     is_damaged         of a record other bytes were given than there are: where its key or the whole of it has its checksums, it is its own
--     content            what it holds after all calls, by what it held first
--     all_agree          each answer agrees with what the file held then
--     seen_after         what it holds, while all answers agree
--     damaged_after      the places of the records of which other bytes were given
--     left_by            what a crash may leave after a call, by what the file held, and by what a crash might leave, before it
--     may_leave_after    what it may leave after all calls: at first, bytes of which nothing is known
use Rattle.std.specs.Prelude.{◌≡◌, ◌≢◌, ◌⊎◌, ℕ, ◌+◌, ◌-◌, ◌==◌, Bool, true, false, ◌&&◌, ◌||◌, if◌then◌else◌, List, [], ◌∷◌, ◌++◌, length, take, drop, replicate, Option, Some, None}
use Rattle.std.specs.Str.{bytes_eq}
use Rattle.key_index_store.specs.Record.{Complete, Damaged, Outcome, Torn, key_in, reading}
use Rattle.key_index_store.specs.declared.history.Call.{Call}
use Rattle.key_index_store.specs.declared.history.Call.TheVariants.{Told, Gave, GaveRecord, Took, Cut, Synced, Name}

abbrev pub Noted : Type 0
Noted = Call × List ℕ

abbrev pub filled : ℕ → List ℕ → List ℕ
filled n bytes = take n (bytes ++ replicate (n - length bytes) 0)

abbrev pub overlaid : ℕ → List ℕ → List ℕ → List ℕ
overlaid position new old = filled position old ++ (new ++ drop (position + length new) old)

abbrev pub after_call : Call → List ℕ → List ℕ → List ℕ
after_call (Told n) _ old = old
after_call (Gave position) _ old = old
after_call (GaveRecord log place) _ old = old
after_call (Took position) new old = overlaid position new old
after_call (Cut n) _ old = filled n old
after_call Synced _ old = old
after_call (Name call) _ old = old

abbrev pub is_same_if : Option (List ℕ) → Option (List ℕ) → Bool
is_same_if None own = true
is_same_if (Some bytes) None = false
is_same_if (Some bytes) (Some own) = bytes_eq bytes own

abbrev pub is_same : Outcome → Outcome → Bool
is_same (Complete r) (Complete own) =
    bytes_eq r.key own.key && (is_same_if r.value own.value && is_same_if own.value r.value)
is_same (Complete r) Torn = false
is_same (Complete r) Damaged = false
is_same Torn own = true
is_same Damaged own = true

abbrev pub is_damaged : ℕ → List ℕ → List ℕ → Bool
is_damaged place own given =
    is_same_if (key_in place given) (key_in place own) && is_same (reading place given) (reading place own)

abbrev pub agrees : Call → List ℕ → List ℕ → Bool
agrees (Told n) _ held = n == length held
agrees (Gave position) given held = bytes_eq given (take (length given) (drop position held))
agrees (GaveRecord log place) given held =
    let own = take (length given) (drop (log + place) held) in bytes_eq given own || is_damaged place own given
agrees (Took position) _ held = true
agrees (Cut n) _ held = true
agrees Synced _ held = true
agrees (Name call) _ held = true

abbrev pub content : List ℕ → List Noted → List ℕ
content first [] = first
content first (call ∷ earlier) = after_call call.0 call.1 (content first earlier)

abbrev pub all_agree : List ℕ → List Noted → Bool
all_agree first [] = true
all_agree first (call ∷ earlier) = all_agree first earlier && agrees call.0 call.1 (content first earlier)

abbrev pub seen_after : List ℕ → List Noted → Option (List ℕ)
seen_after first calls = if all_agree first calls then Some (content first calls) else None

-- a call on a record at this place that gave other bytes
abbrev pub IsOther : Call → List ℕ → List ℕ → ℕ → Type 0
IsOther (Told n) _ held p = ⊥
IsOther (Gave position) given held p = ⊥
IsOther (GaveRecord log place) given held p =
    (p ≡ place) × (given ≢ take (length given) (drop (log + place) held))
IsOther (Took position) _ held p = ⊥
IsOther (Cut n) _ held p = ⊥
IsOther Synced _ held p = ⊥
IsOther (Name call) _ held p = ⊥

abbrev pub damaged_after : List ℕ → List Noted → ℕ → Type 0
damaged_after first [] p = ⊥
damaged_after first (call ∷ earlier) p =
    damaged_after first earlier p ⊎ IsOther call.0 call.1 (content first earlier) p

abbrev pub left_by : Call → List ℕ → List ℕ → (Option (List ℕ) → Type 0) → Option (List ℕ) → Type 0
left_by (Told n) _ old before c = before c
left_by (Gave position) _ old before c = before c
left_by (GaveRecord log place) _ old before c = before c
left_by (Took position) new old before c = before c ⊎ ((n : ℕ) × (c ≡ Some (overlaid position (take n new) old)))
left_by (Cut n) _ old before c = before c ⊎ (c ≡ Some (filled n old))
left_by Synced _ old before c = c ≡ Some old
left_by (Name call) _ old before c = before c

abbrev pub may_leave_after : List ℕ → List Noted → Option (List ℕ) → Type 0
may_leave_after first [] c = c ≡ None
may_leave_after first (call ∷ earlier) c =
    left_by call.0 call.1 (content first earlier) (may_leave_after first earlier) c
