-- The header before a log.
--     header      eight bytes of magic, the version, and their CRC-32
--     IsHeaded    bytes that begin with it, or are a part of it, from its front on
--     version_in  the version that the header at the front of some bytes has, if it has magic and checksum
--     refusal_in  why bytes are refused that don't begin with this header
--     behind, Behind  what a crash leaves behind it: where that isn't headed, nothing is known of it
--     held_behind the map of the log behind it
use Rattle.std.specs.Prelude.{◌≡◌, ◌&&◌, ◌==◌, List, [], ◌∷◌, ◌++◌, length, nat_lt, if◌then◌else◌, take, drop, ℕ, Option, Some, None}
use Rattle.std.specs.Str.{bytes_eq}
use Rattle.key_index_store.specs.Checksum.{crc32}
use Rattle.key_index_store.specs.Record.{is_summed, number, number_at, summed}
use Rattle.key_index_store.specs.Stored.{Values, held_by}
use Rattle.key_index_store.specs.declared.headed.OpenError.{OpenError}
use Rattle.key_index_store.specs.declared.headed.OpenError.TheVariants.{NewerVersion, NoStore, OlderVersion}

-- "keyindex"
abbrev pub magic : List ℕ
magic = 107 ∷ 101 ∷ 121 ∷ 105 ∷ 110 ∷ 100 ∷ 101 ∷ 120 ∷ []

unfoldable pub header : List ℕ
header = summed crc32 (magic ++ number 2)

abbrev pub IsHeaded : List ℕ → Type 0
IsHeaded bytes = take 16 bytes ≡ take (length bytes) header

abbrev pub version_in : List ℕ → Option ℕ
version_in bytes =
    if bytes_eq (take 8 bytes) magic && is_summed crc32 12 bytes then Some (number_at 8 bytes) else None

-- version 1 was the first one
abbrev pub refusal_by : Option ℕ → OpenError
refusal_by None = NoStore
refusal_by (Some n) = if n == 1 then OlderVersion else if nat_lt 2 n then NewerVersion else NoStore

abbrev pub refusal_in : List ℕ → OpenError
refusal_in bytes = refusal_by (version_in bytes)

abbrev pub behind : Option (List ℕ) → Option (List ℕ)
behind None = None
behind (Some bytes) = if bytes_eq (take 16 bytes) (take (length bytes) header) then Some (drop 16 bytes) else None

abbrev pub Behind : (Option (List ℕ) → Type 0) → Option (List ℕ) → Type 0
Behind may_leave c = (bytes : Option (List ℕ)) × may_leave bytes × (c ≡ behind bytes)

abbrev pub held_behind : List ℕ → Values
held_behind bytes = held_by (drop 16 bytes)
