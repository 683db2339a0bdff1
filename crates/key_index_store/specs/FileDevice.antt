-- A device over a file.
--     first_of, calls_of      what the file held at first, and the calls on it that succeeded, the newest first
--     file_seen, FileLeaves   its bytes while the file's answers agree, and what a crash may leave, by these
--     IsDamagedIn   a record of which the file gave other bytes
use Rattle.std.specs.Prelude.{ℕ, List, Option}
use Rattle.key_index_store.specs.History.{Noted, damaged_after, seen_after, may_leave_after}
use Rattle.key_index_store.specs.declared.file_device.FileDevice.{FileDevice}

abbrev pub first_of : FileDevice → List ℕ
first_of d = d.history.first

abbrev pub calls_of : FileDevice → List Noted
calls_of d = d.history.calls

abbrev pub file_seen : FileDevice → Option (List ℕ)
file_seen d = seen_after (first_of d) (calls_of d)

abbrev pub FileLeaves : FileDevice → Option (List ℕ) → Type 0
FileLeaves d = may_leave_after (first_of d) (calls_of d)

abbrev pub IsDamagedIn : FileDevice → ℕ → Type 0
IsDamagedIn d = damaged_after (first_of d) (calls_of d)
