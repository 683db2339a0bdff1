-- A device in memory.
--     held, kept     its bytes; how many of them a crash keeps at least
--     MayLeave       what a crash may leave: as many from the front on, or more
use Rattle.std.specs.Prelude.{◌≡◌, ◌≤◌, ℕ, List, take, Option, Some}
use Rattle.key_index_store.specs.declared.memory_device.MemoryDevice.{MemoryDevice}

abbrev pub held : MemoryDevice → List ℕ
held d = d.bytes.items

abbrev pub kept : MemoryDevice → ℕ
kept d = d.kept

abbrev pub MayLeave : MemoryDevice → Option (List ℕ) → Type 0
MayLeave d c = (n : ℕ) × (d.kept ≤ n) × (c ≡ Some (take n d.bytes.items))
