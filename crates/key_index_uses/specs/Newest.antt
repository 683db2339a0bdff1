-- The newest records of a log, whose records are listed with the newest first.
--     op_of        the op that inserts the position of a key
--     newest       the position of the newest record of each key
--     sharing      the positions of the keys that share the index key of one, in the order of the keys
use Rattle.std.specs.Prelude.{ℕ, List, map, filter, Vec}
use Rattle.std.specs.FinMap.{FinMap, from_entries}
use Rattle.std.specs.declared.alloc.Global.{Global}
use Rattle.std.specs.declared.cmp.Ordering.{Ordering}
use Rattle.std.specs.Ordering.{eq_by_cmp}
use Rattle.key_index.specs.Snapshot.{entries_of}
use Rattle.key_index_flat.specs.FullKeys.{byte_cmp}
use Rattle.key_index_parts.specs.declared.index.partitioned.builds.op.Op.{Op}
use Rattle.key_index_parts.specs.declared.index.partitioned.builds.op.Op.TheVariants.{Insert}

abbrev pub op_of : {V : Type 0} → Vec ℕ Global × V → Op V
op_of r = Insert r.0 r.1

-- from_entries: of those that share a key, the first one
abbrev pub newest : List (Vec ℕ Global × ℕ) → FinMap byte_cmp ℕ
newest records = from_entries (entries_of records)

abbrev pub sharing : {K V : Type 0} → (K → K → Ordering) → (List ℕ → K) → List ℕ → List (List ℕ × V) → List V
sharing cmp slot key es = map (λ e. e.1) (filter (λ e. eq_by_cmp cmp (slot key) (slot e.0)) es)
