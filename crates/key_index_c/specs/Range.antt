-- What the handle of a range owns: the block of its range, where it has one.
use Rattle.std.specs.Prelude.{Option, Some, None}
use Rattle.std.specs.Box.Ownership.{box_owns}
use Rattle.key_index_c.specs.Handle.{token}
use Rattle.key_index_c.specs.contracts.any_range.AnyRange.{the_row}
use base.Fml.{Fml, ftrue}
use denote.RawPtr.{Ptr}

abbrev pub range_owns : Ptr → Option the_row.Denot → Fml
range_owns at None = ftrue
range_owns at (Some range) = box_owns token the_row at range
