-- What a handle owns: the block of its index, where it has one.
--     token    the right to free a block of the heap
use Rattle.std.specs.Prelude.{Option, Some, None}
use Rattle.std.specs.Box.Ownership.{box_owns}
use Rattle.std.specs.contracts.impls.GlobalAllocator.TheImpl.{ghosts}
use Rattle.std.specs.declared.alloc.Global.{Global}
use Rattle.key_index_c.specs.contracts.any.Any.{the_row}
use base.Fml.{Fml, ftrue}
use denote.RawPtr.{Ptr}
use mir.Syntax.{Ty}

abbrev pub heap : Global
heap = record { memory = record { seal = tt } }

abbrev pub token : Ty → Ptr → Fml
token = ghosts.dealloc_token heap

abbrev pub handle_owns : Ptr → Option the_row.Denot → Fml
handle_owns at None = ftrue
handle_owns at (Some index) = box_owns token the_row at index
