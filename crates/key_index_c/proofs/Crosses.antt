-- A handle, a reader and a range may go to another thread, as what they own may.
use Rattle.std.specs.Prelude.{Option, Some, None}
use Rattle.std.proofs.Crossing.{frees}
use Rattle.std_alloc.proofs.SendSync.{lies, quiet}
use Rattle.key_index_c.specs.Handle.{handle_owns, heap}
use Rattle.key_index_c.specs.Range.{range_owns}
use Rattle.key_index_c.specs.Reader.{reader_owns}
use Rattle.key_index_c.proofs.any.Any.TheSendSync as any
use Rattle.key_index_c.proofs.any_range.AnyRange.TheSendSync as any_range
use Rattle.key_index_c.proofs.reader.Share.TheSendSync as share
use Rattle.key_index_c.specs.contracts.any.Any as Any
use Rattle.key_index_c.specs.contracts.any_range.AnyRange as AnyRange
use Rattle.key_index_c.specs.contracts.handle.Handle as Handle
use Rattle.key_index_c.specs.contracts.range.Range as Range
use Rattle.key_index_c.specs.contracts.reader.Reader as Reader
use Rattle.key_index_c.specs.contracts.reader.Share as Share
use base.Shift.{Keyless}
use denote.Param.Send.{AllSend, IsSend, owning_send, sendable, struct_send}
use denote.RawPtr.{Ptr}
use denote.Struct.Owning.{fields, shape, to}
use denote.Struct.Struct.{exits_of}

handle_owns-Keyless : (at : Ptr) (held : Option Any.the_row.Denot) → Keyless (handle_owns at held)
handle_owns-Keyless at None = tt
handle_owns-Keyless at (Some index) = (lies Any.the_row any.the_send at index, frees.frees heap _ at)

pub Handle-send : IsSend Handle.the_row
Handle-send =
    let O = Handle.the_type in let all : AllSend (fields O) = (search sendable, tt) in
    owning_send O all (λ d. handle_owns-Keyless d.at d.held) (λ k. quiet (to O) (exits_of k (fields O)) ((struct_send (shape O) all).leaving k))

reader_owns-Keyless : (at : Ptr) (held : Share.the_row.Denot) → Keyless (reader_owns at held)
reader_owns-Keyless at None = tt
reader_owns-Keyless at (Some index) = (lies Share.the_row share.the_send at (Some index), frees.frees heap _ at)

pub Reader-send : IsSend Reader.the_row
Reader-send =
    let O = Reader.the_type in let all : AllSend (fields O) = (search sendable, tt) in
    owning_send O all (λ d. reader_owns-Keyless d.at d.held) (λ k. quiet (to O) (exits_of k (fields O)) ((struct_send (shape O) all).leaving k))

range_owns-Keyless : (at : Ptr) (held : Option AnyRange.the_row.Denot) → Keyless (range_owns at held)
range_owns-Keyless at None = tt
range_owns-Keyless at (Some range) = (lies AnyRange.the_row any_range.the_send at range, frees.frees heap _ at)

pub Range-send : IsSend Range.the_row
Range-send =
    let O = Range.the_type in let all : AllSend (fields O) = (search sendable, tt) in
    owning_send O all (λ d. range_owns-Keyless d.at d.held) (λ k. quiet (to O) (exits_of k (fields O)) ((struct_send (shape O) all).leaving k))
