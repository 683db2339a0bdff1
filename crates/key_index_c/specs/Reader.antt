-- What a reader owns: the block of its share, where it has one.
use Rattle.std.specs.Prelude.{Some, None}
use Rattle.std.specs.Box.Ownership.{box_owns}
use Rattle.key_index_c.specs.Handle.{token}
use Rattle.key_index_c.specs.contracts.reader.Share.{the_row}
use base.Fml.{Fml, ftrue}
use denote.RawPtr.{Ptr}

abbrev pub reader_owns : Ptr → the_row.Denot → Fml
reader_owns at None = ftrue
reader_owns at (Some index) = box_owns token the_row at (Some index)
