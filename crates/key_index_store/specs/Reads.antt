-- How much of a record is read.
--     wanted       how many bytes hold the head and the key, or the whole record, by the bytes at its front, which stand at a place
use Rattle.std.specs.Prelude.{ℕ, Bool, if◌then◌else◌, List}
use Rattle.key_index_store.specs.Record.{has_head, record_length, value_place}

abbrev pub wanted : Bool → ℕ → List ℕ → ℕ
wanted is_whole place bytes =
    if has_head place bytes then if is_whole then record_length bytes else value_place bytes else 0
