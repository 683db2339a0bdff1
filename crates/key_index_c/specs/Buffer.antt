-- A buffer after values were written to it from its start on, as many as it has room for.
use Rattle.std.specs.Prelude.{ℕ, List, ◌++◌, length, take, drop}

abbrev pub filled : List ℕ → List ℕ → List ℕ
filled values buffer = take (length buffer) values ++ drop (length values) buffer
