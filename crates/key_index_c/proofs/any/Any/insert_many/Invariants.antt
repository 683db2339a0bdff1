use Rattle.std.proofs.Common.{◌≡◌}
use Rattle.key_index_c.specs.Any.{any_view, inserts_first, kind_of}
use Rattle.key_index_c.specs.Calls.{after_inserts, start_of}
use Rattle.key_index_c.proofs.any.Any.insert_many.Given as goal

abbrev pub invariant-loop-count : goal.invariant-loop-count
invariant-loop-count l =
    (l.start ≡ start_of l.ends l.count) × (kind_of l.self ≡ kind_of l.initial.self)
    × (any_view l.self ≡ after_inserts (inserts_first (kind_of l.initial.self)) (any_view l.initial.self) l.keys l.ends l.values l.count)
