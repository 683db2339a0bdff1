-- Records of a log, which has their full keys by position.
--     is_full_key    whether a full key is there, and is this one
--     is_record      whether the record at a position has a full key
--     records_of     the positions, of some, of the records with a full key
--     with_visit     answers by place, after one visit: a position goes in where its record has the key at that place
--     with_event     the same after one event of a batch that looks ahead
--     event_of       the event that a closure is told
use Rattle.std.specs.Prelude.{ℕ, Bool, false, List, [], Option, Some, None, filter, length, slice_get, slice_set, slice_index_or, nat_lt, if◌then◌else◌, ◌&&◌}
use Rattle.std.specs.Str.{bytes_eq}
use Rattle.key_index_parts.specs.Ahead.{Event, Found, Visit}
use Rattle.key_index_parts.specs.declared.index.partitioned.ordered.Ahead.{Ahead}
use Rattle.key_index_parts.specs.declared.index.partitioned.ordered.Ahead.TheVariants as ahead

abbrev pub is_full_key : List ℕ → Option (List ℕ) → Bool
is_full_key key None = false
is_full_key key (Some full_key) = bytes_eq full_key key

abbrev pub is_record : List (List ℕ) → List ℕ → ℕ → Bool
is_record log key position = is_full_key key (slice_get log position)

abbrev pub records_of : List (List ℕ) → List ℕ → List ℕ → List ℕ
records_of log key positions = filter (is_record log key) positions

module _ (log keys : List (List ℕ)) where
  abbrev pub with_visit : List (Option ℕ) → ℕ × ℕ → List (Option ℕ)
  with_visit answers visit =
      if nat_lt visit.0 (length keys) && is_record log (slice_index_or keys visit.0 []) visit.1
      then slice_set answers visit.0 (Some visit.1) else answers

  abbrev pub with_event : List (Option ℕ) → Event ℕ → List (Option ℕ)
  with_event answers (Found place len) = answers
  with_event answers (Visit place position) = with_visit answers (place, position)

abbrev pub event_of : {V : Type 0} → Ahead V → Event V
event_of (ahead.Found place len) = Found place len
event_of (ahead.Visit place shown) = Visit place shown.now
