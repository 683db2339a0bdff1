-- A range of an index in partitions, by its value.
use Rattle.std.specs.Prelude.{ℕ, ◌+◌, Bool, length}
use Rattle.std.specs.declared.cmp.Ord as ord
use Rattle.std.specs.declared.cmp.PartialEq as eq
use Rattle.std.specs.declared.cmp.PartialOrd as partial
use Rattle.std.specs.declared.hash.Hash as hash
use Rattle.key_index_flat.specs.declared.translator.Translator as translator
use Rattle.key_index_flat.specs.View.{View}
use Rattle.key_index_parts.specs.declared.index.partitioned.bucket.Contents as buckets
use Rattle.key_index_parts.specs.declared.index.partitioned.range.RangeIndex.{RangeIndex}
use Rattle.key_index_parts.specs.Buckets.{view_from}
use Rattle.key_index_parts.specs.Joined.{is_between}
use Rattle.key_index_parts.specs.Standing.{Standings}

module _ {T V X K : Type 0} {P : ℕ} {t : translator.Ghosts T K} {o : ord.Ghosts K} {e : eq.Ghosts K}
    {p : partial.Ghosts K} {h : hash.Ghosts K} {x : buckets.Ghosts X T V K} where
  -- the first partition that it covers, and how many
  abbrev pub range_offset : RangeIndex T V X P K t o e p h x → ℕ
  range_offset range = range.offset

  abbrev pub range_count : RangeIndex T V X P K t o e p h x → ℕ
  range_count range = length range.storage.buckets

  -- whether it covers a partition
  abbrev pub is_covered : RangeIndex T V X P K t o e p h x → ℕ → Bool
  is_covered range n = is_between (range_offset range) (range_offset range + range_count range) n

  -- how its partitions stand, by their numbers in it
  abbrev pub range_standings : RangeIndex T V X P K t o e p h x → Standings
  range_standings range = range.storage.standings

  -- as contracts see it
  abbrev pub range_view : RangeIndex T V X P K t o e p h x → View (ℕ × K) V
  range_view range = view_from P t.translated range.offset range.storage
