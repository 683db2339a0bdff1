-- A partitioned unordered index, by its value.
use Rattle.std.specs.Prelude.{ℕ}
use Rattle.std.specs.declared.cmp.Ord as ord
use Rattle.std.specs.declared.cmp.PartialEq as eq
use Rattle.std.specs.declared.cmp.PartialOrd as partial
use Rattle.std.specs.declared.hash.Hash as hash
use Rattle.key_index_flat.specs.declared.translator.Translator as translator
use Rattle.key_index_flat.specs.View.{View}
use Rattle.key_index_parts.specs.declared.index.partitioned.unordered.Index.{Index}
use Rattle.key_index_parts.specs.Buckets.{view_of}

module _ {T V K : Type 0} {P : ℕ} {t : translator.Ghosts T K} {o : ord.Ghosts K} {e : eq.Ghosts K}
    {p : partial.Ghosts K} {h : hash.Ghosts K} where
  -- as contracts see it
  abbrev pub view : Index T V P K t o e p h → View (ℕ × K) V
  view index = view_of P t.translated index.storage
