-- What a flat unordered index holds, by its value.
use Rattle.std.specs.Prelude.{ℕ}
use Rattle.std.specs.declared.cmp.Ord as ord
use Rattle.std.specs.declared.cmp.PartialEq as eq
use Rattle.std.specs.declared.cmp.PartialOrd as partial
use Rattle.std.specs.declared.hash.Hash as hash
use Rattle.key_index_flat.specs.declared.index.unordered.Index.{Index}
use Rattle.key_index_flat.specs.declared.translator.Translator as translator
use Rattle.key_index_flat.specs.Storage.{view_of}
use Rattle.key_index_flat.specs.View.{View}

module _ {T V K : Type 0} {t : translator.Ghosts T K} {o : ord.Ghosts K} {e : eq.Ghosts K} {p : partial.Ghosts K}
    {h : hash.Ghosts K} where
  -- as contracts see it
  abbrev pub view : Index T V K t o e p h → View K V
  view index = view_of t.translated index.storage

  -- how many more index keys there is room for
  abbrev pub spare : Index T V K t o e p h → ℕ
  spare index = index.storage.spare
