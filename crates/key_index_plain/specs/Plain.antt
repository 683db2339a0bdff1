-- What a plain index holds, by its value.
use Rattle.std.specs.Prelude.{true}
use Rattle.std.specs.declared.cmp.Ord as ord
use Rattle.std.specs.declared.cmp.PartialEq as eq
use Rattle.std.specs.declared.cmp.PartialOrd as partial
use Rattle.std.specs.declared.hash.Hash as hash
use Rattle.key_index_flat.specs.declared.translator.Translator as translator
use Rattle.key_index_flat.specs.View.{View}
use Rattle.key_index_plain.specs.declared.Index.{Index}
use Rattle.key_index_plain.specs.Entries.{content_of}

module _ {T V K : Type 0} {t : translator.Ghosts T K} {o : ord.Ghosts K} {e : eq.Ghosts K} {p : partial.Ghosts K}
    {h : hash.Ghosts K} where
  -- as contracts see it
  abbrev pub view : Index T V K t o e p h → View K V
  view index = record {
    content = content_of o.cmp index.entries.items;
    pruned = index.pruned;
    slot = t.translated index.translator;
    admitted = λ _. true;
  }
