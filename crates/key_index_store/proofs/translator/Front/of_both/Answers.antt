use Rattle.std.proofs.Common.{◌≡◌, [], ◌∷◌, ◌++◌, ap, ◌∙◌}
use Rattle.std.proofs.lemmas.List.{append-nil}
use Rattle.key_index_flat.specs.Padding.{padded}
use Rattle.key_index_store.specs.Translators.{front_of}
use Rattle.key_index_store.proofs.TranslatorLemmas.{front_of-padded}
use Rattle.key_index_store.proofs.translator.Front.of_both.Goals as goal

pub returns : goal.returns
returns c =
    let behind : c.copy_from_slice.new.self ++ [] ≡ padded 31 c.args.rest.now = append-nil c.copy_from_slice.new.self ∙ c.copy_from_slice.ensures.after ∙ ap (λ array. array.inner) c.transform.ensures in
    c.of.ensures ∙ ap (λ b. front_of (c.args.first ∷ b)) behind ∙ front_of-padded (c.args.first ∷ c.args.rest.now)
