use Rattle.std.proofs.Common.{ap, ◌∙◌}
use Rattle.key_index_store.specs.Translators.{front_of}
use Rattle.key_index_store.proofs.TranslatorLemmas.{front_of-padded}
use Rattle.key_index_store.proofs.translator.ThirtyTwoCapTranslator.transform.Goals as goal

pub returns : goal.returns
returns c = c.of.ensures ∙ ap (λ array. front_of array.inner) c.transform.ensures ∙ front_of-padded c.args.key.now
