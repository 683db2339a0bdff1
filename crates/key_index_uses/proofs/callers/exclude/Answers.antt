use Rattle.std.proofs.Common.{sym, ap, ◌∙◌}
use Rattle.std.specs.Option.{option_copied}
use Rattle.key_index_flat.specs.Values.{values_of}
use Rattle.key_index_uses.specs.Exclusion.{has_key}
use Rattle.key_index_uses.proofs.ExclusionLemmas.{Excludes-IsLeast, has_key_anywhere}
use Rattle.key_index_uses.proofs.callers.exclude.Goals as goal

pub returns-then-has_key : goal.returns-then-has_key
returns-then-has_key g c = λ filed.
    let index = c.args.index.now in
    let keys = g.I.Value.Keyed.full_key in
    let key = c.args.key.now in
    has_key_anywhere g.met.I.Key.Ord.total keys (g.I.Runs.view index).slot key (g.I.Runs.view index).content (g.met.I.Runs.lawful index).0 filed
    ∙ ap (has_key keys key) (sym c.get.ensures) ∙ sym c.has_key.ensures ∙ c.if-has_key.true

pub returns : goal.returns
returns g c = λ filed.
    let index = c.args.index.now in
    let keys = g.I.Value.Keyed.full_key in
    let key = c.args.key.now in
    let content = (g.I.Runs.view index).content in
    let none = has_key_anywhere g.met.I.Key.Ord.total keys (g.I.Runs.view index).slot key content (g.met.I.Runs.lawful index).0 filed
    ∙ ap (has_key keys key) (sym c.get.ensures) ∙ sym c.has_key.ensures ∙ c.if-has_key.false in
    Excludes-IsLeast keys key (values_of content) (option_copied c.resolve_prev.result) (option_copied c.resolve_next.result) none (c.resolve_prev.ensures.filed filed) (c.resolve_next.ensures.filed filed)
