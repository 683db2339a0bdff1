use Rattle.std.proofs.Common.{◌≡◌, ◌≤◌, ℕ, List, [], ◌∷◌, ◌++◌, length, ap, ◌∙◌}
use Rattle.std.specs.List.{insert}
use Rattle.key_index_plain.specs.declared.entries.Entry.{Entry}
use Rattle.key_index_plain.specs.Entries.{listed}
use Rattle.key_index_plain.proofs.EntryLemmas.{listed-insert}
use Rattle.key_index_plain.proofs.entries.insert_entry.Goals as goal

put_in : {K V : Type 0} (old new : List (Entry K V)) (place : ℕ) (e : Entry K V) (l : List V) → place ≤ length old → new ≡ insert old place e → e.values.items ≡ l → listed new ≡ insert (listed old) place (e.key, l)
put_in old new place e l h is values = ap (λ es. listed es) is ∙ listed-insert old place e h ∙ ap (λ l. insert (listed old) place (e.key, l)) values

pub returns-in-Ok-clause-accepted : goal.returns-in-Ok-clause-accepted
returns-in-Ok-clause-accepted g c =
    put_in c.args.entries.now.items c.insert.new.self.items c.args.place (record { key = c.args.key; values = c.push.new.self }) (c.args.value ∷ []) c.requires
    c.in-Ok.ensures.items (c.in_default.ensures.items ∙ ap (λ l. l ++ c.args.value ∷ []) c.new-values.ensures.items)
