-- On the tests that commands bring along.
use Rattle.std.proofs.Common.{List, [], ◌∷◌}
use Rattle.key_index_flat.specs.Run.{HasTest, HaveTests}
use Rattle.key_index_flat.specs.declared.index.command.Command.{Command}
use Rattle.key_index_flat.specs.declared.index.command.Command.TheVariants as command

has-test : {V F : Type 0} (P : F → Type 0) → ((f : F) → P f) → (c : Command V F) → HasTest P c
has-test P all (command.Insert key v) = tt
has-test P all (command.InsertAndRetain key v test) = all test
has-test P all (command.Retain key test) = all test
has-test P all (command.Remove key) = tt
has-test P all (command.GetOrInsert key v) = tt
has-test P all (command.Edit key steps) = tt

-- where every test of the type has a property, so has each one in a list of commands
pub have-tests : {V F : Type 0} (P : F → Type 0) → ((f : F) → P f) → (cs : List (Command V F)) → HaveTests P cs
have-tests P all [] = tt
have-tests P all (c ∷ cs) = (has-test P all c, have-tests P all cs)
