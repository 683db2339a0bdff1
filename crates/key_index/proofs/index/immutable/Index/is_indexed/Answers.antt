use Rattle.std.proofs.Common.{◌<◌, ◌-◌, length, arith}
use Rattle.key_index.specs.Immutable.{mixed_hash}
use Rattle.key_index.proofs.positions.ImmutableLemmas.{found_there, cell_read}
use Rattle.key_index.proofs.index.immutable.Index.is_indexed.Goals as goal

pub returns : goal.returns
returns g c =
    let within : c.args.position - c.self.inside.start < length c.self.inside.keys.items = omega (arith, c.if-len-offset.false, c.len.ensures, c.self.inside.keys.ok) in
    let at = cell_read c.self.inside.keys.items (c.args.position - c.self.inside.start) c.index.result.now within c.index.ensures in
    let found = found_there (mixed_hash g.T.Translator.hashed) _ c.self.invariant c.args.position c.index.result.now at in
    let answer = rw c.hash_in_table-hash.ensures at c.contains.ensures in
    rw (← c.self.view_is) ((λ t. found.0 (answer.0 t)), (λ is. answer.1 (found.1 is)))
