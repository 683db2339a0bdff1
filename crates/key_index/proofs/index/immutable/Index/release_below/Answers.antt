use Rattle.std.proofs.Common.{◌<◌, subst, arith}
use Rattle.key_index.specs.Immutable.{mixed_hash}
use Rattle.key_index.proofs.positions.PruneLemmas.{released_none, released_more}
use Rattle.key_index.proofs.index.immutable.Index.release_below.Goals as goal

pub loop-self-init : goal.loop-self-init
loop-self-init g c = record { released = released_none (mixed_hash g.T.Translator.hashed) c.args.self.now c.requires.lawful; below = c.requires.start }

pub loop-self-preserved : goal.loop-self-preserved
loop-self-preserved g c =
    let e = c.release.ensures in
    let on = c.if-not-release.false in
    let start = e.start on in
    record {
      released = released_more c.args.self.now c.loop-self.self c.release.new.self c.loop-self.invariant.released e.translator (e.cell.0 on) start (e.cells on) (e.keys on) (e.pruned on) (e.removals on);
      below = let lt : c.loop-self.self.start < c.args.start = subst (λ t. t.start < c.args.start) c.self.view_is c.loop-self-test.true in omega (arith, lt, start);
    }
