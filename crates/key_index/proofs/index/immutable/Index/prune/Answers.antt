use Rattle.std.proofs.Common.{◌≡◌, ◌<◌, ◌≤◌, length, sym, subst}
use Rattle.key_index.specs.Immutable.{mixed_hash, IsReleased}
use Rattle.key_index.proofs.positions.PruneLemmas.{jumped_log, Pruned-all_released}
use Rattle.key_index.proofs.index.immutable.Index.prune.Goals as goal

pub release_below-requires-clause-lawful : goal.release_below-requires-clause-lawful
release_below-requires-clause-lawful g c = rw (← c.self.view_is) c.self.invariant

pub invariant_of-self : goal.invariant_of-self
invariant_of-self g c =
    jumped_log c.args.self.now _ c.args.start (subst (λ t. t.start ≤ c.args.start) (sym c.self-2.view_is) c.release_below.ensures.below)
    (subst (λ t. 0 < length t.keys → t.start ≡ c.args.start) (sym c.self-2.view_is) c.release_below.ensures.reached)
    (mixed_hash g.T.Translator.hashed) c.self-2.invariant c.ranges.start.fits

pub returns-clause-keys : goal.returns-clause-keys
returns-clause-keys g c =
    (Pruned-all_released c.args.self.now _ c.args.start (subst (λ t. t.start ≤ c.args.start) (sym c.self-2.view_is) c.release_below.ensures.below)
    (subst (λ t. 0 < length t.keys → t.start ≡ c.args.start) (sym c.self-2.view_is) c.release_below.ensures.reached)
    (subst (λ t. IsReleased c.args.self.now t) (sym c.self-2.view_is) c.release_below.ensures.released)).keys

pub returns-clause-pruned : goal.returns-clause-pruned
returns-clause-pruned g c =
    (Pruned-all_released c.args.self.now _ c.args.start (subst (λ t. t.start ≤ c.args.start) (sym c.self-2.view_is) c.release_below.ensures.below)
    (subst (λ t. 0 < length t.keys → t.start ≡ c.args.start) (sym c.self-2.view_is) c.release_below.ensures.reached)
    (subst (λ t. IsReleased c.args.self.now t) (sym c.self-2.view_is) c.release_below.ensures.released)).pruned
