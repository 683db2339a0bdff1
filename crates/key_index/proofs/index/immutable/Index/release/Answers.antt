use Rattle.std.proofs.Common.{◌+◌, ◌-◌, ◌^◌, ℕ, min, cond, is_some, ap, ◌∙◌, arith}
use Rattle.key_index.specs.Immutable.{mixed_hash, key_at}
use Rattle.key_index.proofs.positions.ImmutableLemmas.{released_table, released_key, released_log, released_count, byte_count}
use Rattle.key_index.proofs.index.immutable.Index.release.Goals as goal

pub invariant_of-self-2 : goal.invariant_of-self-2
invariant_of-self-2 g c =
    let hit = rw c.hash_in_table.ensures at c.remove-removed.ensures.removed in
    let table = released_table (mixed_hash g.T.Translator.hashed) _ c.self.invariant c.in-Some.key c.pop_front.new.self.items c.in-Some.ensures.items c.remove-removed.new.self c.remove-removed.result
    hit c.remove-removed.ensures.stored c.remove-removed.ensures.rest in
    released_log (mixed_hash g.T.Translator.hashed) _ c.self.invariant c.in-Some.key c.pop_front.new.self.items c.in-Some.ensures.items c.remove-removed.new.self _
    (omega (arith, c.saturating_add-self-inside.ensures)) (omega (arith, c.remove-removed.ensures.removals)) table

pub returns-clause-keys : goal.returns-clause-keys
returns-clause-keys g c = λ _ p le.
    let hit = rw c.hash_in_table.ensures at c.remove-removed.ensures.removed in
    let table = released_table (mixed_hash g.T.Translator.hashed) _ c.self.invariant c.in-Some.key c.pop_front.new.self.items c.in-Some.ensures.items c.remove-removed.new.self c.remove-removed.result
    hit c.remove-removed.ensures.stored c.remove-removed.ensures.rest in
    released_key (mixed_hash g.T.Translator.hashed) _ c.self.invariant c.in-Some.key c.pop_front.new.self.items c.in-Some.ensures.items c.remove-removed.new.self c.saturating_add-self-inside.result table p le
    ∙ ap (λ t. key_at t p) c.self.view_is

pub returns-clause-pruned : goal.returns-clause-pruned
returns-clause-pruned g c = λ _.
    let hit = rw c.hash_in_table.ensures at c.remove-removed.ensures.removed in
    let count = released_count (mixed_hash g.T.Translator.hashed) _ c.self.invariant c.in-Some.key c.pop_front.new.self.items c.in-Some.ensures.items c.remove-removed.new.self c.remove-removed.result
    hit c.remove-removed.ensures.stored c.remove-removed.ensures.rest in
    c.saturating_add-self-inside.ensures ∙ ap (λ n. min (c.self.inside.pruned + n) (2 ^ 64 - 1)) (c.from.ensures ∙ byte_count c.remove-removed.result ∙ count)
    ∙ ap (λ t. min (t.pruned + cond {A = ℕ} (is_some (key_at t t.start)) 1 0) (2 ^ 64 - 1)) c.self.view_is
