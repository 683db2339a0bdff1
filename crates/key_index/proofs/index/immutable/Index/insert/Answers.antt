use Rattle.std.proofs.Common.{◌^◌, ◌<◌, ◌≤◌, sym, ap, subst, ◌∙◌}
use Rattle.std.specs.Option.{option_map}
use Rattle.key_index.specs.Immutable.{mixed_hash, key_at, with_key}
use Rattle.key_index.proofs.positions.ImmutableLemmas.{key_at-inserted, inserted_log, hash_of_position, kept_cells}
use Rattle.key_index.proofs.index.immutable.Index.insert.Goals as goal

pub insert-requires : goal.insert-requires
insert-requires g c =
    let free = ap (λ t. key_at t c.args.position) c.self.view_is ∙ c.requires.free in
    (_, c.self.invariant.stored, ap (option_map (mixed_hash g.T.Translator.hashed c.self.inside.translator)) free, hash_of_position (mixed_hash g.T.Translator.hashed) _ c.self.invariant c.take_room.new.keys.items c.take_room.ensures.keys)

pub invariant_of-self-2 : goal.invariant_of-self-2
invariant_of-self-2 g c =
    let free = ap (λ t. key_at t c.args.position) c.self.view_is ∙ c.requires.free in
    let none = ap (option_map (mixed_hash g.T.Translator.hashed c.self.inside.translator)) free in
    let start : c.self.inside.start ≤ c.args.position = subst (λ t. t.start ≤ c.args.position) (sym c.self.view_is) c.requires.start in
    let stored = rw c.hash_in_table-hash.ensures at
    (c.in_ok-insert.ensures.stored _ c.self.invariant.stored none (hash_of_position (mixed_hash g.T.Translator.hashed) _ c.self.invariant c.take_room.new.keys.items c.take_room.ensures.keys)) in
    inserted_log (mixed_hash g.T.Translator.hashed) _ c.insert.new.self c.put_key.new.keys.items c.args.position c.transform-translated.result c.self.invariant start c.ranges.position.fits
    stored c.put_key.ensures.cell (kept_cells _ _ _ _ c.take_room.ensures.keys c.put_key.ensures.others) (rw c.take_room.ensures.keys at c.put_key.ensures.len)
    (subst (λ n. n < 2 ^ 64) (sym c.in_ok-insert.ensures.removals) c.self.invariant.removals_fit)

pub returns-clause-keys : goal.returns-clause-keys
returns-clause-keys g c = λ p.
    let free = ap (λ t. key_at t c.args.position) c.self.view_is ∙ c.requires.free in
    let none = ap (option_map (mixed_hash g.T.Translator.hashed c.self.inside.translator)) free in
    let start : c.self.inside.start ≤ c.args.position = subst (λ t. t.start ≤ c.args.position) (sym c.self.view_is) c.requires.start in
    let stored = rw c.hash_in_table-hash.ensures at
    (c.in_ok-insert.ensures.stored _ c.self.invariant.stored none (hash_of_position (mixed_hash g.T.Translator.hashed) _ c.self.invariant c.take_room.new.keys.items c.take_room.ensures.keys)) in
    key_at-inserted (mixed_hash g.T.Translator.hashed) _ c.insert.new.self c.put_key.new.keys.items c.args.position c.transform-translated.result c.self.invariant start
    stored c.put_key.ensures.cell (kept_cells _ _ _ _ c.take_room.ensures.keys c.put_key.ensures.others) p
    ∙ ap (λ k. with_key (key_at (record { translator = c.self.inside.translator; start = c.self.inside.start; keys = c.self.inside.keys.items; cells = c.self.inside.table; pruned = c.self.inside.pruned })) c.args.position k p) c.transform-translated.ensures
    ∙ ap (λ t. with_key (key_at t) c.args.position (g.T.Translator.translated t.translator c.args.key.now) p) c.self.view_is
