use Rattle.std.proofs.Common.{◌≡◌, [], ◌∷◌, length, refl, ap, subst, ◌∙◌}
use Rattle.key_index_flat.specs.View.{with_run}
use Rattle.key_index_parts.specs.Buckets.{held_at, view_of}
use Rattle.key_index_parts.specs.Gathered.{pair_cmp}
use Rattle.key_index_parts.specs.Standing.{Settles}
use Rattle.key_index_parts.proofs.index.partitioned.ordered.IndexSearch.reach_or_insert.Goals as goal

pub returns-clause-reached : goal.returns-clause-reached
returns-clause-reached g c =
    let at = c.slot_of-slot.ensures in
    (at, c.in_ok-len.ensures.len ∙ ap (λ s. length (held_at g.T.Key.Ord.cmp c.args.self.now.storage.buckets s)) at)

pub returns-clause-inserted : goal.returns-clause-inserted
returns-clause-inserted g c = λ none.
    let storage = c.args.self.now.storage in
    let new = c.insert_absent.new.self in
    let view = view_of g.row.P g.T.Translator.translated storage in
    let at = c.slot_of-slot.ensures in (
      subst (λ s. view_of g.row.P g.T.Translator.translated new ≡ with_run (pair_cmp g.T.Key.Ord.cmp) view s (c.args.value ∷ [])) at (c.in_ok-len.ensures.inserted none),
      subst (λ s. Settles storage.standings s.0 new.standings) at (c.in_ok-len.ensures.settled refl),
    )
