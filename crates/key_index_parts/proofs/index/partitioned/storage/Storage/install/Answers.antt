use Rattle.std.proofs.Common.{◌≡◌, map, length, sym, ap, subst, ◌∙◌, arith}
use Rattle.std.proofs.lemmas.List.{length-map}
use Rattle.key_index_flat.specs.View.{pruned_after}
use Rattle.key_index_parts.specs.Buckets.{stands, standing_of_all, standings_with, with_items_from}
use Rattle.key_index_parts.specs.Moves.{IsRangeWithin, IsWithin}
use Rattle.key_index_parts.specs.Standing.{Standing, Standings, joined_standings, standings_of}
use Rattle.key_index_parts.proofs.buckets.StorageLemmas.{at_most_three, keys_below}
use Rattle.key_index_parts.proofs.standing.PaidLemmas.{entries-AreFree, map-with_items_from}
use Rattle.key_index_parts.proofs.standing.MoveLemmas.{install_within}
use Rattle.key_index_parts.proofs.index.partitioned.storage.Storage.install.Given.{Over}
use Rattle.key_index_parts.proofs.index.partitioned.storage.Storage.install.Goals.{After-install_buckets}
use Rattle.key_index_parts.proofs.buckets.InstallLemmas as put
use Rattle.key_index_parts.proofs.index.partitioned.storage.Storage.install.Goals as goal

pub join-requires-clause-keys : goal.join-requires-clause-keys
join-requires-clause-keys g c =
    let own = keys_below c.self.invariant.0 in
    let other = keys_below c.range.invariant.0 in
    let room = put.room_inside g.T.Key.Ord.cmp c.args.first c.self.view_is c.range.view_is c.requires.room in
    let was = c.self.invariant.0.counted in
    let more = c.range.invariant.0.counted in
    omega (arith, own, other, was, more, room)

pub install_buckets-requires-clause-most : goal.install_buckets-requires-clause-most
install_buckets-requires-clause-most g c =
    let most = at_most_three g.row.P c.self.invariant.0.greatest in
    let same = length-map c.self.inside.buckets.items g.X.Contents.content in
    let sized = c.self.invariant.0.sized in omega (arith, most, sized, same)

contents_now : (g : Over) (c : After-install_buckets g) → map g.X.Contents.content c.install_buckets.new.buckets.items ≡ with_items_from (map g.X.Contents.content c.self.inside.buckets.items) c.args.first (map g.X.Contents.content c.range.inside.buckets.items)
contents_now g c = ap (λ xs. map g.X.Contents.content xs) c.install_buckets.ensures.buckets ∙ map-with_items_from g.X.Contents.content c.self.inside.buckets.items c.range.inside.buckets.items c.args.first

standing_now : (g : Over) (c : After-install_buckets g) → standing_of_all g.X.Contents.content g.X.Contents.spilled c.install_buckets.new.buckets.items ≡ with_items_from (standing_of_all g.X.Contents.content g.X.Contents.spilled c.self.inside.buckets.items) c.args.first (standing_of_all g.X.Contents.content g.X.Contents.spilled c.range.inside.buckets.items)
standing_now g c =
    let how : g.row.X.Denot → Standing = λ x. stands (g.X.Contents.content x) (g.X.Contents.spilled x) in
    ap (λ xs. map how xs) c.install_buckets.ensures.buckets ∙ map-with_items_from how c.self.inside.buckets.items c.range.inside.buckets.items c.args.first

pub invariant_of-self-inside : goal.invariant_of-self-inside
invariant_of-self-inside g c =
    let own = c.self.inside in
    let other = c.range.inside in
    let first = c.args.first in
    let fits = put.fits_inside g.T.Key.Ord.cmp c.args.first c.self.view_is c.range.view_is c.requires.fits in
    let free = put.free_inside g.T.Key.Ord.cmp c.args.first c.self.view_is c.range.view_is c.requires.free in
    let size = length-map own.buckets.items g.X.Contents.content in
    let more = length-map other.buckets.items g.X.Contents.content in
    let stand = length-map own.buckets.items (λ x. stands (g.X.Contents.content x) (g.X.Contents.spilled x)) in
    let range_stand = length-map other.buckets.items (λ x. stands (g.X.Contents.content x) (g.X.Contents.spilled x)) in
    let gap = put.free_buckets g.met.T.Key.Ord.total g.met.T.Translator.exact (map g.X.Contents.content own.buckets.items) first (length (map g.X.Contents.content other.buckets.items)) c.self.invariant.0.each free in
    let old : Standings = standings_with g.X.Contents.content g.X.Contents.spilled own.buckets.items own.moves in
    let range : Standings = standings_with g.X.Contents.content g.X.Contents.spilled other.buckets.items other.moves in
    let apart = subst (λ k. IsRangeWithin k.standings k.pruned) (sym c.range.view_is) c.requires.within in
    let joined = install_within old range first own.counts.pruned other.counts.pruned (omega (arith, fits, size, more, stand, range_stand))
    (λ n from upto. entries-AreFree g.X.Contents.content g.X.Contents.spilled own.buckets.items first (length (map g.X.Contents.content other.buckets.items)) gap n from (omega (arith, upto, more, range_stand))) own.within apart in
    let now : standings_with g.X.Contents.content g.X.Contents.spilled c.install_buckets.new.buckets.items c.join-2.new.self ≡ joined_standings old first range =
    λ i. standings_of (c.join-2.ensures.threshold i) (standing_now g (goal.at.invariant_of-self-inside g c).After-install_buckets i) (c.join-2.ensures.spills i) (c.join-2.ensures.moved i) in (
      subst (λ q. IsWithin (standings_with g.X.Contents.content g.X.Contents.spilled c.install_buckets.new.buckets.items c.join-2.new.self) q) (sym c.join.ensures.pruned)
          (subst (λ s. IsWithin s (pruned_after own.counts.pruned other.counts.pruned)) (sym now) joined),
      tt,
    )

pub invariant_of-self : goal.invariant_of-self
invariant_of-self g c =
    let fits = put.fits_inside g.T.Key.Ord.cmp c.args.first c.self.view_is c.range.view_is c.requires.fits in
    let free = put.free_inside g.T.Key.Ord.cmp c.args.first c.self.view_is c.range.view_is c.requires.free in
    (put.IsCounted-installed g.met.T.Key.Ord.total g.met.T.Translator.exact c.self.invariant.0 c.range.invariant.0 c.args.first fits free (map g.X.Contents.content c.install_buckets.new.buckets.items) (contents_now g (goal.at.invariant_of-self g c).After-install_buckets) _ _ c.join.ensures.items c.join.ensures.keys, c.install_buckets.ensures.filled)

pub returns-clause-joined : goal.returns-clause-joined
returns-clause-joined g c =
    let fits = put.fits_inside g.T.Key.Ord.cmp c.args.first c.self.view_is c.range.view_is c.requires.fits in
    let free = put.free_inside g.T.Key.Ord.cmp c.args.first c.self.view_is c.range.view_is c.requires.free in
    let told = contents_now g (goal.at.returns-clause-joined g c).After-install_buckets in
    rw (← c.self.view_is) (rw (← c.range.view_is) (
    put.seen_joined g.met.T.Key.Ord.total g.met.T.Translator.exact c.self.invariant.0 c.range.invariant.0 c.args.first fits free (map g.X.Contents.content c.install_buckets.new.buckets.items) told g.T.Translator.translated c.self.inside.translator c.range.inside.translator _ _ _ c.join.ensures.pruned
    ))

pub returns-clause-kept : goal.returns-clause-kept
returns-clause-kept g c =
    let fits = put.fits_inside g.T.Key.Ord.cmp c.args.first c.self.view_is c.range.view_is c.requires.fits in
    let free = put.free_inside g.T.Key.Ord.cmp c.args.first c.self.view_is c.range.view_is c.requires.free in
    let told = contents_now g (goal.at.returns-clause-kept g c).After-install_buckets in
    rw (← c.self.view_is) (put.KeepsBuckets-installed g.met.T.Key.Ord.total g.met.T.Translator.exact c.self.invariant.0 c.range.invariant.0 c.args.first fits free (map g.X.Contents.content c.install_buckets.new.buckets.items) told)

pub returns-clause-standing : goal.returns-clause-standing
returns-clause-standing g c =
    let now = standing_now g (goal.at.returns-clause-standing g c).After-install_buckets in
    rw (← c.self.view_is) (rw (← c.range.view_is) (λ i. standings_of (c.join-2.ensures.threshold i) (now i) (c.join-2.ensures.spills i) (c.join-2.ensures.moved i)))
