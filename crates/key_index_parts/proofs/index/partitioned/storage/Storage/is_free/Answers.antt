use Rattle.std.proofs.Common.{None, map, refl, subst}
use Rattle.std.proofs.lemmas.Bool.{le-leb, leb-true}
use Rattle.key_index_parts.specs.Bitmap.{IsFirst, IsFirstFrom, flag_at}
use Rattle.key_index_parts.proofs.buckets.InstallLemmas.{free_in, free_buckets, free_none, free_far, free_near}
use Rattle.key_index_parts.proofs.index.partitioned.storage.Storage.is_free.Goals as goal

pub returns-in-Some : goal.returns-in-Some
returns-in-Some g c =
    let buckets = map g.X.Contents.content c.self.inside.buckets.items in
    let first = subst (λ flags. IsFirst (flag_at flags) c.args.first c.in-Some.number) c.self.invariant.1 c.in-Some.ensures in
    rw (← c.self.view_is) (
      λ far. free_in g.met.T.Key.Ord.total g.met.T.Translator.exact buckets c.args.first c.args.count (free_far buckets c.args.first c.args.count c.in-Some.number first (leb-true _ _ far)),
      λ free. le-leb _ _ (free_near buckets c.args.first c.args.count c.in-Some.number first (free_buckets g.met.T.Key.Ord.total g.met.T.Translator.exact buckets c.args.first c.args.count c.self.invariant.0.each free)),
    )

pub returns-in-None : goal.returns-in-None
returns-in-None g c =
    let buckets = map g.X.Contents.content c.self.inside.buckets.items in
    let none = subst (λ flags. IsFirstFrom (flag_at flags) c.args.first None) c.self.invariant.1 c.in-None.ensures in
    rw (← c.self.view_is) (
      λ _. free_in g.met.T.Key.Ord.total g.met.T.Translator.exact buckets c.args.first c.args.count (free_none buckets c.args.first c.args.count none),
      λ _. refl,
    )
