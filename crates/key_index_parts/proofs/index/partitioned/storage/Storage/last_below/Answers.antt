use Rattle.std.proofs.Common.{◌≡◌, ℕ, ◌<◌, map, false, refl, sym, ap, subst, ◌∙◌}
use Rattle.key_index_flat.specs.Neighbours.{last_list}
use Rattle.key_index_parts.specs.Bitmap.{IsLast, flag_at}
use Rattle.key_index_parts.proofs.buckets.BucketLemmas.{bucket_seen}
use Rattle.key_index_parts.proofs.buckets.BucketNeighbours.{flag_at-within, last_of, last_list-no_flags}
use Rattle.key_index_parts.proofs.index.partitioned.storage.Storage.last_below.Goals as goal

pub returns-in-Some : goal.returns-in-Some
returns-in-Some g c =
    let f = g.X.Contents.content in
    let xs = c.self.inside.buckets.items in
    let n = c.in-Some.number in
    let found = subst (λ flags. IsLast (flag_at flags) c.args.end n) c.self.invariant.1 c.in-Some.ensures in
    let told = bucket_seen f xs refl (flag_at-within (map f xs) n found.here) c.index.ensures in
    rw (← c.self.view_is)
    (c.last.ensures ∙ ap (λ d. last_list d) told ∙ sym (last_of (map f xs) c.args.end n found))

pub returns-in-None : goal.returns-in-None
returns-in-None g c =
    let f = g.X.Contents.content in
    let xs = c.self.inside.buckets.items in
    rw (← c.self.view_is)
    (sym (last_list-no_flags (map f xs) c.args.end (subst (λ flags. (p : ℕ) → p < c.args.end → flag_at flags p ≡ false) c.self.invariant.1 c.in-None.ensures)))
