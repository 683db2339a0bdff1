use Rattle.std.proofs.Common.{◌≡◌, [], map, length, refl, sym, ap, ◌∙◌, arith}
use Rattle.std.proofs.lemmas.List.{length-map, length-set, nil_from_length}
use Rattle.std.specs.Vec.Iter.{into_iter_items}
use Rattle.key_index_flat.specs.Content.{is_filled}
use Rattle.key_index_parts.specs.Buckets.{with_items_from}
use Rattle.key_index_parts.proofs.buckets.BucketLemmas.{IsBucket, flags_edited, not_not}
use Rattle.key_index_parts.proofs.buckets.InstallLemmas.{put_more, put_none}
use Rattle.key_index_parts.proofs.index.partitioned.storage.install_buckets.Goals as goal

pub loop-bucket-init : goal.loop-bucket-init
loop-bucket-init g c =
    let items = c.into_iter-rest.ensures.rest in
    let size = ap (λ xs. length xs) items in (
      refl,
      omega (arith, c.requires.fits, size),
      ap (λ xs. with_items_from c.args.buckets.now.items c.args.first xs) items,
      c.requires.filled,
    )

pub loop-bucket-smaller : goal.loop-bucket-smaller
loop-bucket-smaller g c = let e = ap (λ l. length l) c.in-Some.ensures.items in omega (arith, e)

pub set-requires : goal.set-requires
set-requires g c =
    let e = ap (λ l. length l) c.in-Some.ensures.items in
    let inside = c.loop-bucket.invariant.1 in
    let flags = ap (λ l. length l) c.loop-bucket.invariant.3 in
    let as_many = length-map (map g.X.Contents.content c.loop-bucket.buckets.items) is_filled in
    let same = length-map c.loop-bucket.buckets.items g.X.Contents.content in
    omega (arith, e, inside, flags, as_many, same)

pub index_mut-requires : goal.index_mut-requires
index_mut-requires g c = let e = ap (λ l. length l) c.in-Some.ensures.items in let inside = c.loop-bucket.invariant.1 in omega (arith, e, inside, c.loop-bucket.buckets.ok.0)

pub overflow_add-number : goal.overflow_add-number
overflow_add-number g c =
    let e = ap (λ l. length l) c.in-Some.ensures.items in let same = c.loop-bucket.invariant.0 in let inside = c.loop-bucket.invariant.1 in
    omega (arith, e, same, inside, c.requires.most)

pub loop-bucket-preserved : goal.loop-bucket-preserved
loop-bucket-preserved g c =
    let xs = c.loop-bucket.buckets.items in
    let n = c.loop-bucket.number in
    let x = c.in-Some.bucket in
    let behind = into_iter_items c.next.new.self in
    let e = ap (λ l. length l) c.in-Some.ensures.items in
    let inside = c.loop-bucket.invariant.1 in
    let same = length-set xs n x in
    let was = c.loop-bucket.invariant.0 in
    let bucket : IsBucket g.X.Contents.content xs n c.index_mut.result.now = record { inside = omega (arith, e, inside); at = c.index_mut.ensures.value } in (
      omega (arith, same, was),
      omega (arith, same, e, inside),
      put_more xs n x behind (omega (arith, e, inside)) ∙ ap (λ ys. with_items_from xs n ys) (sym c.in-Some.ensures.items) ∙ c.loop-bucket.invariant.2,
      c.set.ensures ∙ flags_edited g.T.Key.Ord.cmp bucket c.loop-bucket.filled x _ c.loop-bucket.invariant.3 (not_not _ _ c.is_empty.ensures),
    )

pub returns-clause-buckets : goal.returns-clause-buckets
returns-clause-buckets g c =
    let none : into_iter_items c.loop-bucket.rest ≡ [] = nil_from_length (into_iter_items c.loop-bucket.rest) (sym c.loop-bucket.rest.rest.ok.0 ∙ c.in_default.ensures.cases.0) in
    sym (put_none c.loop-bucket.buckets.items c.loop-bucket.number) ∙ ap (λ xs. with_items_from c.loop-bucket.buckets.items c.loop-bucket.number xs) (sym none) ∙ c.loop-bucket.invariant.2

pub returns-clause-filled : goal.returns-clause-filled
returns-clause-filled g c = c.loop-bucket.invariant.3
