use Rattle.std.proofs.Common.{◌≡◌, false, [], ◌∷◌, map, length, replicate, refl, sym, ap, subst, ◌∙◌, arith, All}
use Rattle.std.proofs.lemmas.List.{length-replicate}
use Rattle.std.proofs.lemmas.List.Elements.{All-push}
use Rattle.key_index_flat.specs.Content.{IsLawful}
use Rattle.key_index_parts.specs.Buckets.{filled_buckets, stands, standing_of_all}
use Rattle.key_index_parts.specs.Gathered.{pair_cmp}
use Rattle.key_index_parts.specs.Standing.{Standing, standings_of}
use Rattle.key_index_parts.proofs.buckets.BucketLemmas.{all_alike, none_filled}
use Rattle.key_index_parts.proofs.buckets.StorageLemmas.{at_most_three, none_held, none_counted}
use Rattle.key_index_parts.proofs.standing.MoveLemmas.{new_within}
use Rattle.key_index_parts.proofs.index.partitioned.storage.Storage.new.Given.{Over}
use Rattle.key_index_parts.proofs.index.partitioned.storage.Storage.new.Goals.{At-loop}
use Rattle.std.proofs.Common.{length-append}
use Rattle.key_index_parts.proofs.index.partitioned.storage.Storage.new.Goals as goal

pub new-requires : goal.new-requires
new-requires g c = let most = at_most_three g.row.P c.requires.greatest in omega (arith, most, c.requires.count)

pub loop-preserved : goal.loop-preserved
loop-preserved g c =
    let none : Standing = record { entries = 0; spilled = false } in
    let how : g.row.X.Denot → Standing = λ x. stands (g.X.Contents.content x) (g.X.Contents.spilled x) in
    let more = c.push_reserved.ensures.items in
    let one = length-append c.loop.buckets.items (c.new-in-loop.result ∷ []) in
    let count = ap (λ l. length l) more in (
      omega (arith, one, count, c.loop.invariant.0),
      omega (arith, c.push_reserved.ensures.capacity, c.loop.invariant.1),
      subst (All (λ bucket. g.X.Contents.content bucket ≡ [])) (sym more) (All-push (λ bucket. g.X.Contents.content bucket ≡ []) c.loop.buckets.items c.new-in-loop.result c.loop.invariant.2 c.new-in-loop.ensures.content),
      subst (All (λ bucket. how bucket ≡ none)) (sym more) (All-push (λ bucket. how bucket ≡ none) c.loop.buckets.items c.new-in-loop.result c.loop.invariant.3
          (λ i. stands (c.new-in-loop.ensures.content i) (c.new-in-loop.ensures.standing i))),
    )

-- none of the buckets holds anything
all_empty : (g : Over) (c : At-loop g) → c.loop.counter ≡ c.args.count → map g.X.Contents.content c.loop.buckets.items ≡ replicate c.args.count []
all_empty g c end = all_alike g.X.Contents.content [] c.loop.buckets.items c.loop.invariant.2 ∙ ap (λ n. replicate n []) (c.loop.invariant.0 ∙ end)

pub invariant_of-result : goal.invariant_of-result
invariant_of-result g c = record { least = c.requires.threshold }

pub invariant_of-result-2 : goal.invariant_of-result-2
invariant_of-result-2 g c = (new_within (standings_of c.args.threshold (standing_of_all g.X.Contents.content g.X.Contents.spilled c.loop.buckets.items) 0 0) 0 refl, tt)

pub invariant_of-result-3 : goal.invariant_of-result-3
invariant_of-result-3 g c =
    let end : c.loop.counter ≡ c.args.count = omega (arith, c.loop-test.false, c.loop.auto.counter-end) in
    let none = all_empty g (goal.at.invariant_of-result-3 g c).At-loop end in (
      none_counted g.T.Key.Ord.cmp g.row.P _ _ c.requires.least c.requires.greatest none c.requires.count,
      c.in-Ok-Ok.ensures' ∙ sym (ap (λ buckets. filled_buckets buckets) none ∙ none_filled g.row.T-Key.Denot g.row.V.Denot c.args.count),
    )

pub returns-clause-sized : goal.returns-clause-sized
returns-clause-sized g c =
    let end : c.loop.counter ≡ c.args.count = omega (arith, c.loop-test.false, c.loop.auto.counter-end) in
    let none = all_empty g (goal.at.returns-clause-sized g c).At-loop end in
    ap (λ cs. length cs) none ∙ length-replicate c.args.count []

pub returns-clause-content : goal.returns-clause-content
returns-clause-content g c =
    let end : c.loop.counter ≡ c.args.count = omega (arith, c.loop-test.false, c.loop.auto.counter-end) in
    none_held _ _ (all_empty g (goal.at.returns-clause-content g c).At-loop end)

pub returns-clause-lawful : goal.returns-clause-lawful
returns-clause-lawful g c =
    let end : c.loop.counter ≡ c.args.count = omega (arith, c.loop-test.false, c.loop.auto.counter-end) in
    subst (λ w. IsLawful (pair_cmp g.T.Key.Ord.cmp) w) (sym (none_held _ _ (all_empty g (goal.at.returns-clause-lawful g c).At-loop end))) (tt, tt)

pub returns-clause-standing : goal.returns-clause-standing
returns-clause-standing g c =
    let none : Standing = record { entries = 0; spilled = false } in
    let end : c.loop.counter ≡ c.args.count = omega (arith, c.loop-test.false, c.loop.auto.counter-end) in
    let each = all_alike (λ x. stands (g.X.Contents.content x) (g.X.Contents.spilled x)) none c.loop.buckets.items c.loop.invariant.3 ∙ ap (λ n. replicate n none) (c.loop.invariant.0 ∙ end) in
    λ i. standings_of c.args.threshold (each i) 0 0
