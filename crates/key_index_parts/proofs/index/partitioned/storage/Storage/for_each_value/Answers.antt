use Rattle.std.proofs.Common.{◌≡◌, length, map, ap, subst, sym, ◌∙◌, arith}
use Rattle.std.specs.Fn.{CalledAt}
use Rattle.std.specs.List.{flat_map}
use Rattle.key_index_flat.specs.Values.{values_of}
use Rattle.key_index_parts.specs.Gathered.{gathered}
use Rattle.key_index_parts.proofs.closures.VisitLemmas.{Continues, Continues-start, some_more, VisitsEach-ended, values-gathered, length-no_values}
use Rattle.key_index_parts.proofs.index.partitioned.storage.Storage.for_each_value.Goals as goal

pub loop-bucket-init : goal.loop-bucket-init
loop-bucket-init g c =
    let values = values_of (gathered c.args.self.now.buckets) in
    let all : values ≡ flat_map values_of (map g.X.Contents.content c.as_slice-rest.result.now) =
    values-gathered 0 c.args.self.now.buckets ∙ sym (ap (λ xs. flat_map values_of (map g.X.Contents.content xs)) c.as_slice-rest.ensures.value ∙ ap (λ s. flat_map values_of s.buckets) c.self.view_is) in (
      c.requires,
      subst (λ l. Continues (CalledAt g.F.FnMut) c.args.visit.now values c.args.visit.now l) all (Continues-start (CalledAt g.F.FnMut) c.args.visit.now values),
    )

pub loop-bucket-smaller : goal.loop-bucket-smaller
loop-bucket-smaller g c = let e = ap (λ l. length l) c.in-Some.ensures.cases.0 in omega (arith, e)

pub loop-bucket-preserved : goal.loop-bucket-preserved
loop-bucket-preserved g c =
    let values = values_of (gathered c.args.self.now.buckets) in
    let ask = CalledAt g.F.FnMut in
    let at = c.loop-bucket.visit in
    let behind = flat_map values_of (map g.X.Contents.content c.in-Some.behind.now) in (
      c.for_each_value.ensures.callable,
      some_more ask c.args.visit.now at c.for_each_value.new.visit values (values_of (g.X.Contents.content c.in-Some.bucket.now)) behind
          (subst (λ xs. Continues ask c.args.visit.now values at (flat_map values_of (map g.X.Contents.content xs))) c.in-Some.ensures.cases.0 c.loop-bucket.invariant.1)
          c.for_each_value.ensures.visits,
    )

pub returns : goal.returns
returns g c =
    let values = values_of (gathered c.args.self.now.buckets) in
    VisitsEach-ended (CalledAt g.F.FnMut) c.args.visit.now c.loop-bucket.visit values (flat_map values_of (map g.X.Contents.content c.loop-bucket.rest.now))
    (length-no_values g.X.Contents.content c.loop-bucket.rest.now c.in_default.ensures.cases) c.loop-bucket.invariant.1
