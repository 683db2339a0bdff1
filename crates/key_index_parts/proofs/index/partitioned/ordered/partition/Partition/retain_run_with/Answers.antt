use Rattle.std.proofs.Common.{◌≡◌, ◌++◌, ◌∷◌, [], true, subst, ap, ◌∙◌, arith}
use Rattle.std.specs.Fn.{CalledAt}
use Rattle.std.specs.List.{slice_range, zip}
use Rattle.key_index_flat.specs.Content.{list_at}
use Rattle.key_index_flat.specs.Retention.{AsksInTurn}
use Rattle.key_index_parts.specs.Pairs.{grouped}
use Rattle.key_index_parts.proofs.pairs.FoundRun.{IsRunOf, run_of_pairs}
use Rattle.key_index_parts.proofs.index.partitioned.ordered.partition.Partition.retain_run_with.Given.{Over}
use Rattle.key_index_parts.proofs.index.partitioned.ordered.partition.Partition.retain_run_with.Goals.{After-self, After-keep_with-left}
use Rattle.key_index_parts.proofs.index.partitioned.ordered.partition.Partition.retain_run_with.Goals as goal

own_run : (g : Over) (c : After-self g) → IsRunOf g.K.Ord.cmp c.args.self.now.pairs c.args.key c.self.inside.keys.items c.self.inside.values.items c.args.run.start c.args.run.end
own_run g c = run_of_pairs g.met.K.Ord.total c.requires.exact c.requires.found (ap (λ s. s.pairs) c.self.view_is) c.self.invariant

pub keep_with-left-requires-clause-end : goal.keep_with-left-requires-clause-end
keep_with-left-requires-clause-end g c = let run = own_run g (goal.at.keep_with-left-requires-clause-end g c).After-self in omega (arith, run.within, c.self.invariant.sized)

pub insert-requires : goal.insert-requires
insert-requires g c = let run = own_run g (goal.at.insert-requires g c).After-self in omega (arith, run.within, c.self.inside.keys.ok.0)

pub take_out-requires-clause-within : goal.take_out-requires-clause-within
take_out-requires-clause-within g c = (own_run g (goal.at.take_out-requires-clause-within g c).After-self).within

asked : (g : Over) (c : After-keep_with-left g) → slice_range c.self.inside.values.items c.args.run.start c.args.run.end ≡ list_at g.K.Ord.cmp (grouped g.K.Ord.cmp c.args.self.now.pairs) c.args.key
    → AsksInTurn (CalledAt g.F.FnMut) c.args.should_retain true (list_at g.K.Ord.cmp (grouped g.K.Ord.cmp c.args.self.now.pairs) c.args.key ++ c.args.value ∷ []) c.keep_with-left.ensures.kept.0 c.keep_with-left.result.1
asked g c run = subst (λ l. AsksInTurn (CalledAt g.F.FnMut) c.args.should_retain true (l ++ c.args.value ∷ []) c.keep_with-left.ensures.kept.0 c.keep_with-left.result.1) run c.keep_with-left.ensures.kept.1

pub invariant_of-self : goal.invariant_of-self
invariant_of-self g c =
    let kept = c.keep_with-left.ensures.kept in
    let run = own_run g (goal.at.invariant_of-self g c).After-self in
    rw (c.in-Ok.ensures.items, kept.2) (run.more kept.0 (omega (arith, c.if-left-end.true, c.keep_with-left.ensures.within, kept.3))).paired

pub invariant_of-self-2 : goal.invariant_of-self-2
invariant_of-self-2 g c =
    let kept = c.keep_with-left.ensures.kept in
    let run = own_run g (goal.at.invariant_of-self-2 g c).After-self in
    rw (c.take_out.ensures.items, kept.2) (run.fewer c.keep_with-left.result.0 kept.0 (omega arith) kept.3).paired

pub returns : goal.returns
returns g c =
    let at = goal.at.returns g c in
    let kept = c.keep_with-left.ensures.kept in
    let run = own_run g at.After-self in
    let now = run.fewer c.keep_with-left.result.0 kept.0 (omega arith) kept.3 in
    record { kept = (kept.0, asked g at.After-keep_with-left run.values, (λ j. grouped g.K.Ord.cmp (zip (c.take_out.ensures.items j) (kept.2 j))) ∙ now.content, kept.3) }

pub returns-then-left-end : goal.returns-then-left-end
returns-then-left-end g c =
    let at = goal.at.returns-then-left-end g c in
    let kept = c.keep_with-left.ensures.kept in
    let run = own_run g at.After-self in
    let now = run.more kept.0 (omega (arith, c.if-left-end.true, c.keep_with-left.ensures.within, kept.3)) in
    record { kept = (kept.0, asked g at.After-keep_with-left run.values, (λ j. grouped g.K.Ord.cmp (zip (c.in-Ok.ensures.items j) (kept.2 j))) ∙ now.content, kept.3) }
