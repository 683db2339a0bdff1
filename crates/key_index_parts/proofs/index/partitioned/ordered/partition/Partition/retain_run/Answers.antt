use Rattle.std.proofs.Common.{◌≡◌, ℕ, ◌+◌, ◌++◌, List, true, length, take, drop, ap, subst, ◌∙◌, arith}
use Rattle.std.specs.Fn.{CalledAt}
use Rattle.std.specs.List.{slice_range, remove_range, zip}
use Rattle.key_index_flat.specs.Retention.{AsksInTurn}
use Rattle.key_index_parts.specs.Pairs.{grouped}
use Rattle.key_index_parts.proofs.pairs.BehindLemmas.{written}
use Rattle.key_index_parts.proofs.pairs.FoundRun.{IsRunOf, run_of_pairs}
use Rattle.key_index_parts.proofs.index.partitioned.ordered.partition.Partition.retain_run.Given.{Over}
use Rattle.key_index_parts.proofs.index.partitioned.ordered.partition.Partition.retain_run.Goals.{After-self, After-keep_in_run-left}
use Rattle.key_index_parts.proofs.index.partitioned.ordered.partition.Partition.retain_run.Goals as goal

own_run : (g : Over) (c : After-self g) → IsRunOf g.K.Ord.cmp c.args.self.now.pairs c.args.key c.self.inside.keys.items c.self.inside.values.items c.args.run.start c.args.run.end
own_run g c = run_of_pairs g.met.K.Ord.total c.requires.exact c.requires.found (ap (λ s. s.pairs) c.self.view_is) c.self.invariant

pub keep_in_run-left-requires-clause-end : goal.keep_in_run-left-requires-clause-end
keep_in_run-left-requires-clause-end g c =
    let run = own_run g (goal.at.keep_in_run-left-requires-clause-end g c).After-self in
    omega (arith, run.within, ap length c.as_mut_slice.ensures.value, c.self.invariant.sized)

pub take_out-requires-clause-within : goal.take_out-requires-clause-within
take_out-requires-clause-within g c = (own_run g (goal.at.take_out-requires-clause-within g c).After-self).within

module _ (g : Over) (c : After-keep_in_run-left g) where
  abbrev old : List g.row.V.Denot
  old = c.self.inside.values.items

  abbrev new : List g.row.V.Denot
  new = c.keep_in_run-left.new.values

  abbrev from : ℕ
  from = c.args.run.start + c.keep_in_run-left.result.0

  -- the values after it is asked on them
  now : take c.self.inside.values.len (new ++ drop (length new) old) ≡ new
  now = written c.self.inside.values.len new old c.self.inside.values.ok.0 (c.keep_in_run-left.ensures.len ∙ ap length c.as_mut_slice.ensures.value)

  left : remove_range new from c.args.run.end ≡ take c.args.run.start old ++ c.keep_in_run-left.ensures.kept.0 ++ drop c.args.run.end old
  left =
      let was = c.as_mut_slice.ensures.value in
      λ j. (c.keep_in_run-left.ensures.kept.2 ∙ ap (λ l. take c.args.run.start l ++ c.keep_in_run-left.ensures.kept.0) was) j ++ (c.keep_in_run-left.ensures.back ∙ ap (drop c.args.run.end) was) j

pub take_out-requires-2-clause-within : goal.take_out-requires-2-clause-within
take_out-requires-2-clause-within g c =
    let at = goal.at.take_out-requires-2-clause-within g c in
    let run = own_run g at.After-self in
    omega (arith, run.within, ap length (now g at.After-keep_in_run-left), ap length c.as_mut_slice.ensures.value, c.keep_in_run-left.ensures.len, c.self.invariant.sized)

pub invariant_of-self : goal.invariant_of-self
invariant_of-self g c =
    let at = goal.at.invariant_of-self g c in
    let kept = c.keep_in_run-left.ensures.kept in
    rw (c.take_out.ensures.items, c.take_out-2.ensures.items, now g at.After-keep_in_run-left, left g at.After-keep_in_run-left)
    ((own_run g at.After-self).fewer c.keep_in_run-left.result.0 kept.0 c.keep_in_run-left.ensures.within kept.3).paired

pub returns : goal.returns
returns g c =
    let at = goal.at.returns g c in
    let run = own_run g at.After-self in
    let kept = c.keep_in_run-left.ensures.kept in
    let values = c.take_out-2.ensures.items ∙ ap (λ l. remove_range l (from g at.After-keep_in_run-left) c.args.run.end) (now g at.After-keep_in_run-left) ∙ left g at.After-keep_in_run-left in
    record {
      kept = (
        kept.0,
        subst (λ l. AsksInTurn (CalledAt g.F.FnMut) c.args.should_retain true l kept.0 c.keep_in_run-left.result.1)
            (ap (λ l. slice_range l c.args.run.start c.args.run.end) c.as_mut_slice.ensures.value ∙ run.values) kept.1,
        (λ j. grouped g.K.Ord.cmp (zip (c.take_out.ensures.items j) (values j))) ∙ (run.fewer c.keep_in_run-left.result.0 kept.0 c.keep_in_run-left.ensures.within kept.3).content,
        kept.3,
      );
    }
