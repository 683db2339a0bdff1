use Rattle.std.proofs.Common.{◌≡◌, ◌+◌, ◌-◌, ◌≤◌, true, false, Bool, cond, length, Some, refl, sym, ap, subst, arith}
use Rattle.std.specs.Fn.{CalledAt}
use Rattle.std.specs.List.{items_where_true}
use mir.Val.{bool_byte}
use Rattle.key_index_flat.specs.Content.{list_at, with_list}
use Rattle.key_index_flat.proofs.closures.TurnLemmas.{kept_few}
use Rattle.key_index_parts.specs.Buckets.{RetainsList}
use Rattle.key_index_parts.specs.Pairs.{IsFound, grouped}
use Rattle.key_index_parts.proofs.pairs.FoundRun.{run_count, length-kept_of_run, few_of_run, asks_behind_run}
use Rattle.key_index_parts.proofs.index.partitioned.bucket.sorted_arrays.SortedArraysRepresentation.retain.Given.{Over}
use Rattle.key_index_parts.proofs.index.partitioned.bucket.sorted_arrays.SortedArraysRepresentation.retain.Goals.{After-from, After-retain_run-left}
use Rattle.key_index_parts.proofs.index.partitioned.bucket.sorted_arrays.SortedArraysRepresentation.retain.Goals as goal

as_byte : (b : Bool) → cond b 1 0 ≡ bool_byte b
as_byte true = refl
as_byte false = refl

-- no new value: no more values stay than were held
fewer : (g : Over) (c : After-retain_run-left g) → c.retain_run-left.result.0 ≤ length (list_at g.T.Key.Ord.cmp (grouped g.T.Key.Ord.cmp c.args.self.now.pairs.pairs) c.args.key)
fewer g c =
    let kept = c.retain_run-left.ensures.kept in
    let few = kept_few kept.1.0 (list_at g.T.Key.Ord.cmp (grouped g.T.Key.Ord.cmp c.args.self.now.pairs.pairs) c.args.key) in
    let same = ap (λ l. length l) kept.1.4 in
    omega (arith, few, same, kept.3)

pub overflow_sub-taken : goal.overflow_sub-taken
overflow_sub-taken g c =
    let few = fewer g (goal.at.overflow_sub-taken g c).After-retain_run-left in
    let count = run_count g.met.T.Key.Ord.total g.met.T.Translator.exact c.run_range-run.ensures in
    omega (arith, few, count)

pub returns-in_default-clause-accepted : goal.returns-in_default-clause-accepted
returns-in_default-clause-accepted g c =
    let kept = c.retain_run-left.ensures.kept in
    let asked = kept.1 in
    let few = fewer g (goal.at.returns-in_default-clause-accepted g c).After-retain_run-left in
    let count = run_count g.met.T.Key.Ord.total g.met.T.Translator.exact c.run_range-run.ensures in
    rw (sym c.in_default.ensures.value) (
      kept.0,
      ((asked.0, asked.1, asked.2, asked.3, asked.4), omega (arith, few, count, kept.3)),
      kept.2,
      omega (arith, count),
      kept.3,
    )

module _ (g : Over) (c : After-from g) where
  found : IsFound g.T.Key.Ord.cmp c.reserve.new.self.pairs c.args.key c.run_range-run.result.start c.run_range-run.result.end
  found = subst (λ es. IsFound g.T.Key.Ord.cmp es c.args.key c.run_range-run.result.start c.run_range-run.result.end) (sym c.reserve.ensures.pairs) c.run_range-run.ensures

  count : c.run_range-run.result.end ≡ c.run_range-run.result.start + length (list_at g.T.Key.Ord.cmp (grouped g.T.Key.Ord.cmp c.reserve.new.self.pairs) c.args.key)
  count = run_count g.met.T.Key.Ord.total g.met.T.Translator.exact found

  -- how many of the held values stay, and the new one
  left : c.retain_run_with-left.result.0 ≡ length (items_where_true c.retain_run_with-left.ensures.kept.1.0 (list_at g.T.Key.Ord.cmp (grouped g.T.Key.Ord.cmp c.reserve.new.self.pairs) c.args.key)) + c.from.result
  left =
      let told = length-kept_of_run g.met.T.Key.Ord.total g.met.T.Translator.exact found (CalledAt g.F.FnMut) c.args.should_retain c.in-Some.value c.retain_run_with-left.ensures.kept.1 in
      let one = as_byte c.retain_run_with-left.result.1 in
      omega (arith, told, one, c.from.ensures, c.retain_run_with-left.ensures.kept.3)

  few : length (items_where_true c.retain_run_with-left.ensures.kept.1.0 (list_at g.T.Key.Ord.cmp (grouped g.T.Key.Ord.cmp c.reserve.new.self.pairs) c.args.key))
      ≤ length (list_at g.T.Key.Ord.cmp (grouped g.T.Key.Ord.cmp c.reserve.new.self.pairs) c.args.key)
  few = few_of_run g.met.T.Key.Ord.total g.met.T.Translator.exact found (CalledAt g.F.FnMut) c.args.should_retain c.in-Some.value c.retain_run_with-left.ensures.kept.1

pub overflow_sub-taken-2 : goal.overflow_sub-taken-2
overflow_sub-taken-2 g c = let stay = left g c in omega (arith, stay)

pub overflow_sub-taken-3 : goal.overflow_sub-taken-3
overflow_sub-taken-3 g c =
    let at = (goal.at.overflow_sub-taken-3 g c).After-from in
    let stay = left g at in let within = few g at in let all = count g at in omega (arith, stay, within, all)

pub returns-clause-accepted : goal.returns-clause-accepted
returns-clause-accepted g c =
    let cmp = g.T.Key.Ord.cmp in
    let at = (goal.at.returns-clause-accepted g c).After-from in
    let kept = c.retain_run_with-left.ensures.kept in
    let had = c.run_range-run.result.end - c.run_range-run.result.start in
    let taken = had - (c.retain_run_with-left.result.0 - c.from.result) in
    let stay = left g at in
    let within = few g at in
    let all = count g at in
    rw (sym c.in-Some.ensures.value)
    (subst (λ es. RetainsList (CalledAt g.F.FnMut) c.args.should_retain (list_at cmp (grouped cmp es) c.args.key) (Some c.in-Some.value) (record { had = had; left = c.retain_run_with-left.result.0; taken = taken })
    (λ l. grouped cmp c.retain_run_with-left.new.self.pairs ≡ with_list cmp (grouped cmp es) c.args.key l)) c.reserve.ensures.pairs (
      kept.0,
      asks_behind_run g.met.T.Key.Ord.total g.met.T.Translator.exact (found g at) (CalledAt g.F.FnMut) c.args.should_retain c.in-Some.value kept.1 taken (omega (arith, stay, within, all)),
      kept.2,
      omega (arith, all),
      kept.3,
    ))
