use Rattle.std.proofs.Common.{◌≡◌, true, ℕ, suc, ◌+◌, ◌<◌, List, [], ◌∷◌, ◌++◌, length, insert, take, drop, sym, ap, subst, ◌∙◌, arith}
use Rattle.std.proofs.Math.ListN.{set}
use Rattle.std.proofs.Math.Seq.{drop-cons, drop-append_seam, take-append_seam}
use Rattle.std.proofs.lemmas.List.{drop-set, take-set, drop_all, take_all, length-set}
use Rattle.std.specs.Fn.{CalledAt}
use Rattle.std.specs.List.{remove_range, slice_range}
use Rattle.key_index_flat.specs.Retention.{AsksInTurn}
use Rattle.key_index_parts.proofs.pairs.BehindLemmas.{written, Behind, Keeps, asked_on, kept_last, kept_all, kept_some}
use Rattle.key_index_parts.proofs.index.partitioned.ordered.partition.keep_with.Given.{Over}
use Rattle.key_index_parts.proofs.index.partitioned.ordered.partition.keep_with.Goals.{After-keep_in_run-left, After-keep_in_run-left-2}
use Rattle.key_index_parts.proofs.index.partitioned.ordered.partition.keep_with.Goals as goal

-- where the value was put in last
module _ (g : Over) (c : After-keep_in_run-left g) where
  last : c.args.run.end ≡ length c.args.values.now.items
  last = omega (arith, c.if-end-len.true, c.len.ensures, c.args.values.now.ok.0)

  pushed : c.as_mut_slice.result.now ≡ c.args.values.now.items ++ c.args.value ∷ []
  pushed = c.as_mut_slice.ensures.value ∙ c.push_reserved.ensures.items

  behind : Behind c.args.values.now.items c.as_mut_slice.result.now [] c.args.run.start c.args.run.end c.args.value
  behind = record {
    order = c.requires.start;
    before = (λ i. take (last i) (pushed i)) ∙ take-append_seam c.args.values.now.items (c.args.value ∷ []) ∙ sym (take_all c.args.run.end c.args.values.now.items (let e = last in omega (arith, e)));
    at = (λ i. drop (last i) (pushed i)) ∙ drop-append_seam c.args.values.now.items (c.args.value ∷ []);
  }

-- and where it has the place of another
module _ (g : Over) (c : After-keep_in_run-left-2 g) where
  abbrev xs : List g.row.V.Denot
  xs = c.args.values.now.items

  abbrev ws : List g.row.V.Denot
  ws = c.keep_in_run-left-2.new.values

  abbrev end : ℕ
  end = c.args.run.end

  before_last : end < length xs
  before_last = omega (arith, c.requires.end, c.if-end-len.false, c.len.ensures, c.args.values.now.ok.0)

  replaced : c.as_mut_slice-2.result.now ≡ set xs end c.args.value
  replaced = c.as_mut_slice-2.ensures.value ∙ ap (set xs end) c.replace-behind.ensures.after

  stood : drop end xs ≡ c.replace-behind.result ∷ drop (end + 1) xs
  stood =
      drop-cons xs end c.index_mut.result.now before_last
      ∙ (λ i. (sym c.index_mut.ensures.value ∙ sym c.replace-behind.ensures.value) i ∷ drop ((let one : suc end ≡ end + 1 = omega arith in one) i) xs)

  behind-2 : Behind xs c.as_mut_slice-2.result.now (drop (end + 1) xs) c.args.run.start end c.args.value
  behind-2 = record {
    order = c.requires.start;
    before = ap (take end) replaced ∙ take-set xs end c.args.value;
    at = ap (drop end) replaced ∙ drop-set xs end c.args.value before_last;
  }

  keeps-2 : Keeps c.as_mut_slice-2.result.now ws c.keep_in_run-left-2.ensures.kept.0 c.args.run.start end c.keep_in_run-left-2.result.0
  keeps-2 = record { few = c.keep_in_run-left-2.ensures.within; front = c.keep_in_run-left-2.ensures.kept.2; back = c.keep_in_run-left-2.ensures.back; sized = c.keep_in_run-left-2.ensures.len }

  asked-2 : AsksInTurn (CalledAt g.F.FnMut) c.args.should_retain true (slice_range xs c.args.run.start end ++ c.args.value ∷ []) c.keep_in_run-left-2.ensures.kept.0 c.keep_in_run-left-2.result.1
  asked-2 = subst (λ l. AsksInTurn (CalledAt g.F.FnMut) c.args.should_retain true l c.keep_in_run-left-2.ensures.kept.0 c.keep_in_run-left-2.result.1) (asked_on behind-2) c.keep_in_run-left-2.ensures.kept.1

  whole : take c.args.values.now.len (ws ++ drop (length ws) (set xs end c.replace-behind.new.dest)) ≡ ws
  whole =
      let sized = length-set xs end c.replace-behind.new.dest in
      written c.args.values.now.len ws (set xs end c.replace-behind.new.dest) (omega (arith, sized, c.args.values.now.ok.0)) (c.keep_in_run-left-2.ensures.len ∙ ap length c.as_mut_slice-2.ensures.value)

pub returns-then-end-len-clause-kept : goal.returns-then-end-len-clause-kept
returns-then-end-len-clause-kept g c =
    let d = (goal.at.returns-then-end-len-clause-kept g c).After-keep_in_run-left in
    let now = c.keep_in_run-left.ensures in
    let whole = written c.push_reserved.new.self.len c.keep_in_run-left.new.values c.push_reserved.new.self.items c.push_reserved.new.self.ok.0 (now.len ∙ ap length c.as_mut_slice.ensures.value) in (
      now.kept.0,
      subst (λ l. AsksInTurn (CalledAt g.F.FnMut) c.args.should_retain true l now.kept.0 c.keep_in_run-left.result.1) (asked_on (behind g d)) now.kept.1,
      c.truncate.ensures.items ∙ ap (take (c.args.run.start + c.keep_in_run-left.result.0)) whole
          ∙ kept_last (behind g d) (record { few = now.within; front = now.kept.2; back = now.back; sized = now.len }) (drop_all c.args.run.end c.args.values.now.items (let e = last g d in omega (arith, e))),
      now.kept.3,
    )

pub returns-then-from-end-clause-kept : goal.returns-then-from-end-clause-kept
returns-then-from-end-clause-kept g c =
    let d = (goal.at.returns-then-from-end-clause-kept g c).After-keep_in_run-left-2 in (
      c.keep_in_run-left-2.ensures.kept.0,
      asked-2 g d,
      c.in-Ok.ensures.items ∙ ap (λ l. insert l (c.args.run.start + c.keep_in_run-left-2.result.0) c.replace-behind.result) (whole g d)
          ∙ kept_all (behind-2 g d) (keeps-2 g d) c.replace-behind.result (stood g d) c.if-from-end.true,
      c.keep_in_run-left-2.ensures.kept.3,
    )

pub returns-clause-kept : goal.returns-clause-kept
returns-clause-kept g c =
    let d = (goal.at.returns-clause-kept g c).After-keep_in_run-left-2 in (
      c.keep_in_run-left-2.ensures.kept.0,
      asked-2 g d,
      c.take_out.ensures.items ∙ ap (λ l. remove_range (set l (end g d) c.replace-behind.result) (c.args.run.start + c.keep_in_run-left-2.result.0) (end g d)) (whole g d)
          ∙ kept_some (behind-2 g d) (keeps-2 g d) c.replace-behind.result (stood g d) (omega (arith, c.if-from-end.false)),
      c.keep_in_run-left-2.ensures.kept.3,
    )
