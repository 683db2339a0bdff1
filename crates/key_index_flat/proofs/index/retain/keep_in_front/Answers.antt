use Rattle.std.proofs.Common.{◌≡◌, ◌+◌, true, false, length, ap, arith}
use Rattle.std.proofs.Math.ListN.{get_or}
use Rattle.std.specs.Fn.{CalledAt}
use Rattle.std.proofs.lemmas.Fn.{called_at}
use borrow.Author.Rules.{of_calls}
use Rattle.key_index_flat.proofs.closures.TurnLemmas.{turned_first, turned_more, turned_less, turned_is, turned_last}
use Rattle.key_index_flat.proofs.index.retain.keep_in_front.Goals.{then-stays, else-stays}
use Rattle.key_index_flat.proofs.index.retain.keep_in_front.Goals as goal

pub values-init : goal.values-init
values-init g c = record {
  turned = turned_first (CalledAt g.F.FnMut) c.args.should_retain c.args.before c.args.values.now;
  within = omega arith;
  again = c.requires;
}

pub values-preserved : goal.values-preserved
values-preserved g c =
    let at = c.values in
    let held = at.invariant in
    let R = CalledAt g.F.FnMut in
    let xs = c.args.values.now in
    let x = get_or at.values at.at c.index-values-at.result in
    let here : x ≡ get_or at.values at.at x = ap (λ d. get_or at.values at.at d) c.index-values-at.is in
    let inside = c.values-test.true in
    elim c.if-stays.branch [
      | then-stays w ↦ record {
        turned = turned_is R c.args.should_retain c.args.before xs w.swap.new.self _ c.should_retain-stays.new.self (at.kept + 1) _ (at.at + 1) true _
            w.values-is w.kept-is w.if-stays.true
            (turned_more R c.args.should_retain c.args.before xs at.values at.should_retain c.should_retain-stays.new.self at.kept at.at at.stays held.turned x inside here
            w.swap.new.self (called_at g.F.FnMut c.should_retain-stays.ensures w.if-stays.true) w.swap.ensures.by_index w.swap.ensures.len);
        within = let n = ap length w.values-is in omega (arith, inside, w.swap.ensures.len, n);
        again = search of_calls;
      }
      | else-stays w ↦ record {
        turned = turned_is R c.args.should_retain c.args.before xs at.values _ c.should_retain-stays.new.self at.kept _ (at.at + 1) false _
            w.values-is w.kept-is w.if-stays.false
            (turned_less R c.args.should_retain c.args.before xs at.values at.should_retain c.should_retain-stays.new.self at.kept at.at at.stays held.turned x inside here
            (called_at g.F.FnMut c.should_retain-stays.ensures w.if-stays.false));
        within = let n = ap length w.values-is in omega (arith, inside, n);
        again = search of_calls;
      }
    ]

pub returns-clause-asked : goal.returns-clause-asked
returns-clause-asked g c =
    let held = c.values.invariant in
    let past = c.values-test.false in
    turned_last (CalledAt g.F.FnMut) c.args.should_retain c.args.before c.args.values.now c.values.values c.values.should_retain c.values.kept c.values.at c.values.stays held.turned
    past (let w = held.within in let s = held.turned.sized in omega (arith, w, s))
