use Rattle.std.proofs.Common.{◌≡◌, suc, ◌-◌, ◌<◌, length, refl, ap, ◌∙◌, arith}
use Rattle.std.specs.List.{remove_range}
use Rattle.key_index_parts.proofs.pairs.GapLemmas.{closed_first, closed_more, closed_last, remove_range-remove}
use Rattle.key_index_parts.proofs.index.partitioned.ordered.partition.take_out.Goals as goal

pub left-preserved : goal.left-preserved
left-preserved g c =
    let at = c.left in
    let had = at.invariant in
    let from = c.args.from in
    let one_more : suc (at.end - 1) ≡ at.end = omega (arith, c.left-test.true) in
    let inside : from < length at.items.items = omega (arith, had.within, c.left-test.true) in record {
      rest = ap (λ l. remove_range l from (at.end - 1)) c.remove-in-left.ensures.items
          ∙ remove_range-remove at.items.items from (at.end - 1) inside (omega (arith, c.left-test.true))
          ∙ ap (λ end. remove_range at.items.items from end) one_more ∙ had.rest;
      order = omega (arith, c.left-test.true);
      within = omega (arith, had.within, c.remove-in-left.ensures.len, c.left-test.true);
      capacity = c.remove-in-left.ensures.capacity ∙ had.capacity;
    }

pub items-init : goal.items-init
items-init g c = record {
  closed = closed_first c.args.items.now.items c.args.from c.args.to;
  capacity = refl;
}

pub items-preserved : goal.items-preserved
items-preserved g c =
    let at = c.items in
    let inside : at.at < length at.items.items = omega (arith, c.items-test.true, c.len-in-items.ensures, at.items.ok.0) in record {
      closed = closed_more c.args.items.now.items at.items.items c.args.from c.args.to at.into at.at at.invariant.closed c.swap.new.self.items c.requires.order inside c.swap.ensures.by_index
          (omega (arith, c.swap.ensures.len, c.swap.new.self.ok.0, at.items.ok.0));
      capacity = c.swap.ensures.capacity ∙ at.invariant.capacity;
    }

pub returns-clause-items : goal.returns-clause-items
returns-clause-items g c =
    c.truncate.ensures.items ∙ closed_last c.args.items.now.items c.items.items.items c.args.from c.args.to c.items.into c.items.at c.items.invariant.closed
    (omega (arith, c.items-test.false, c.len-in-items.ensures, c.items.items.ok.0))

pub returns-clause-capacity : goal.returns-clause-capacity
returns-clause-capacity g c = c.truncate.ensures.capacity ∙ c.items.invariant.capacity
