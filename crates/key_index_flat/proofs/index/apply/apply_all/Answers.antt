use denote.Param.Always.{always_fn}
use Rattle.std.proofs.Common.{length, sym, ap, subst, ◌∙◌, arith}
use Rattle.std.specs.Fn.{CalledAt}
use Rattle.std.specs.Vec.Iter.{into_iter_items, into_iter_len}
use Rattle.key_index_flat.specs.Run.{HaveTests}
use Rattle.key_index_flat.proofs.runs.RunLemmas.{legal_first, legal_more, legal_all, empty-by_count}
use Rattle.key_index_flat.proofs.index.apply.apply_all.Goals as goal

pub commands-init : goal.commands-init
commands-init g c =
    let start = c.args.index.now in
    let iter = c.into_iter-rest in
    record {
      known = iter.ensures.len ∙ c.args.commands.ok.0 ∙ ap (λ l. length l) (sym iter.ensures.rest);
      callable = subst (λ l. HaveTests (λ f. always_fn g.F.Fn f) l) (sym iter.ensures.rest) c.requires.callable;
      legal = legal_first g.I.Key.Ord.cmp g.I.Unordered.INSERT_FIRST (CalledAt g.F.Fn) c.args.commands.items (into_iter_items iter.result) c.args.outcomes.now (g.I.Runs.view start) iter.ensures.rest c.requires.room;
    }

pub apply-requires-clause-callable : goal.apply-requires-clause-callable
apply-requires-clause-callable g c = (subst (λ l. HaveTests (λ f. always_fn g.F.Fn f) l) c.in-Some.ensures.items c.commands.invariant.callable).0

pub commands-preserved : goal.commands-preserved
commands-preserved g c =
    let start = c.args.index.now in
    let at = c.commands in
    let split = c.in-Some.ensures.items in
    let long = ap (λ l. length l) split in
    let known = at.invariant.known in
    let len = c.in-Some.ensures.len in
    let now = g.I.Runs.view at.index in
    let next = g.I.Runs.view c.apply.new.index in
    record {
      known = omega (arith, long, known, len);
      callable = (subst (λ l. HaveTests (λ f. always_fn g.F.Fn f) l) split at.invariant.callable).1;
      legal = legal_more g.I.Key.Ord.cmp g.I.Unordered.INSERT_FIRST (CalledAt g.F.Fn) c.args.commands.items (into_iter_items at.rest) (into_iter_items c.next.new.self) c.in-Some.command at.at at.outcomes c.replace-room.new.dest c.apply.result (g.I.Runs.view start) now next split c.apply.ensures.gives at.invariant.legal;
    }

pub returns : goal.returns
returns g c =
    let start = c.args.index.now in
    let at = c.commands in
    legal_all g.I.Key.Ord.cmp g.I.Unordered.INSERT_FIRST (CalledAt g.F.Fn) c.args.commands.items (into_iter_items at.rest) at.at at.outcomes (g.I.Runs.view start) (g.I.Runs.view at.index)
    (empty-by_count (into_iter_items at.rest) (into_iter_len at.rest) at.invariant.known c.in_default.ensures.cases.0) at.invariant.legal
