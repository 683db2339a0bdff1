use Rattle.std.proofs.Common.{◌≡◌, ◌++◌, length, take, drop, sym, subst, inl, refl, arith}
use Rattle.key_index_parts.specs.Ranges.{CanInstall}
use Rattle.key_index_parts.proofs.builds.AcceptedLemmas.{runs_as}
use Rattle.key_index_parts.proofs.builds.RangeLemmas.{on_ok_map, install_filled, build_done, build_refused}
use Rattle.key_index_parts.proofs.pairs.BehindLemmas.{written}
use Rattle.key_index_parts.proofs.builds.FillLemmas.{IfErr-IsErrAnd}
use Rattle.key_index_parts.proofs.index.partitioned.builds.build.build_in_ranges.Given.{Over}
use Rattle.key_index_parts.proofs.index.partitioned.builds.build.build_in_ranges.Goals.{In_ok-fill_all}
use Rattle.key_index_parts.proofs.index.partitioned.builds.build.build_in_ranges.Goals as goal

pub returns-in_err-ranges-clause-refused : goal.returns-in_err-ranges-clause-refused
returns-in_err-ranges-clause-refused g c = IfErr-IsErrAnd _ c.from_residual.result c.in_err-ranges.field-0.0 c.from_residual.ensures.1 (inl (refl, inl c.in_err-ranges.ensures.fault))

pub returns-in_err-fill_all-clause-refused : goal.returns-in_err-fill_all-clause-refused
returns-in_err-fill_all-clause-refused g c =
    let r = c.from_residual-in_err-fill_all in
    IfErr-IsErrAnd _ r.result c.in_err-fill_all.field-0.0 r.ensures.1 (inl (refl, c.in_err-fill_all.ensures.refused))

-- of the ranges as they stand, those that were filled
refilled : (g : Over) (c : In_ok-fill_all g) → let old = c.in_ok-ranges.ranges in let new = c.fill_all.new.ranges in take old.len (new ++ drop (length new) old.items) ≡ new
refilled g c =
    let old = c.in_ok-ranges.ranges in
    let long = c.in_ok-fill_all.ensures.filled.long in
    let made = c.in_ok-ranges.ensures.made.long in
    written old.len c.fill_all.new.ranges old.items old.ok.0 (omega (arith, long, made))

pub install_all-requires : goal.install_all-requires
install_all-requires g c =
    let start = g.I.Runs.view c.args.index.now in
    subst (λ l. CanInstall g.I.Key.Ord.cmp g.I.Range.Runs.view l start) (sym (refilled g (goal.at.install_all-requires g c).In_ok-fill_all))
    (install_filled g.met.I.Key.Ord.total g.met.I.Runs.exact c.args.cuts.now g.I.Partitioned.partitions c.requires.cuts c.args.ops.items c.fill_all.new.ranges start c.requires.empty c.in_ok-fill_all.ensures.filled).0

pub returns-clause-built : goal.returns-clause-built
returns-clause-built g c =
    build_done g.met.I.Key.Ord.total g.met.I.Runs.exact c.args.cuts.now g.I.Partitioned.partitions c.requires.cuts c.args.ops.items c.fill_all.new.ranges (g.I.Runs.view c.args.index.now) c.requires.empty c.in_ok-fill_all.ensures.filled c.in_ok-fill_all.ensures.below
    _ (refilled g (goal.at.returns-clause-built g c).In_ok-fill_all) c.install_all.result (g.I.Runs.view c.install_all.new.index) c.install_all.ensures.installed

pub returns-clause-refused : goal.returns-clause-refused
returns-clause-refused g c =
    build_refused g.met.I.Key.Ord.total g.met.I.Runs.exact c.args.cuts.now g.I.Partitioned.partitions c.requires.cuts c.args.ops.items c.fill_all.new.ranges (g.I.Runs.view c.args.index.now) c.requires.empty c.in_ok-fill_all.ensures.filled
    _ (refilled g (goal.at.returns-clause-refused g c).In_ok-fill_all) c.install_all.result (g.I.Runs.view c.install_all.new.index) c.install_all.ensures.refused

pub returns-clause-runs : goal.returns-clause-runs
returns-clause-runs g c =
    on_ok_map c.install_all.result
    (λ is. runs_as g.met.I.Key.Ord.total g.met.I.Runs.exact g.I.Unordered.INSERT_FIRST c.args.ops.items (g.I.Runs.view c.args.index.now) (g.I.Runs.view c.install_all.new.index) (g.met.I.Runs.lawful c.args.index.now) is)
    (returns-clause-built g c)
