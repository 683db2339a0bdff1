use Rattle.std.proofs.Common.{◌≡◌, ◌++◌, [], ◌∷◌, length, take, sym, ap, subst, ◌∙◌, arith}
use Rattle.std.specs.Vec.Iter.{into_iter_items}
use Rattle.key_index_flat.specs.View.{items_in}
use Rattle.key_index_parts.specs.Joined.{joined_view, install_fault}
use Rattle.key_index_parts.specs.Ranges.{CanInstall, installed}
use Rattle.key_index_parts.proofs.builds.DoneLemmas.{get_done, split_more}
use Rattle.std.proofs.Math.Seq.{take-append_seam}
use Rattle.key_index_parts.proofs.builds.RangeLemmas.{installed-append}
use Rattle.key_index_parts.proofs.index.partitioned.builds.build.install_all.Goals as goal

pub returns-in-Err-clause-refused : goal.returns-in-Err-clause-refused
returns-in-Err-clause-refused g c =
    let was = c.ranges-2.invariant in
    let range = c.in-Some.range in
    let same = c.in-Err.ensures.refused in
    let start = g.I.Runs.view c.args.index.now in
    let left = into_iter_items c.next.new.self in
    let split = ap (λ l. was.done ++ l) (sym c.in-Some.ensures.items) ∙ was.split in
    record {
      count = length was.done;
      refused = range;
      found = get_done was.done left c.args.ranges.items range split;
      left = same ∙ was.holds
          ∙ ap (λ l. installed g.I.Key.Ord.cmp g.I.Range.Runs.view l start) (sym (take-append_seam was.done (range ∷ left)) ∙ ap (λ l. take (length was.done) l) split);
      why = c.in-Err.ensures.fault ∙ ap (λ s. install_fault (items_in s) (items_in (g.I.Range.Runs.view range))) (sym same);
    }

pub ranges-2-preserved : goal.ranges-2-preserved
ranges-2-preserved g c =
    let was = c.ranges-2.invariant in
    let range = c.in-Some.range in
    let split = c.in-Some.ensures.items in
    let long = ap (λ l. length l) split in
    let known = was.known in
    let len = c.in-Some.ensures.len in
    let now = g.I.Runs.view c.ranges-2.index in
    let start = g.I.Runs.view c.args.index.now in
    let more : g.I.Runs.view c.install_range.new.self ≡ joined_view g.I.Key.Ord.cmp now (g.I.Range.Runs.view range) = c.in_default-install_range.ensures.accepted in
    let can = subst (λ l. CanInstall g.I.Key.Ord.cmp g.I.Range.Runs.view l now) split was.can in
    record {
      known = omega (arith, long, known, len);
      done = was.done ++ range ∷ [];
      split = split_more was.done (into_iter_items c.ranges-2.rest) (into_iter_items c.next.new.self) c.args.ranges.items range split was.split;
      holds = more ∙ ap (λ s. joined_view g.I.Key.Ord.cmp s (g.I.Range.Runs.view range)) was.holds
          ∙ sym (installed-append g.I.Key.Ord.cmp g.I.Range.Runs.view was.done range start);
      can = subst (λ s. CanInstall g.I.Key.Ord.cmp g.I.Range.Runs.view (into_iter_items c.next.new.self) s) (sym more) can.1;
    }
