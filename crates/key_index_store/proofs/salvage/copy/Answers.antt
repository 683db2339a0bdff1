use Rattle.std.proofs.Common.{◌≡◌, ◌+◌, ◌-◌, ◌≤◌, ◌++◌, ℕ, List, length, [], map, min, take, drop, refl, sym, ap, subst, ◌∙◌, append-nil, append_assoc, length-take, arith}
use Rattle.std.proofs.lemmas.List.{nil_from_length}
use Rattle.key_index_store.specs.Device.{IsBegun, Sees}
use Rattle.key_index_store.specs.Indexed.{HasRuns, parts_of}
use Rattle.key_index_store.specs.Record.{Complete, Damaged, Entry, Torn, encoded_from, entry_of, key_in, reading, size_of}
use Rattle.key_index_store.specs.Salvage.{gap_of, gaps_at, gaps_from, keeps, one_if, step, unknown}
use Rattle.key_index_store.specs.laws.ReadLaws.{read-then}
use Rattle.key_index_store.proofs.DamageLemmas.{runs_before}
use Rattle.key_index_store.proofs.SalvageLemmas.{Told, copied_all, copied_begun, copied_next, copied_none, copied_part, counted_all, kept_none, next_whole, noted_all, rest_places, scan_at, scan_next, there, told_at}
use Rattle.key_index_store.proofs.salvage.copy.Goals as goal

pub overflow_sub-position : goal.overflow_sub-position
overflow_sub-position g c = c.loop-position.invariant.order

pub loop-position-init : goal.loop-position-init
loop-position-init g c = record {
  order = omega arith;
  few = omega arith;
  behind = λ log seen le runs. omega arith;
  read = c.in_ok-block.ensures.read;
  same_end = refl;
  fresh = λ new seen_new.
      let told : c.in_ok-length_of.field-0 ≡ length new = c.in_ok-length_of.ensures.told new seen_new in
      (new, c.length_of.ensures.read.stays new seen_new, nil_from_length new (omega (arith, told, c.if-branch-ne0.false)));
  scan = λ log seen le runs.
      let front : List ℕ = take c.args.len log in
      scan_at (keeps g.I.Key.Ord.cmp (g.I.Runs.view c.args.index.now) c.args.is_all) front c.in_ok-block.block.items c.args.len 0 0 0 _ (omega (arith, length-take c.args.len log, le))
      (c.in_ok-block.ensures.front log seen le) (c.in_ok-block.ensures.whole refl log seen le) (c.in_ok-block.ensures.step log seen le) (c.in_ok-block.ensures.key log seen le)
      (omega arith) (ap (λ l. map gap_of l ++ gaps_from front 0 (rest_places front 0)) c.new-gaps.ensures.items);
  copied = λ log seen le runs new seen_new.
      let told : c.in_ok-length_of.field-0 ≡ length new = c.in_ok-length_of.ensures.told new seen_new in
      (new, c.length_of.ensures.read.stays new seen_new, copied_none (keeps g.I.Key.Ord.cmp (g.I.Runs.view c.args.index.now) c.args.is_all) (take c.args.len log) new (omega (arith, told, c.if-branch-ne0.false)));
}

pub returns-in_err-block-in-Torn-2-clause-read : goal.returns-in_err-block-in-Torn-2-clause-read
returns-in_err-block-in-Torn-2-clause-read g c = read-then _ _ _ c.loop-position.invariant.read c.read_front-in-Torn-2.ensures.read

pub returns-in_err-block-in-Torn-2-clause-begun : goal.returns-in_err-block-in-Torn-2-clause-begun
returns-in_err-block-in-Torn-2-clause-begun g c = λ log seen le runs new seen_new.
    let was = c.loop-position.invariant.copied log (c.read_front-in-Torn-2.ensures.read.stays log seen) le (runs_before g.I.Key.Ord.cmp (g.I.Runs.view c.args.index.now) _ _ c.args.is_all (take c.args.len log) c.read_front-in-Torn-2.ensures.read.damage runs) new seen_new in
    (was.0, was.1, copied_part (keeps g.I.Key.Ord.cmp (g.I.Runs.view c.args.index.now) c.args.is_all) (take c.args.len log) c.loop-position.position c.loop-position.end was.0 new was.2)

pub returns-in_err-block-in-Torn-2-clause-stays : goal.returns-in_err-block-in-Torn-2-clause-stays
returns-in_err-block-in-Torn-2-clause-stays g c =
    λ new seen_new. (let was = c.loop-position.invariant.fresh new seen_new in (was.0, was.1, kept_none was.0 new was.2))

pub loop-position-preserved : goal.loop-position-preserved
loop-position-preserved g c = record {
  order = omega arith;
  few = c.loop-position.invariant.few;
  behind = λ log seen le runs. c.loop-position.invariant.behind log (c.in_ok-block-in-Torn-2.ensures.read.stays log seen) le (runs_before g.I.Key.Ord.cmp (g.I.Runs.view c.args.index.now) _ _ c.args.is_all (take c.args.len log) c.in_ok-block-in-Torn-2.ensures.read.damage runs);
  read = read-then _ _ _ c.loop-position.invariant.read c.in_ok-block-in-Torn-2.ensures.read;
  same_end = c.loop-position.invariant.same_end;
  fresh = c.loop-position.invariant.fresh;
  scan = λ log seen le runs.
      let was = c.loop-position.invariant.scan log (c.in_ok-block-in-Torn-2.ensures.read.stays log seen) le (runs_before g.I.Key.Ord.cmp (g.I.Runs.view c.args.index.now) _ _ c.args.is_all (take c.args.len log) c.in_ok-block-in-Torn-2.ensures.read.damage runs) in
      scan_at (keeps g.I.Key.Ord.cmp (g.I.Runs.view c.args.index.now) c.args.is_all) (take c.args.len log) c.in_ok-block-in-Torn-2.block.items c.args.len c.loop-position.position c.loop-position.records c.loop-position.since _ was.told
      (c.in_ok-block-in-Torn-2.ensures.front log seen le) (c.in_ok-block-in-Torn-2.ensures.whole refl log seen le) (c.in_ok-block-in-Torn-2.ensures.step log seen le) (c.in_ok-block-in-Torn-2.ensures.key log seen le) was.counted was.noted;
  copied = λ log seen le runs. c.loop-position.invariant.copied log (c.in_ok-block-in-Torn-2.ensures.read.stays log seen) le (runs_before g.I.Key.Ord.cmp (g.I.Runs.view c.args.index.now) _ _ c.args.is_all (take c.args.len log) c.in_ok-block-in-Torn-2.ensures.read.damage runs);
}

pub returns-clause-copied : goal.returns-clause-copied
returns-clause-copied g c = λ log seen le runs new seen_new.
    let was = c.loop-position.invariant.copied log seen le runs new seen_new in
    let told = (c.loop-position.invariant.scan log seen le runs).told in
    let all = copied_all (keeps g.I.Key.Ord.cmp (g.I.Runs.view c.args.index.now) c.args.is_all) (take c.args.len log) c.loop-position.position c.loop-position.end was.0 new was.2 (omega (arith, told, c.loop-position-test.false)) in
    (was.0, was.1, (was.2.none, all))

pub returns-clause-records : goal.returns-clause-records
returns-clause-records g c = λ log seen le runs. counted_all (c.loop-position.invariant.scan log seen le runs) c.loop-position-test.false

pub returns-clause-left_out : goal.returns-clause-left_out
returns-clause-left_out g c = λ log seen le runs new seen_new.
    let was = c.loop-position.invariant.copied log seen le runs new seen_new in
    omega (arith, was.2.size, c.saturating_sub.ensures)

pub returns-clause-begun : goal.returns-clause-begun
returns-clause-begun g c = λ log seen le runs new seen_new.
    let was = c.loop-position.invariant.copied log seen le runs new seen_new in
    (was.0, was.1, copied_part (keeps g.I.Key.Ord.cmp (g.I.Runs.view c.args.index.now) c.args.is_all) (take c.args.len log) c.loop-position.position c.loop-position.end was.0 new was.2)

pub returns-clause-stays : goal.returns-clause-stays
returns-clause-stays g c = λ new seen_new. (let was = c.loop-position.invariant.fresh new seen_new in (was.0, was.1, kept_none was.0 new was.2))

pub returns-in_err-note-in-Complete-clause-begun : goal.returns-in_err-note-in-Complete-clause-begun
returns-in_err-note-in-Complete-clause-begun g c = λ log seen le runs new seen_new.
    let was = c.loop-position.invariant.copied log seen le runs new seen_new in
    (was.0, was.1, copied_part (keeps g.I.Key.Ord.cmp (g.I.Runs.view c.args.index.now) c.args.is_all) (take c.args.len log) c.loop-position.position c.loop-position.end was.0 new was.2)

pub returns-in_err-note-in-Complete-clause-stays : goal.returns-in_err-note-in-Complete-clause-stays
returns-in_err-note-in-Complete-clause-stays g c =
    λ new seen_new. (let was = c.loop-position.invariant.fresh new seen_new in (was.0, was.1, kept_none was.0 new was.2))

pub returns-in_err-since-in-Damaged-clause-begun : goal.returns-in_err-since-in-Damaged-clause-begun
returns-in_err-since-in-Damaged-clause-begun g c = λ log seen le runs new seen_new.
    let was = c.loop-position.invariant.copied log seen le runs new seen_new in
    (was.0, was.1, copied_part (keeps g.I.Key.Ord.cmp (g.I.Runs.view c.args.index.now) c.args.is_all) (take c.args.len log) c.loop-position.position c.loop-position.end was.0 new was.2)

pub returns-in_err-since-in-Damaged-clause-stays : goal.returns-in_err-since-in-Damaged-clause-stays
returns-in_err-since-in-Damaged-clause-stays g c =
    λ new seen_new. (let was = c.loop-position.invariant.fresh new seen_new in (was.0, was.1, kept_none was.0 new was.2))

pub returns-in_err-since-in-Torn-clause-begun : goal.returns-in_err-since-in-Torn-clause-begun
returns-in_err-since-in-Torn-clause-begun g c = λ log seen le runs new seen_new.
    let was = c.loop-position.invariant.copied log seen le runs new seen_new in
    (was.0, was.1, copied_part (keeps g.I.Key.Ord.cmp (g.I.Runs.view c.args.index.now) c.args.is_all) (take c.args.len log) c.loop-position.position c.loop-position.end was.0 new was.2)

pub returns-in_err-since-in-Torn-clause-stays : goal.returns-in_err-since-in-Torn-clause-stays
returns-in_err-since-in-Torn-clause-stays g c =
    λ new seen_new. (let was = c.loop-position.invariant.fresh new seen_new in (was.0, was.1, kept_none was.0 new was.2))

pub returns-in_err-note-clause-begun : goal.returns-in_err-note-clause-begun
returns-in_err-note-clause-begun g c = λ log seen le runs new seen_new.
    let was = c.loop-position.invariant.copied log seen le runs new seen_new in
    (was.0, was.1, copied_part (keeps g.I.Key.Ord.cmp (g.I.Runs.view c.args.index.now) c.args.is_all) (take c.args.len log) c.loop-position.position c.loop-position.end was.0 new was.2)

pub returns-in_err-note-clause-stays : goal.returns-in_err-note-clause-stays
returns-in_err-note-clause-stays g c =
    λ new seen_new. (let was = c.loop-position.invariant.fresh new seen_new in (was.0, was.1, kept_none was.0 new was.2))

pub loop-position-preserved-in-Damaged : goal.loop-position-preserved-in-Damaged
loop-position-preserved-in-Damaged g c = let inv = c.loop-position.invariant in
    let position = c.loop-position.position in
    let block = c.loop-position.block.items in
    let rest = c.bytes_from-rest.ensures ∙ ap (drop (position - c.loop-position.start)) c.as_slice.ensures.value in
    let bytes = drop (position - c.loop-position.start) block in
    let next = c.next_place-next.result in
    let is = c.next_place-next.ensures.value ∙ ap (λ l. min (position + step position l) c.args.len) rest in
    let on : position + 1 ≤ next = omega (arith, c.next_place-next.ensures.on c.loop-position-test.true) in
    let told : Sees (g.D.Device.seen c.loop-position.from.device) (λ log. c.args.len ≤ length log → HasRuns g.I.Key.Ord.cmp (g.I.Runs.view c.args.index.now) (g.D.Device.damaged c.loop-position.from.device) c.args.is_all (take c.args.len log) → Told (take c.args.len log) bytes position Damaged) =
    λ log seen le runs. told_at (inv.scan log seen le runs) inv.order Damaged (sym (c.in-Damaged.ensures.exact ∙ ap (reading position) rest)) (λ e. absurd (cc)) in
    record {
      order = omega (arith, inv.order, on);
      few = omega (arith, inv.few, on);
      behind = λ log seen le runs. omega (arith, inv.behind log seen le runs, on);
      read = inv.read;
      same_end = inv.same_end;
      fresh = inv.fresh;
      scan = λ log seen le runs. scan_next (inv.scan log seen le runs) c.loop-position-test.true bytes Damaged (told log seen le runs) next is c.loop-position.records c.in_ok-since-in-Damaged.since _ (omega arith)
          (λ behind. c.in_ok-since-in-Damaged.ensures.noted behind ∙ ap (λ l. map gap_of c.loop-position.gaps.items ++ gaps_at c.loop-position.since position next [] (key_in position l) behind) rest);
      copied = λ log seen le runs new seen_new.
          let was = inv.copied log seen le runs new seen_new in
          (was.0, was.1, copied_next (inv.scan log seen le runs) c.loop-position-test.true bytes Damaged (told log seen le runs) next is was.2 c.loop-position.end new (omega arith) (sym (append-nil new)));
    }

pub loop-position-preserved-then-start-position : goal.loop-position-preserved-then-start-position
loop-position-preserved-then-start-position g c = let inv = c.loop-position.invariant in
    let position = c.loop-position.position in
    let block = c.loop-position.block.items in
    let rest = c.bytes_from-rest.ensures ∙ ap (drop (position - c.loop-position.start)) c.as_slice.ensures.value in
    let bytes = drop (position - c.loop-position.start) block in
    let next = c.next_place-next.result in
    let is = c.next_place-next.ensures.value ∙ ap (λ l. min (position + step position l) c.args.len) rest in
    let on : position + 1 ≤ next = omega (arith, c.next_place-next.ensures.on c.loop-position-test.true) in
    let told : Sees (g.D.Device.seen c.loop-position.from.device) (λ log. c.args.len ≤ length log → HasRuns g.I.Key.Ord.cmp (g.I.Runs.view c.args.index.now) (g.D.Device.damaged c.loop-position.from.device) c.args.is_all (take c.args.len log) → Told (take c.args.len log) bytes position Torn) =
    λ log seen le runs. told_at (inv.scan log seen le runs) inv.order Torn (sym (c.in-Torn.ensures.exact ∙ ap (reading position) rest)) (λ e. omega (arith, c.if-start-position.true)) in
    record {
      order = omega (arith, inv.order, on);
      few = omega (arith, inv.few, on);
      behind = λ log seen le runs. omega (arith, inv.behind log seen le runs, on);
      read = inv.read;
      same_end = inv.same_end;
      fresh = inv.fresh;
      scan = λ log seen le runs. scan_next (inv.scan log seen le runs) c.loop-position-test.true bytes Torn (told log seen le runs) next is c.loop-position.records c.in_ok-since-in-Torn.since _ (omega arith)
          (λ behind. c.in_ok-since-in-Torn.ensures.noted behind ∙ ap (λ l. map gap_of c.loop-position.gaps.items ++ gaps_at c.loop-position.since position next [] (key_in position l) behind) rest);
      copied = λ log seen le runs new seen_new.
          let was = inv.copied log seen le runs new seen_new in
          (was.0, was.1, copied_next (inv.scan log seen le runs) c.loop-position-test.true bytes Torn (told log seen le runs) next is was.2 c.loop-position.end new (omega arith) (sym (append-nil new)));
    }

pub loop-position-preserved-in-Complete : goal.loop-position-preserved-in-Complete
loop-position-preserved-in-Complete g c = let inv = c.loop-position.invariant in
    let r : Entry = entry_of c.in-Complete.record in
    let position = c.loop-position.position in
    let block = c.loop-position.block.items in
    let rest = c.bytes_from-rest.ensures ∙ ap (drop (position - c.loop-position.start)) c.as_slice.ensures.value in
    let bytes = drop (position - c.loop-position.start) block in
    let next = c.next_place-next.result in
    let is = c.next_place-next.ensures.value ∙ ap (λ l. min (position + step position l) c.args.len) rest in
    let on : position + 1 ≤ next = omega (arith, c.next_place-next.ensures.on c.loop-position-test.true) in
    let stays = c.in_ok-is_kept-in-Complete.ensures.read.stays in
    let keeps_it = keeps g.I.Key.Ord.cmp (g.I.Runs.view c.args.index.now) c.args.is_all in
    let told : Sees (g.D.Device.seen c.loop-position.from.device) (λ log. c.args.len ≤ length log → HasRuns g.I.Key.Ord.cmp (g.I.Runs.view c.args.index.now) (g.D.Device.damaged c.loop-position.from.device) c.args.is_all (take c.args.len log) → Told (take c.args.len log) bytes position (Complete r)) =
    λ log seen le runs. told_at (inv.scan log seen le runs) inv.order (Complete r) (sym (c.in-Complete.ensures.exact ∙ ap (reading position) rest)) (λ e. absurd (cc)) in
    let far : Sees (g.D.Device.seen c.loop-position.from.device) (λ log. c.args.len ≤ length log → HasRuns g.I.Key.Ord.cmp (g.I.Runs.view c.args.index.now) (g.D.Device.damaged c.loop-position.from.device) c.args.is_all (take c.args.len log) → (next ≡ position + size_of r) × (position + size_of r ≤ c.args.len)) =
    λ log seen le runs.
    let w = next_whole (take c.args.len log) position r (told log seen le runs).reads in
    (there (inv.scan log seen le runs) c.loop-position-test.true bytes (Complete r) (told log seen le runs) next is ∙ w.0, omega (arith, w.1, (inv.scan log seen le runs).told)) in
    let wrote = c.in_ok-written-in-Complete.ensures in
    let end : Sees (g.D.Device.seen c.loop-position.from.device) (λ log. c.args.len ≤ length log → HasRuns g.I.Key.Ord.cmp (g.I.Runs.view c.args.index.now) (g.D.Device.damaged c.loop-position.from.device) c.args.is_all (take c.args.len log) → c.saturating_add-end.result ≡ c.loop-position.end + c.in_ok-written-in-Complete.written.1) =
    λ log seen le runs. omega (arith, (far log seen le runs).1, inv.behind log seen le runs, wrote.bytes.0, c.saturating_add-end.ensures) in
    let kept : Sees (g.D.Device.seen c.is_kept.new.from.device) (λ log. c.args.len ≤ length log → HasRuns g.I.Key.Ord.cmp (g.I.Runs.view c.args.index.now) (g.D.Device.damaged c.is_kept.new.from.device) c.args.is_all (take c.args.len log) → c.in_ok-is_kept-in-Complete.is_kept ≡ keeps_it position r.key) =
    λ log seen le runs. c.in_ok-is_kept-in-Complete.ensures.told c.args.len (λ few. c.requires few ∙ sym c.loop-position.invariant.same_end) log seen le runs (ap (λ o. (parts_of o).0) (told log (stays log seen) le (runs_before g.I.Key.Ord.cmp (g.I.Runs.view c.args.index.now) _ _ c.args.is_all (take c.args.len log) c.in_ok-is_kept-in-Complete.ensures.read.damage runs)).reads) in
    record {
      order = omega (arith, inv.order, on);
      few = omega (arith, inv.few, on, wrote.records.0);
      behind = λ log seen le runs. (let at = stays log seen in let was = (runs_before g.I.Key.Ord.cmp (g.I.Runs.view c.args.index.now) _ _ c.args.is_all (take c.args.len log) c.in_ok-is_kept-in-Complete.ensures.read.damage runs) in omega (arith, inv.behind log at le was, end log at le was, (far log at le was).0, wrote.bytes.0));
      read = read-then _ _ _ inv.read c.in_ok-is_kept-in-Complete.ensures.read;
      same_end = c.in_ok-is_kept-in-Complete.ensures.end ∙ inv.same_end;
      fresh = λ new seen_new. inv.fresh (wrote.written new seen_new).0 (wrote.written new seen_new).1;
      scan = λ log seen le runs.
          let at = stays log seen in
          let was_runs = (runs_before g.I.Key.Ord.cmp (g.I.Runs.view c.args.index.now) _ _ c.args.is_all (take c.args.len log) c.in_ok-is_kept-in-Complete.ensures.read.damage runs) in
          scan_next (inv.scan log at le was_runs) c.loop-position-test.true bytes (Complete r) (told log at le was_runs) next is (c.loop-position.records + c.in_ok-written-in-Complete.written.0) next _
          (ap (λ n. c.loop-position.records + n) (wrote.records.1 ∙ ap (λ b. length (one_if b r)) (kept log seen le runs)))
          (λ behind. ap (λ l. l ++ behind next) c.in_ok-note-in-Complete.ensures ∙ append_assoc (map gap_of c.loop-position.gaps.items) (unknown c.loop-position.since position) (behind next));
      copied = λ log seen le runs new seen_new.
          let at = stays log seen in
          let was_runs = (runs_before g.I.Key.Ord.cmp (g.I.Runs.view c.args.index.now) _ _ c.args.is_all (take c.args.len log) c.in_ok-is_kept-in-Complete.ensures.read.damage runs) in
          let more = wrote.written new seen_new in
          let was = inv.copied log at le was_runs more.0 more.1 in
          let own = ap (λ b. encoded_from c.loop-position.end (one_if b r)) (kept log seen le runs) in (
            was.0,
            was.1,
            copied_next (inv.scan log at le was_runs) c.loop-position-test.true bytes (Complete r) (told log at le was_runs) next is was.2 c.saturating_add-end.result new
                (omega (arith, end log at le was_runs, wrote.bytes.1, ap (λ l. length l) own)) (more.2 was.2.size ∙ ap (λ l. more.0 ++ l) own),
          );
    }

pub returns-clause-gaps : goal.returns-clause-gaps
returns-clause-gaps g c = λ log seen le runs.
    noted_all (c.loop-position.invariant.scan log seen le runs) c.loop-position-test.false _ c.in_ok-note.ensures

pub returns-in_err-written-in-Complete-clause-begun : goal.returns-in_err-written-in-Complete-clause-begun
returns-in_err-written-in-Complete-clause-begun g c = λ log seen le runs new seen_new.
    let inv = c.loop-position.invariant in
    let r : Entry = entry_of c.in-Complete.record in
    let at = c.in_ok-is_kept-in-Complete.ensures.read.stays log seen in
    let was_runs = (runs_before g.I.Key.Ord.cmp (g.I.Runs.view c.args.index.now) _ _ c.args.is_all (take c.args.len log) c.in_ok-is_kept-in-Complete.ensures.read.damage runs) in
    let rest = c.bytes_from-rest.ensures ∙ ap (drop (c.loop-position.position - c.loop-position.start)) c.as_slice.ensures.value in
    let told = told_at (inv.scan log at le was_runs) inv.order (Complete r) (sym (c.in-Complete.ensures.exact ∙ ap (reading c.loop-position.position) rest)) (λ e. absurd (cc)) in
    let kept = c.in_ok-is_kept-in-Complete.ensures.told c.args.len (λ few. c.requires few ∙ sym c.loop-position.invariant.same_end) log seen le runs (ap (λ o. (parts_of o).0) told.reads) in
    let failed = c.in_err-written-in-Complete.ensures.begun new seen_new in
    let was = inv.copied log at le was_runs failed.0 failed.1 in
    (was.0, was.1, copied_begun was.2 r told.reads new (subst (λ b. IsBegun (encoded_from c.loop-position.end (one_if b r)) failed.0 new) kept (failed.2 was.2.size)))

pub returns-in_err-written-in-Complete-clause-stays : goal.returns-in_err-written-in-Complete-clause-stays
returns-in_err-written-in-Complete-clause-stays g c = λ new seen_new.
    let failed = c.in_err-written-in-Complete.ensures.begun new seen_new in
    let was = c.loop-position.invariant.fresh failed.0 failed.1 in
    (was.0, was.1, kept_none was.0 new was.2)

pub returns-in_err-written-in-Complete-clause-read : goal.returns-in_err-written-in-Complete-clause-read
returns-in_err-written-in-Complete-clause-read g c = read-then _ _ _ c.loop-position.invariant.read c.in_ok-is_kept-in-Complete.ensures.read

pub returns-in_err-is_kept-in-Complete-clause-read : goal.returns-in_err-is_kept-in-Complete-clause-read
returns-in_err-is_kept-in-Complete-clause-read g c = read-then _ _ _ c.loop-position.invariant.read c.in_err-is_kept-in-Complete.ensures.read

pub returns-in_err-is_kept-in-Complete-clause-begun : goal.returns-in_err-is_kept-in-Complete-clause-begun
returns-in_err-is_kept-in-Complete-clause-begun g c = λ log seen le runs new seen_new.
    let was = c.loop-position.invariant.copied log (c.in_err-is_kept-in-Complete.ensures.read.stays log seen) le (runs_before g.I.Key.Ord.cmp (g.I.Runs.view c.args.index.now) _ _ c.args.is_all (take c.args.len log) c.in_err-is_kept-in-Complete.ensures.read.damage runs) new seen_new in
    (was.0, was.1, copied_part (keeps g.I.Key.Ord.cmp (g.I.Runs.view c.args.index.now) c.args.is_all) (take c.args.len log) c.loop-position.position c.loop-position.end was.0 new was.2)

pub returns-in_err-is_kept-in-Complete-clause-stays : goal.returns-in_err-is_kept-in-Complete-clause-stays
returns-in_err-is_kept-in-Complete-clause-stays g c =
    λ new seen_new. (let was = c.loop-position.invariant.fresh new seen_new in (was.0, was.1, kept_none was.0 new was.2))
