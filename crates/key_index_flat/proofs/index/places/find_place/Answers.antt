use Rattle.std.proofs.Common.{◌≡◌, ◌≤◌, ◌<◌, ◌+◌, ◌-◌, ◌/◌, ℕ, Bool, false, length, slice_get, MatchOption, sym, ap, subst, ◌∙◌, arith}
use Rattle.std.specs.Option.{IfSome, IsSomeAnd}
use Rattle.key_index_flat.specs.FullKeys.{byte_cmp}
use Rattle.key_index_flat.specs.Places.{AreHidden}
use Rattle.key_index_flat.specs.View.{run_at, run_of}
use Rattle.key_index_flat.proofs.neighbours.PlaceLemmas.{Searched, place-Equal, searched_all, searched_hidden, searched_keeps, searched_none, searched_past, searched-Greater, searched-Less, value_there}
use Rattle.key_index_flat.proofs.index.places.find_place.Goals.{in-Less, in-Greater}
use Rattle.key_index_flat.proofs.index.places.find_place.Goals as goal

pub loop-low-init : goal.loop-low-init
loop-low-init g c =
    let s = g.I.Runs.view c.args.index.now in
    let run = run_of g.I.Key.Ord.cmp s c.args.key.now in
    let all : c.run_len-high.result ≡ length run = c.run_len-high.ensures ∙ ap (λ k. length (run_at g.I.Key.Ord.cmp s k)) c.slot_of-slot.ensures in
    record {
      above = omega arith;
      within = omega (arith, all);
      reads = g.C.Compare.reads_nothing c.args.records.now;
      place = λ keys agrees ordered.
          let hides = g.C.Compare.hides c.args.records.now in
          subst (λ high. Searched hides keys c.args.key.now run 0 high false) (sym all) (searched_none hides keys c.args.key.now run);
    }

pub returns-in_err-there-clause-reads : goal.returns-in_err-there-clause-reads
returns-in_err-there-clause-reads g c = g.C.Compare.reads_both c.args.records.now c.loop-low.records c.first_read.new.records c.loop-low.invariant.reads c.in_err-there.ensures.reads

pub loop-low-preserved-in_default : goal.loop-low-preserved-in_default
loop-low-preserved-in_default g c =
    let law = g.C.Compare in
    let now = c.loop-low.records in
    let later = c.first_read.new.records in
    let reads = c.in_ok-there.ensures.reads in
    let run = run_of g.I.Key.Ord.cmp (g.I.Runs.view c.args.index.now) c.args.key.now in
    let low = c.loop-low.low in
    let high = c.loop-low.high in
    let middle = low + (high - low) / 2 in
    let hides = law.hides later in
    record {
      above = omega (arith, c.loop-low-test.true);
      within = omega (arith, c.loop-low-test.true, c.loop-low.invariant.within);
      reads = law.reads_both c.args.records.now now later c.loop-low.invariant.reads reads;
      place = λ keys agrees ordered.
          let before = searched_keeps (law.hides now) hides keys c.args.key.now run low high c.loop-low.is_hidden (λ v. law.stays_hidden now later v reads)
          (c.loop-low.invariant.place keys (law.agreed now later keys reads agrees) ordered) in
          let passed = subst (λ o. MatchOption o (AreHidden hides run middle high) (λ r. AreHidden hides run middle r.place)) c.in_default.is c.in_ok-there.ensures.passed in
          searched_past hides keys c.args.key.now run low high c.loop-low.is_hidden before middle (omega (arith, c.loop-low-test.true)) passed;
    }

pub returns-in-Equal-clause-at : goal.returns-in-Equal-clause-at
returns-in-Equal-clause-at g c = λ keys agrees ordered _.
    let key = c.args.key.now in
    let run = run_of g.I.Key.Ord.cmp (g.I.Runs.view c.args.index.now) key in
    let r = c.in-Some.there in
    let side = subst (λ o. IfSome o (λ r. IsSomeAnd (slice_get run r.place) (λ v. r.side ≡ byte_cmp (keys v) key))) c.in-Some.is (c.in_ok-there.ensures.side keys agrees) in
    let there = value_there (λ v. r.side ≡ byte_cmp (keys v) key) (slice_get run r.place) side in
    place-Equal keys key run ordered r.place there.0 there.1 (sym there.2 ∙ c.in-Equal.is)

pub loop-low-preserved : goal.loop-low-preserved
loop-low-preserved g c =
    let law = g.C.Compare in
    let now = c.loop-low.records in
    let later = c.first_read.new.records in
    let reads = c.in_ok-there.ensures.reads in
    let key = c.args.key.now in
    let run = run_of g.I.Key.Ord.cmp (g.I.Runs.view c.args.index.now) key in
    let low = c.loop-low.low in
    let high = c.loop-low.high in
    let middle = low + (high - low) / 2 in
    let hides = law.hides later in
    let r = c.in-Some.there in
    let stands = subst (λ o. IfSome o (λ r. (middle ≤ r.place) × (r.place < high))) c.in-Some.is c.in_ok-there.ensures.within in
    let both = law.reads_both c.args.records.now now later c.loop-low.invariant.reads reads in
    elim c.match-there.branch [
      | in-Less w ↦ record {
        above = omega (arith, w.low-is, w.high-is, stands.1);
        within = omega (arith, w.high-is, c.loop-low.invariant.within);
        reads = both;
        place = λ keys agrees ordered.
            let before = searched_keeps (law.hides now) hides keys key run low high c.loop-low.is_hidden (λ v. law.stays_hidden now later v reads)
            (c.loop-low.invariant.place keys (law.agreed now later keys reads agrees) ordered) in
            let side = subst (λ o. IfSome o (λ r. IsSomeAnd (slice_get run r.place) (λ v. r.side ≡ byte_cmp (keys v) key))) c.in-Some.is (c.in_ok-there.ensures.side keys agrees) in
            let there = value_there (λ v. r.side ≡ byte_cmp (keys v) key) (slice_get run r.place) side in
            let less = searched-Less hides keys key run low high c.loop-low.is_hidden before ordered r.place there.0 there.1 (sym there.2 ∙ w.in-Less.is) in
            subst (λ (x : ℕ × ℕ × Bool). Searched hides keys key run x.0 x.1 x.2) (λ i. (sym w.low-is i, sym w.high-is i, sym w.is_hidden-is i)) less;
      }
      | in-Greater w ↦ record {
        above = omega (arith, w.low-is, w.high-is);
        within = omega (arith, w.high-is, c.loop-low-test.true, c.loop-low.invariant.within);
        reads = both;
        place = λ keys agrees ordered.
            let before = searched_keeps (law.hides now) hides keys key run low high c.loop-low.is_hidden (λ v. law.stays_hidden now later v reads)
            (c.loop-low.invariant.place keys (law.agreed now later keys reads agrees) ordered) in
            let side = subst (λ o. IfSome o (λ r. IsSomeAnd (slice_get run r.place) (λ v. r.side ≡ byte_cmp (keys v) key))) c.in-Some.is (c.in_ok-there.ensures.side keys agrees) in
            let there = value_there (λ v. r.side ≡ byte_cmp (keys v) key) (slice_get run r.place) side in
            let passed = subst (λ o. MatchOption o (AreHidden hides run middle high) (λ r. AreHidden hides run middle r.place)) c.in-Some.is c.in_ok-there.ensures.passed in
            let over = searched-Greater hides keys key run low high c.loop-low.is_hidden before ordered r.place there.0 there.1 middle stands.0 passed (sym there.2 ∙ w.in-Greater.is) in
            subst (λ (x : ℕ × ℕ × Bool). Searched hides keys key run x.0 x.1 x.2) (λ i. (sym w.low-is i, sym w.high-is i, sym w.is_hidden-is i)) over;
      }
    ]

pub returns-clause-at : goal.returns-clause-at
returns-clause-at g c = λ keys agrees ordered.
    let run = run_of g.I.Key.Ord.cmp (g.I.Runs.view c.args.index.now) c.args.key.now in
    let end : c.loop-low.high ≡ c.loop-low.low = omega (arith, c.loop-low.invariant.above, c.loop-low-test.false) in
    searched_all (g.C.Compare.hides c.loop-low.records) keys c.args.key.now run c.loop-low.low c.loop-low.high c.loop-low.is_hidden (c.loop-low.invariant.place keys agrees ordered) end

pub returns-clause-hidden : goal.returns-clause-hidden
returns-clause-hidden g c = λ keys agrees ordered.
    let run = run_of g.I.Key.Ord.cmp (g.I.Runs.view c.args.index.now) c.args.key.now in
    let end : c.loop-low.high ≡ c.loop-low.low = omega (arith, c.loop-low.invariant.above, c.loop-low-test.false) in
    searched_hidden (g.C.Compare.hides c.loop-low.records) keys c.args.key.now run c.loop-low.low c.loop-low.high c.loop-low.is_hidden (c.loop-low.invariant.place keys agrees ordered) end
