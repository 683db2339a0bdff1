use Rattle.std.proofs.Common.{inr, length, length-take, refl, sym, ap, ◌∙◌, arith}
use Rattle.key_index_store.specs.Stored.{held_by}
use Rattle.key_index_store.proofs.KeepLemmas.{adds_weaker, cut_held, damaged_tail, kept_end, kept_front, nothing_cut, ok_if, on_ok_with, torn_undamaged}
use Rattle.key_index_store.proofs.store.Store.make_room.Goals as goal

pub returns-in-Nothing-clause-room : goal.returns-in-Nothing-clause-room
returns-in-Nothing-clause-room g c = ok_if c.sync_once.result (λ log seen.
    let before = sym c.sync_once.ensures.same ∙ seen in
    let h = c.self.invariant.0 log (ap g.D.Device.seen c.self.view_is ∙ before) in
    let facts = nothing_cut g.I.Key.Ord.cmp log (g.I.Runs.view c.self.inside.index) c.self.inside.log.end c.self.inside.tail h c.in-Nothing.is in
    (log, before, record { cut = facts.0; held = refl; all = facts.1; end = facts.1; undamaged = facts.2 }))

pub returns-in-Nothing-clause-crash : goal.returns-in-Nothing-clause-crash
returns-in-Nothing-clause-crash g c = λ log seen. adds_weaker (λ l is. ap held_by is) (c.sync_once.ensures.crash log seen)

pub returns-in-Torn-clause-room : goal.returns-in-Torn-clause-room
returns-in-Torn-clause-room g c = on_ok_with c.cut_tail.result c.cut_tail.ensures.cut c.cut_tail.ensures.all (λ cut all new seen.
    let before = cut new seen in
    let old = before.0 in
    let h = c.self.invariant.0 old (ap g.D.Device.seen c.self.view_is ∙ before.1) in (
      old,
      before.1,
      record {
        cut = before.2;
        held = ap held_by (before.2 ∙ kept_front g.I.Key.Ord.cmp old (g.I.Runs.view c.self.inside.index) c.self.inside.log.end c.self.inside.tail h) ∙ cut_held g.I.Key.Ord.cmp old (g.I.Runs.view c.self.inside.index) c.self.inside.log.end c.self.inside.tail h;
        all = all new seen;
        end = kept_end g.I.Key.Ord.cmp old (g.I.Runs.view c.self.inside.index) c.self.inside.log.end c.self.inside.tail h
            ∙ sym (ap (λ l. length l) (before.2 ∙ kept_front g.I.Key.Ord.cmp old (g.I.Runs.view c.self.inside.index) c.self.inside.log.end c.self.inside.tail h) ∙ omega (arith, length-take c.self.inside.log.end old, h.within));
        undamaged = torn_undamaged g.I.Key.Ord.cmp old (g.I.Runs.view c.self.inside.index) c.self.inside.log.end c.self.inside.tail h c.in-Torn.is;
      },
    ))

pub returns-in-Damaged-clause-fault : goal.returns-in-Damaged-clause-fault
returns-in-Damaged-clause-fault g c = λ log seen.
    let h = c.self.invariant.0 log (ap g.D.Device.seen c.self.view_is ∙ seen) in
    inr (refl, damaged_tail g.I.Key.Ord.cmp log (g.I.Runs.view c.self.inside.index) c.self.inside.log.end c.self.inside.tail h c.in-Damaged.is)
