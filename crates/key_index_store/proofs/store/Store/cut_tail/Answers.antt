use Rattle.std.proofs.Common.{◌≡◌, None, inl, inr, length, refl, sym, ap, subst, ◌∙◌}
use Rattle.key_index_store.specs.Indexed.{Keeps}
use Rattle.key_index_store.specs.Stored.{end_of, held_by}
use Rattle.key_index_store.specs.declared.store.Tail.TheVariants as tail
use Rattle.key_index_store.proofs.KeepLemmas.{adds_weaker, cut_end, cut_held, cut_keeps, kept_front, not_added}
use Rattle.key_index_store.proofs.store.Store.cut_tail.Goals as goal

pub returns-in_err-sync_once-clause-crash : goal.returns-in_err-sync_once-clause-crash
returns-in_err-sync_once-clause-crash g c = λ log seen. adds_weaker (λ l is. ap held_by is) (c.in_err-sync_once.ensures.crash log seen)

pub invariant_of-self-in-Err : goal.invariant_of-self-in-Err
invariant_of-self-in-Err g c = (
  λ log seen. c.self.invariant.0 log (c.in-Err.ensures.failed log seen),
  λ synced log seen none.
      let before = c.in-Err.ensures.failed log seen in
      c.self.invariant.1 synced log before (not_added (c.in-Err.ensures.crash log before (c.self.invariant.0 log before).within None none)),
)

pub returns-in-Err-clause-crash : goal.returns-in-Err-clause-crash
returns-in-Err-clause-crash g c = λ log seen c' left.
    let seen_in = ap g.D.Device.seen c.self.view_is ∙ c.in_ok-sync_once.ensures.same ∙ seen in
    let h = c.self.invariant.0 log seen_in in
    elim (c.in-Err.ensures.crash log seen_in h.within c' left) [
      | inl could ↦ adds_weaker (λ l is. ap held_by is) (c.in_ok-sync_once.ensures.crash log seen) c' (subst (λ d. g.D.Device.may_leave d c') c.self.view_is could)
      | inr cut ↦ inr (cut.0, cut.1, ap held_by cut.2 ∙ cut_held g.I.Key.Ord.cmp log (g.I.Runs.view c.self.inside.index) c.self.inside.log.end c.self.inside.tail h)
    ]

pub returns-in-Err-clause-held : goal.returns-in-Err-clause-held
returns-in-Err-clause-held g c = λ new seen. (new, sym c.in_ok-sync_once.ensures.same ∙ sym (ap g.D.Device.seen c.self.view_is) ∙ c.in-Err.ensures.failed new seen, refl)

pub returns-in-Err-clause-refused : goal.returns-in-Err-clause-refused
returns-in-Err-clause-refused g c = λ new seen. sym c.in_ok-sync_once.ensures.same ∙ sym (ap g.D.Device.seen c.self.view_is) ∙ c.in-Err.ensures.failed new seen

pub invariant_of-self : goal.invariant_of-self
invariant_of-self g c = (
  λ new seen.
      let before = c.in-Ok.ensures.cut new seen in
      let old = before.0 in
      let h = c.self.invariant.0 old before.1 in
      let is = before.2 h.within in
      subst (λ l. Keeps g.I.Key.Ord.cmp l (g.I.Runs.view c.self.inside.index) c.self.inside.log.end tail.Nothing) (sym is) (cut_keeps g.I.Key.Ord.cmp old (g.I.Runs.view c.self.inside.index) c.self.inside.log.end c.self.inside.tail h),
  λ _ new seen none.
      let before = c.in-Ok.ensures.cut new seen in
      let h = c.self.invariant.0 before.0 before.1 in
      let could = not_added (c.in-Ok.ensures.crash before.0 before.1 h.within None none) in
      c.in_ok-sync_once.ensures.known before.0 (sym (ap g.D.Device.seen c.self.view_is) ∙ before.1) (subst (λ d. g.D.Device.may_leave d None) c.self.view_is could),
)

pub returns-in-Ok-clause-known : goal.returns-in-Ok-clause-known
returns-in-Ok-clause-known g c = λ new seen none.
    let before = c.in-Ok.ensures.cut new seen in
    let h = c.self.invariant.0 before.0 before.1 in
    let could = not_added (c.in-Ok.ensures.crash before.0 before.1 h.within None none) in
    c.in_ok-sync_once.ensures.known before.0 (sym (ap g.D.Device.seen c.self.view_is) ∙ before.1) (subst (λ d. g.D.Device.may_leave d None) c.self.view_is could)

pub returns-in-Ok-clause-cut : goal.returns-in-Ok-clause-cut
returns-in-Ok-clause-cut g c = λ new seen.
    let before = c.in-Ok.ensures.cut new seen in
    let old = before.0 in
    let h = c.self.invariant.0 old before.1 in
    let is = before.2 h.within in
    let was = sym c.in_ok-sync_once.ensures.same ∙ sym (ap g.D.Device.seen c.self.view_is) ∙ before.1 in
    (old, was, is ∙ sym (kept_front g.I.Key.Ord.cmp old (g.I.Runs.view c.self.inside.index) c.self.inside.log.end c.self.inside.tail h))

pub returns-in-Ok-clause-all : goal.returns-in-Ok-clause-all
returns-in-Ok-clause-all g c = λ new seen.
    let before = c.in-Ok.ensures.cut new seen in
    let old = before.0 in
    let h = c.self.invariant.0 old before.1 in
    let is = before.2 h.within in
    let was = sym c.in_ok-sync_once.ensures.same ∙ sym (ap g.D.Device.seen c.self.view_is) ∙ before.1 in
    subst (λ l. end_of l ≡ length l) (sym is) (cut_end g.I.Key.Ord.cmp old (g.I.Runs.view c.self.inside.index) c.self.inside.log.end c.self.inside.tail h)

pub returns-in-Ok-clause-held : goal.returns-in-Ok-clause-held
returns-in-Ok-clause-held g c = λ new seen.
    let before = c.in-Ok.ensures.cut new seen in
    let old = before.0 in
    let h = c.self.invariant.0 old before.1 in
    let is = before.2 h.within in
    let was = sym c.in_ok-sync_once.ensures.same ∙ sym (ap g.D.Device.seen c.self.view_is) ∙ before.1 in
    (old, was, ap held_by is ∙ cut_held g.I.Key.Ord.cmp old (g.I.Runs.view c.self.inside.index) c.self.inside.log.end c.self.inside.tail h)

pub returns-in-Ok-clause-crash : goal.returns-in-Ok-clause-crash
returns-in-Ok-clause-crash g c = λ log seen c' left.
    let seen_in = ap g.D.Device.seen c.self.view_is ∙ c.in_ok-sync_once.ensures.same ∙ seen in
    let h = c.self.invariant.0 log seen_in in
    elim (c.in-Ok.ensures.crash log seen_in h.within c' left) [
      | inl could ↦ adds_weaker (λ l is. ap held_by is) (c.in_ok-sync_once.ensures.crash log seen) c' (subst (λ d. g.D.Device.may_leave d c') c.self.view_is could)
      | inr cut ↦ inr (cut.0, cut.1, ap held_by cut.2 ∙ cut_held g.I.Key.Ord.cmp log (g.I.Runs.view c.self.inside.index) c.self.inside.log.end c.self.inside.tail h)
    ]
