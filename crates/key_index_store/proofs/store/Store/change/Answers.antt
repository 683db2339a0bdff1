use Rattle.std.proofs.Common.{rules, ◌≡◌, ◌⊎◌, ◌<◌, ◌++◌, ◌||◌, List, Bor, true, ℕ, length, take, not, is_some, None, inl, inr, refl, sym, ap, subst, ◌∙◌}
use Rattle.std.proofs.lemmas.Bool.{false≢true, not-false, not-true}
use Rattle.std.specs.FinMap.{get, len}
use Rattle.std.specs.Option.{option_map}
use Rattle.key_index_store.specs.Damage.{Hides}
use Rattle.key_index_store.specs.Device.{Changes}
use Rattle.key_index_store.specs.Indexed.{Keeps}
use Rattle.key_index_store.specs.Record.{Entry, encoded}
use Rattle.key_index_store.specs.Stored.{HasChanged, HasRefused, IsBeforeOrAfter, held_by}
use Rattle.key_index_store.specs.declared.store.Tail.TheVariants as tail
use Rattle.key_index_flat.proofs.content.ChainLemmas.{None-is_some}
use Rattle.key_index_store.proofs.DamageLemmas.{missed_key, missed_room}
use Rattle.key_index_store.proofs.IndexLemmas.{some_mapped}
use Rattle.key_index_store.proofs.KeepLemmas.{adds_weaker, all_kept, append-refuse, at_end, begun_keeps, begun_refused, begun_size, full-refuse, held_any, hidden-refuse, kept_held, not_added, nothing_changed, or-true, refused_early, room-refuse, written_changed, written_keeps}
use Rattle.key_index_store.proofs.StoreLemmas.{is_run, mapped_none, place-get}
use Rattle.key_index_store.proofs.store.Store.change.Goals.{else-is_none-via-then-is_none+else-not-place, else-is_none-via-else-is_none}
use Rattle.key_index_store.proofs.store.Store.change.Goals as goal

pub returns-in_err-make_room-clause-refused : goal.returns-in_err-make_room-clause-refused
returns-in_err-make_room-clause-refused g c =
    let r : Entry = record { key = c.args.key.now; value = option_map {T = Bor (List ℕ)} (λ v. v.now) c.args.value } in
    let told : Changes (g.D.Device.seen c.args.self.now) (g.D.Device.seen c.make_room.new.self) (λ old new. HasRefused (Hides (g.D.Device.damaged c.make_room.new.self)) old r c.in_err-make_room.field-0.0 new) = λ new seen.
    let was = c.in_err-make_room.ensures.refused new seen in
    (new, was, record { refused = (refl, inl refl); fault = room-refuse (Hides (g.D.Device.damaged c.make_room.new.self)) new r c.in_err-make_room.field-0.0 (c.in_err-make_room.ensures.fault new seen) }) in
    search (rules, told)

pub returns-in_err-place-clause-refused : goal.returns-in_err-place-clause-refused
returns-in_err-place-clause-refused g c =
    let r : Entry = record { key = c.args.key.now; value = option_map {T = Bor (List ℕ)} (λ v. v.now) c.args.value } in
    let told : Changes (g.D.Device.seen c.args.self.now) (g.D.Device.seen c.find_place.new.self.device) (λ old new. HasRefused (Hides (g.D.Device.damaged c.find_place.new.self.device)) old r c.in_err-place.field-0.0 new) = λ mid seen.
    let mid_seen = c.in_err-place.ensures.read.stays mid seen in
    let room = c.in_ok-make_room.ensures.room mid (sym (ap g.D.Device.seen c.self.view_is) ∙ mid_seen) in
    let h = c.self.invariant.0 mid mid_seen in
    let front = take c.self.inside.log.end mid in
    let run = is_run g.I.Key.Ord.cmp front (g.I.Runs.view c.self.inside.index) c.args.key.now h.indexed in
    let missed = missed_room (g.D.Device.damaged c.find_place.new.self.device) room.0 mid r.key c.in_err-place.field-0.0 room.2
    (missed_key g.I.Key.Ord.cmp (g.D.Device.damaged c.find_place.new.self.device) mid (g.I.Runs.view c.self.inside.index) c.self.inside.log.end c.self.inside.tail h r.key c.in_err-place.field-0.0
    (c.in_err-place.ensures.fault mid seen h.within run)) in
    (room.0, room.1, refused_early room.0 mid room.2 r (Hides (g.D.Device.damaged c.find_place.new.self.device)) c.in_err-place.field-0.0 (hidden-refuse (Hides (g.D.Device.damaged c.find_place.new.self.device)) room.0 r c.in_err-place.field-0.0 missed)) in
    search (rules, told)

pub returns-then-not-place-clause-changed : goal.returns-then-not-place-clause-changed
returns-then-not-place-clause-changed g c = λ mid seen.
    let r : Entry = record { key = c.args.key.now; value = option_map {T = Bor (List ℕ)} (λ v. v.now) c.args.value } in
    let mid_seen = c.in_ok-place.ensures.read.stays mid seen in
    let room = c.in_ok-make_room.ensures.room mid (sym (ap g.D.Device.seen c.self.view_is) ∙ mid_seen) in
    let h = c.self.invariant.0 mid mid_seen in
    let front = take c.self.inside.log.end mid in
    let run = is_run g.I.Key.Ord.cmp front (g.I.Runs.view c.self.inside.index) c.args.key.now h.indexed in
    let told : c.in_ok-place.place.is_held ≡ is_some (get (held_by mid) c.args.key.now) =
    place-get g.I.Key.Ord.cmp front (g.I.Runs.view c.self.inside.index) c.args.key.now c.in_ok-place.place.place c.in_ok-place.place.is_held h.indexed (c.in_ok-place.ensures.at mid seen h.within run)
    ∙ ap (λ m. is_some (get m c.args.key.now)) (sym (kept_held g.I.Key.Ord.cmp mid (g.I.Runs.view c.self.inside.index) c.self.inside.log.end c.self.inside.tail h)) in
    let absent = None-is_some (get (held_by mid) r.key) (sym told ∙ not-true _ c.if-not-place.true) in
    let deleted = mapped_none {A = Bor (List ℕ)} (λ v. v.now) c.args.value (sym (some_mapped {A = Bor (List ℕ)} (λ v. v.now) c.args.value) ∙ c.is_none.ensures ∙ ap not c.if-is_none.true) in
    (room.0, room.1, nothing_changed room.0 mid room.2 r (ap (option_map {T = Bor (List ℕ)} (λ v. v.now)) deleted) absent)

pub invariant_of-self-in-Err : goal.invariant_of-self-in-Err
invariant_of-self-in-Err g c = (
  λ new seen.
      let r : Entry = record { key = c.args.key.now; value = option_map {T = Bor (List ℕ)} (λ v. v.now) c.args.value } in
      let failed = c.in-Err.ensures.failed new seen in
      let mid = failed.0 in
      let mid_seen = c.in_ok-place.ensures.read.stays mid failed.1 in
      let room = c.in_ok-make_room.ensures.room mid (sym (ap g.D.Device.seen c.self.view_is) ∙ mid_seen) in
      let h = c.self.invariant.0 mid mid_seen in
      let part = failed.2 (all_kept room.0 mid room.2 r g.met.I.Key.Ord.total g.met.I.Runs.exact (g.I.Runs.view c.self.inside.index) c.self.inside.log.end c.self.inside.tail h c.requires) in
      let is : new ≡ mid ++ take part.0 (encoded c.self.inside.log.end r) = part.1 in
      let less : (part.0 < length (encoded c.self.inside.log.end r)) ⊎ (part.0 ≡ 0) = part.2 in
      subst (λ e. Keeps g.I.Key.Ord.cmp new (g.I.Runs.view c.append.new.index) e tail.Torn) (sym c.in_ok-place.ensures.end)
      (subst (λ l. Keeps g.I.Key.Ord.cmp l (g.I.Runs.view c.append.new.index) c.self.inside.log.end tail.Torn) (sym is)
      (begun_keeps g.met.I.Key.Ord.total g.met.I.Runs.exact mid (g.I.Runs.view c.self.inside.index) c.self.inside.log.end (at_end room.0 mid room.2 r g.met.I.Key.Ord.total g.met.I.Runs.exact (g.I.Runs.view c.self.inside.index) c.self.inside.log.end c.self.inside.tail h c.requires) r c.requires part.0 (begun_size c.self.inside.log.end r part.0 less) (g.I.Runs.view c.append.new.index) c.in-Err.ensures.refused)),
  λ synced new seen none.
      let r : Entry = record { key = c.args.key.now; value = option_map {T = Bor (List ℕ)} (λ v. v.now) c.args.value } in
      let failed = c.in-Err.ensures.failed new seen in
      let mid = failed.0 in
      let mid_seen = c.in_ok-place.ensures.read.stays mid failed.1 in
      let room = c.in_ok-make_room.ensures.room mid (sym (ap g.D.Device.seen c.self.view_is) ∙ mid_seen) in
      let h = c.self.invariant.0 mid mid_seen in
      c.self.invariant.1 synced mid mid_seen (c.in_ok-place.ensures.read.crash None (not_added (c.in-Err.ensures.crash mid failed.1 (all_kept room.0 mid room.2 r g.met.I.Key.Ord.total g.met.I.Runs.exact (g.I.Runs.view c.self.inside.index) c.self.inside.log.end c.self.inside.tail h c.requires) None none))),
)

pub returns-in-Err-clause-refused : goal.returns-in-Err-clause-refused
returns-in-Err-clause-refused g c = λ new seen.
    let r : Entry = record { key = c.args.key.now; value = option_map {T = Bor (List ℕ)} (λ v. v.now) c.args.value } in
    let failed = c.in-Err.ensures.failed new seen in
    let mid = failed.0 in
    let mid_seen = c.in_ok-place.ensures.read.stays mid failed.1 in
    let room = c.in_ok-make_room.ensures.room mid (sym (ap g.D.Device.seen c.self.view_is) ∙ mid_seen) in
    let h = c.self.invariant.0 mid mid_seen in
    let part = failed.2 (all_kept room.0 mid room.2 r g.met.I.Key.Ord.total g.met.I.Runs.exact (g.I.Runs.view c.self.inside.index) c.self.inside.log.end c.self.inside.tail h c.requires) in
    let is : new ≡ mid ++ take part.0 (encoded c.self.inside.log.end r) = part.1 in
    let less : (part.0 < length (encoded c.self.inside.log.end r)) ⊎ (part.0 ≡ 0) = part.2 in
    let front = take c.self.inside.log.end mid in
    let run = is_run g.I.Key.Ord.cmp front (g.I.Runs.view c.self.inside.index) c.args.key.now h.indexed in
    let told : c.in_ok-place.place.is_held ≡ is_some (get (held_by mid) c.args.key.now) =
    place-get g.I.Key.Ord.cmp front (g.I.Runs.view c.self.inside.index) c.args.key.now c.in_ok-place.place.place c.in_ok-place.place.is_held h.indexed (c.in_ok-place.ensures.at mid failed.1 h.within run)
    ∙ ap (λ m. is_some (get m c.args.key.now)) (sym (kept_held g.I.Key.Ord.cmp mid (g.I.Runs.view c.self.inside.index) c.self.inside.log.end c.self.inside.tail h)) in
    let may = append-refuse (Hides (g.D.Device.damaged c.append.new.device)) room.0 r c.in-Err.fault (λ full.
    let absent = None-is_some (get (held_by mid) r.key) (sym told ∙ full.0) in
    full-refuse (Hides (g.D.Device.damaged c.append.new.device)) room.0 r c.in-Err.fault (g.I.Runs.view c.self.inside.index) (h.indexed.counted ∙ ap (λ m. len m) (sym (kept_held g.I.Key.Ord.cmp mid (g.I.Runs.view c.self.inside.index) c.self.inside.log.end c.self.inside.tail h) ∙ room.2.held)) (ap (λ m. get m r.key) (sym room.2.held) ∙ absent) full.1) c.in-Err.ensures.fault in
    (room.0, room.1, subst (HasRefused (Hides (g.D.Device.damaged c.append.new.device)) room.0 r c.in-Err.fault) (sym is) (begun_refused room.0 mid room.2 r g.met.I.Key.Ord.total g.met.I.Runs.exact (g.I.Runs.view c.self.inside.index) c.self.inside.log.end c.self.inside.tail h c.requires (Hides (g.D.Device.damaged c.append.new.device)) part.0 less c.in-Err.fault may))

pub returns-in-Err-clause-crash : goal.returns-in-Err-clause-crash
returns-in-Err-clause-crash g c = λ new seen.
    let r : Entry = record { key = c.args.key.now; value = option_map {T = Bor (List ℕ)} (λ v. v.now) c.args.value } in
    let failed = c.in-Err.ensures.failed new seen in
    let mid = failed.0 in
    let mid_seen = c.in_ok-place.ensures.read.stays mid failed.1 in
    let room = c.in_ok-make_room.ensures.room mid (sym (ap g.D.Device.seen c.self.view_is) ∙ mid_seen) in
    let h = c.self.invariant.0 mid mid_seen in
    let part = failed.2 (all_kept room.0 mid room.2 r g.met.I.Key.Ord.total g.met.I.Runs.exact (g.I.Runs.view c.self.inside.index) c.self.inside.log.end c.self.inside.tail h c.requires) in
    let is : new ≡ mid ++ take part.0 (encoded c.self.inside.log.end r) = part.1 in
    let less : (part.0 < length (encoded c.self.inside.log.end r)) ⊎ (part.0 ≡ 0) = part.2 in (
      room.0,
      room.1,
      λ c' left. elim (c.in-Err.ensures.crash mid failed.1 (all_kept room.0 mid room.2 r g.met.I.Key.Ord.total g.met.I.Runs.exact (g.I.Runs.view c.self.inside.index) c.self.inside.log.end c.self.inside.tail h c.requires) c' left) [
        | inl could ↦ adds_weaker (λ l same. inl same) (c.in_ok-make_room.ensures.crash room.0 room.1) c' (subst (λ d. g.D.Device.may_leave d c') c.self.view_is (c.in_ok-place.ensures.read.crash c' could))
        | inr more ↦ inr (more.0, more.1, subst (IsBeforeOrAfter room.0 r) (sym more.2.1) (held_any room.0 mid room.2 r g.met.I.Key.Ord.total g.met.I.Runs.exact (g.I.Runs.view c.self.inside.index) c.self.inside.log.end c.self.inside.tail h c.requires more.2.0))
      ],
    )

pub invariant_of-self-in-Ok : goal.invariant_of-self-in-Ok
invariant_of-self-in-Ok g c = (
  λ new seen.
      let r : Entry = record { key = c.args.key.now; value = option_map {T = Bor (List ℕ)} (λ v. v.now) c.args.value } in
      let written = c.in-Ok.ensures.written new seen in
      let mid = written.0 in
      let mid_seen = c.in_ok-place.ensures.read.stays mid written.1 in
      let room = c.in_ok-make_room.ensures.room mid (sym (ap g.D.Device.seen c.self.view_is) ∙ mid_seen) in
      let h = c.self.invariant.0 mid mid_seen in
      let is : new ≡ mid ++ encoded c.self.inside.log.end r = written.2 (all_kept room.0 mid room.2 r g.met.I.Key.Ord.total g.met.I.Runs.exact (g.I.Runs.view c.self.inside.index) c.self.inside.log.end c.self.inside.tail h c.requires) in
      let front = take c.self.inside.log.end mid in
      let run = is_run g.I.Key.Ord.cmp front (g.I.Runs.view c.self.inside.index) c.args.key.now h.indexed in
      let at = c.in_ok-place.ensures.at mid written.1 h.within run in
      subst (λ l. Keeps g.I.Key.Ord.cmp l (g.I.Runs.view c.append.new.index) c.in-Ok.longer tail.Nothing) (sym is)
      (written_keeps g.met.I.Key.Ord.total g.met.I.Runs.exact mid (g.I.Runs.view c.self.inside.index) c.self.inside.log.end (at_end room.0 mid room.2 r g.met.I.Key.Ord.total g.met.I.Runs.exact (g.I.Runs.view c.self.inside.index) c.self.inside.log.end c.self.inside.tail h c.requires) r c.requires
      c.in_ok-place.ensures.bytes (g.I.Runs.view c.append.new.index) (g.met.I.Runs.lawful c.self.inside.index)
      (is_some c.args.value) (some_mapped {A = Bor (List ℕ)} (λ v. v.now) c.args.value) c.in_ok-place.place.place c.in_ok-place.place.is_held at c.in-Ok.ensures.settled c.in-Ok.longer c.in-Ok.ensures.longer),
  λ _ new seen none.
      let r : Entry = record { key = c.args.key.now; value = option_map {T = Bor (List ℕ)} (λ v. v.now) c.args.value } in
      let written = c.in-Ok.ensures.written new seen in
      let mid = written.0 in
      let mid_seen = c.in_ok-place.ensures.read.stays mid written.1 in
      let mid_known = sym (ap g.D.Device.seen c.self.view_is) ∙ mid_seen in
      let room = c.in_ok-make_room.ensures.room mid mid_known in
      let h = c.self.invariant.0 mid mid_seen in
      let could = c.in_ok-place.ensures.read.crash None (not_added (c.in-Ok.ensures.crash mid written.1 (all_kept room.0 mid room.2 r g.met.I.Key.Ord.total g.met.I.Runs.exact (g.I.Runs.view c.self.inside.index) c.self.inside.log.end c.self.inside.tail h c.requires) None none)) in
      c.in_ok-make_room.ensures.known mid mid_known (subst (λ d. g.D.Device.may_leave d None) c.self.view_is could),
)

pub returns-in-Ok-clause-changed : goal.returns-in-Ok-clause-changed
returns-in-Ok-clause-changed g c = λ new seen.
    let r : Entry = record { key = c.args.key.now; value = option_map {T = Bor (List ℕ)} (λ v. v.now) c.args.value } in
    let written = c.in-Ok.ensures.written new seen in
    let mid = written.0 in
    let mid_seen = c.in_ok-place.ensures.read.stays mid written.1 in
    let room = c.in_ok-make_room.ensures.room mid (sym (ap g.D.Device.seen c.self.view_is) ∙ mid_seen) in
    let h = c.self.invariant.0 mid mid_seen in
    let is : new ≡ mid ++ encoded c.self.inside.log.end r = written.2 (all_kept room.0 mid room.2 r g.met.I.Key.Ord.total g.met.I.Runs.exact (g.I.Runs.view c.self.inside.index) c.self.inside.log.end c.self.inside.tail h c.requires) in
    let front = take c.self.inside.log.end mid in
    let run = is_run g.I.Key.Ord.cmp front (g.I.Runs.view c.self.inside.index) c.args.key.now h.indexed in
    let told : c.in_ok-place.place.is_held ≡ is_some (get (held_by mid) c.args.key.now) =
    place-get g.I.Key.Ord.cmp front (g.I.Runs.view c.self.inside.index) c.args.key.now c.in_ok-place.place.place c.in_ok-place.place.is_held h.indexed (c.in_ok-place.ensures.at mid written.1 h.within run)
    ∙ ap (λ m. is_some (get m c.args.key.now)) (sym (kept_held g.I.Key.Ord.cmp mid (g.I.Runs.view c.self.inside.index) c.self.inside.log.end c.self.inside.tail h)) in
    let had : c.in_ok-place.place.is_held ≡ is_some (get (held_by room.0) r.key) = told ∙ ap (λ m. is_some (get m r.key)) room.2.held in
    let some : (is_some r.value || c.in_ok-place.place.is_held) ≡ true = elim c.else-is_none.branch [
      | else-is_none-via-then-is_none+else-not-place w ↦ ap (λ b. is_some r.value || b) (not-false _ w.if-not-place.false) ∙ or-true (is_some r.value)
      | else-is_none-via-else-is_none w ↦ ap (λ b. b || c.in_ok-place.place.is_held) (sym (some_mapped {A = Bor (List ℕ)} (λ v. v.now) c.args.value) ∙ w.if-is_none.ensures)
    ] in
    (room.0, room.1, subst (HasChanged room.0 r c.in_ok-place.place.is_held) (sym is) (written_changed room.0 mid room.2 r g.met.I.Key.Ord.total g.met.I.Runs.exact (g.I.Runs.view c.self.inside.index) c.self.inside.log.end c.self.inside.tail h c.requires c.in_ok-place.place.is_held had some))

pub returns-in-Ok-clause-crash : goal.returns-in-Ok-clause-crash
returns-in-Ok-clause-crash g c = λ new seen.
    let r : Entry = record { key = c.args.key.now; value = option_map {T = Bor (List ℕ)} (λ v. v.now) c.args.value } in
    let written = c.in-Ok.ensures.written new seen in
    let mid = written.0 in
    let mid_seen = c.in_ok-place.ensures.read.stays mid written.1 in
    let room = c.in_ok-make_room.ensures.room mid (sym (ap g.D.Device.seen c.self.view_is) ∙ mid_seen) in
    let h = c.self.invariant.0 mid mid_seen in
    let is : new ≡ mid ++ encoded c.self.inside.log.end r = written.2 (all_kept room.0 mid room.2 r g.met.I.Key.Ord.total g.met.I.Runs.exact (g.I.Runs.view c.self.inside.index) c.self.inside.log.end c.self.inside.tail h c.requires) in (
      room.0,
      room.1,
      λ c' left. elim (c.in-Ok.ensures.crash mid written.1 (all_kept room.0 mid room.2 r g.met.I.Key.Ord.total g.met.I.Runs.exact (g.I.Runs.view c.self.inside.index) c.self.inside.log.end c.self.inside.tail h c.requires) c' left) [
        | inl could ↦ adds_weaker (λ l same. inl same) (c.in_ok-make_room.ensures.crash room.0 room.1) c' (subst (λ d. g.D.Device.may_leave d c') c.self.view_is (c.in_ok-place.ensures.read.crash c' could))
        | inr more ↦ inr (more.0, more.1, subst (IsBeforeOrAfter room.0 r) (sym more.2.1) (held_any room.0 mid room.2 r g.met.I.Key.Ord.total g.met.I.Runs.exact (g.I.Runs.view c.self.inside.index) c.self.inside.log.end c.self.inside.tail h c.requires more.2.0))
      ],
    )

pub returns-in-Ok-clause-known : goal.returns-in-Ok-clause-known
returns-in-Ok-clause-known g c = λ new seen none.
    let r : Entry = record { key = c.args.key.now; value = option_map {T = Bor (List ℕ)} (λ v. v.now) c.args.value } in
    let written = c.in-Ok.ensures.written new seen in
    let mid = written.0 in
    let mid_seen = c.in_ok-place.ensures.read.stays mid written.1 in
    let mid_known = sym (ap g.D.Device.seen c.self.view_is) ∙ mid_seen in
    let room = c.in_ok-make_room.ensures.room mid mid_known in
    let h = c.self.invariant.0 mid mid_seen in
    let could = c.in_ok-place.ensures.read.crash None (not_added (c.in-Ok.ensures.crash mid written.1 (all_kept room.0 mid room.2 r g.met.I.Key.Ord.total g.met.I.Runs.exact (g.I.Runs.view c.self.inside.index) c.self.inside.log.end c.self.inside.tail h c.requires) None none)) in
    c.in_ok-make_room.ensures.known mid mid_known (subst (λ d. g.D.Device.may_leave d None) c.self.view_is could)

pub returns-then-not-place-clause-known : goal.returns-then-not-place-clause-known
returns-then-not-place-clause-known g c = λ mid seen none.
    let mid_known = sym (ap g.D.Device.seen c.self.view_is) ∙ c.in_ok-place.ensures.read.stays mid seen in
    c.in_ok-make_room.ensures.known mid mid_known (subst (λ d. g.D.Device.may_leave d None) c.self.view_is (c.in_ok-place.ensures.read.crash None none))

pub returns-in_err-make_room-clause-crash : goal.returns-in_err-make_room-clause-crash
returns-in_err-make_room-clause-crash g c = λ new seen.
    let before = c.in_err-make_room.ensures.refused new seen in
    (new, before, adds_weaker (λ l same. inl same) (c.in_err-make_room.ensures.crash new before))

pub returns-then-not-place-clause-crash : goal.returns-then-not-place-clause-crash
returns-then-not-place-clause-crash g c = λ mid seen.
    let mid_known = sym (ap g.D.Device.seen c.self.view_is) ∙ c.in_ok-place.ensures.read.stays mid seen in
    let room = c.in_ok-make_room.ensures.room mid mid_known in (
      room.0,
      room.1,
      λ c' left.
          adds_weaker (λ l same. inl same) (c.in_ok-make_room.ensures.crash room.0 room.1) c' (subst (λ d. g.D.Device.may_leave d c') c.self.view_is (c.in_ok-place.ensures.read.crash c' left)),
    )

pub returns-in_err-place-clause-crash : goal.returns-in_err-place-clause-crash
returns-in_err-place-clause-crash g c = λ mid seen.
    let mid_known = sym (ap g.D.Device.seen c.self.view_is) ∙ c.in_err-place.ensures.read.stays mid seen in
    let room = c.in_ok-make_room.ensures.room mid mid_known in (
      room.0,
      room.1,
      λ c' left.
          adds_weaker (λ l same. inl same) (c.in_ok-make_room.ensures.crash room.0 room.1) c' (subst (λ d. g.D.Device.may_leave d c') c.self.view_is (c.in_err-place.ensures.read.crash c' left)),
    )

pub append-requires-clause-known : goal.append-requires-clause-known
append-requires-clause-known g c = λ none. elim c.else-is_none.branch [
  | else-is_none-via-then-is_none+else-not-place w ↦ not-false _ w.if-not-place.false
  | else-is_none-via-else-is_none w ↦ absurd (false≢true (sym none ∙ w.if-is_none.ensures))
]
