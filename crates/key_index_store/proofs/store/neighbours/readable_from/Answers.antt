use denote.Enum.Bare.{differs_false}
use Rattle.std.proofs.Common.{◌≡◌, ◌⊎◌, ◌≤◌, ◌+◌, [], ℕ, List, Some, true, Vec, Global, length, take, refl, sym, ap, subst, ◌∙◌}
use Rattle.key_index_flat.proofs.entries.EntryLemmas.{some_injective}
use Rattle.key_index_store.specs.Device.{IsRead}
use Rattle.key_index_store.specs.Indexed.{IsLive, entry_at}
use Rattle.key_index_store.specs.Positions.{positions_from}
use Rattle.key_index_store.specs.Stored.{MayRead, in_bytes}
use Rattle.key_index_store.specs.contracts.store.Fault.{the_type}
use Rattle.key_index_store.specs.declared.store.Fault.TheVariants.{Damaged}
use Rattle.key_index_store.specs.declared.store.log.Log.{Log}
use Rattle.key_index_store.specs.declared.store.neighbours.Unreadable.{Unreadable}
use Rattle.key_index_store.specs.laws.ReadLaws.{read-none, read-then}
use Rattle.key_index_store.proofs.DamageLemmas.{HasPassed, is_beyond, passed_all, passed_found, passed_later, passed_live, passed_more, passed_none, passed_other, unread}
use Rattle.key_index_store.proofs.store.neighbours.readable_from.Goals.{in-Ok-Some+else-is_beyond, in-Ok-None, in-Err+else-ne+in_ok-pass-in-Err}
use Rattle.key_index_store.proofs.store.neighbours.readable_from.Goals as goal

pub loop-found-init : goal.loop-found-init
loop-found-init g c = record {
  read = read-none c.args.log.now.device;
  end = refl;
  passes = λ bytes seen within live.
      let all = positions_from g.I.Key.Ord.cmp (g.I.Runs.view c.args.index.now) c.args.slot c.args.place in
      subst (HasPassed (g.D.Device.damaged c.args.log.now.device) (take c.args.log.now.end bytes) c.args.is_above c.args.key.now all all) (sym c.new-passed.ensures.items) (passed_none live);
}

pub returns-then-is_beyond-clause-entry : goal.returns-then-is_beyond-clause-entry
returns-then-is_beyond-clause-entry g c = λ bytes seen within live.
    let inv = c.loop-found.invariant in
    let s = g.I.Runs.view c.args.index.now in
    let front = take c.args.log.now.end bytes in
    let all = positions_from g.I.Key.Ord.cmp s c.args.slot c.args.place in
    let p = c.in-Some.found.position in
    let was = subst (λ l. HasPassed (g.D.Device.damaged c.loop-found.log.device) front c.args.is_above c.args.key.now all l c.loop-found.passed.items) c.in-Some.ensures.found
    (inv.passes bytes (c.entry.ensures.read.stays bytes seen) within live) in
    let told = sym (ap in_bytes c.in-Ok-Some.field-0-is) ∙ subst (λ e. e ≤ length bytes → IsLive (take e bytes) p → in_bytes c.in-Ok-Some.field-0 ≡ Some (entry_at (take e bytes) p)) inv.end
    (c.in-Ok-Some.ensures.entry bytes seen) within (passed_live was) in
    let key : c.in-Ok-Some.entry.0.items ≡ (entry_at front p).0 = ap (λ (e : List ℕ × List ℕ). e.0) (some_injective _ _ told) in
    let other = sym (ap (λ k. is_beyond c.args.is_above c.args.key.now (k, [])) (c.as_slice.ensures.value ∙ key)) ∙ sym c.is_beyond.ensures ∙ c.if-is_beyond.true in
    passed_found was _ other told

pub loop-found-preserved : goal.loop-found-preserved
loop-found-preserved g c =
    let inv = c.loop-found.invariant in
    let s = g.I.Runs.view c.args.index.now in
    let p = c.in-Some.found.position in
    let all = positions_from g.I.Key.Ord.cmp s c.args.slot c.args.place in
    let left = positions_from g.I.Key.Ord.cmp s c.in-Some.found.slot (c.in-Some.found.place + 1) in
    elim c.match-entry.branch [
      | in-Ok-Some+else-is_beyond w ↦
          let device = ap (λ (l : Log g.row.D.Denot). l.device) w.log-is in
          let items = ap (λ (v : Vec Unreadable Global). v.items) w.passed-is in
          record {
            read = subst (IsRead g.D.Device.seen g.D.Device.damaged g.D.Device.may_leave c.args.log.now.device) (sym device) (read-then _ _ _ inv.read c.entry.ensures.read);
            end = ap (λ (l : Log g.row.D.Denot). l.end) w.log-is ∙ c.entry.ensures.end ∙ inv.end;
            passes = λ bytes seen within live.
                let front = take c.args.log.now.end bytes in
                let here = sym (ap g.D.Device.seen device) ∙ seen in
                let was = subst (λ l. HasPassed (g.D.Device.damaged c.loop-found.log.device) front c.args.is_above c.args.key.now all l c.loop-found.passed.items) c.in-Some.ensures.found
                (inv.passes bytes (c.entry.ensures.read.stays bytes here) within live) in
                subst (λ d. HasPassed (g.D.Device.damaged d) front c.args.is_above c.args.key.now all left c.match-entry.passed.items) (sym device)
                (subst (HasPassed (g.D.Device.damaged c.entry.new.self.device) front c.args.is_above c.args.key.now all left) (sym items)
                (passed_other (passed_later c.entry.ensures.read.damage was)
                (let told = sym (ap in_bytes w.in-Ok-Some.field-0-is) ∙ subst (λ e. e ≤ length bytes → IsLive (take e bytes) p → in_bytes w.in-Ok-Some.field-0 ≡ Some (entry_at (take e bytes) p)) inv.end
                (w.in-Ok-Some.ensures.entry bytes here) within (passed_live was) in
                let key : w.in-Ok-Some.entry.0.items ≡ (entry_at front p).0 = ap (λ (e : List ℕ × List ℕ). e.0) (some_injective _ _ told) in
                sym (ap (λ k. is_beyond c.args.is_above c.args.key.now (k, [])) (w.as_slice.ensures.value ∙ key)) ∙ sym w.is_beyond.ensures ∙ w.if-is_beyond.false)));
          }
      | in-Ok-None w ↦
          let device = ap (λ (l : Log g.row.D.Denot). l.device) w.log-is in
          record {
            read = subst (IsRead g.D.Device.seen g.D.Device.damaged g.D.Device.may_leave c.args.log.now.device) (sym device) (read-then _ _ _ inv.read c.entry.ensures.read);
            end = ap (λ (l : Log g.row.D.Denot). l.end) w.log-is ∙ c.entry.ensures.end ∙ inv.end;
            passes = λ bytes seen within live.
                let here = sym (ap g.D.Device.seen device) ∙ seen in
                let was = subst (λ l. HasPassed (g.D.Device.damaged c.loop-found.log.device) (take c.args.log.now.end bytes) c.args.is_above c.args.key.now all l c.loop-found.passed.items) c.in-Some.ensures.found
                (inv.passes bytes (c.entry.ensures.read.stays bytes here) within live) in
                let told = sym (ap in_bytes w.in-Ok-None.field-0-is) ∙ subst (λ e. e ≤ length bytes → IsLive (take e bytes) p → in_bytes w.in-Ok-None.field-0 ≡ Some (entry_at (take e bytes) p)) inv.end
                (w.in-Ok-None.ensures.entry bytes here) within (passed_live was) in
                absurd (cc);
          }
      | in-Err+else-ne+in_ok-pass-in-Err w ↦
          let device = ap (λ (l : Log g.row.D.Denot). l.device) w.log-is in
          let items = ap (λ (v : Vec Unreadable Global). v.items) w.passed-is in
          let pass = w.in_ok-pass-in-Err.ensures in
          record {
            read = subst (IsRead g.D.Device.seen g.D.Device.damaged g.D.Device.may_leave c.args.log.now.device) (sym device) (read-then _ _ _ inv.read (read-then _ _ _ c.entry.ensures.read pass.read));
            end = ap (λ (l : Log g.row.D.Denot). l.end) w.log-is ∙ pass.end ∙ c.entry.ensures.end ∙ inv.end;
            passes = λ bytes seen within live.
                let front = take c.args.log.now.end bytes in
                let mid = pass.read.stays bytes (sym (ap g.D.Device.seen device) ∙ seen) in
                let was = subst (λ l. HasPassed (g.D.Device.damaged c.loop-found.log.device) front c.args.is_above c.args.key.now all l c.loop-found.passed.items) c.in-Some.ensures.found
                (inv.passes bytes (c.entry.ensures.read.stays bytes mid) within live) in
                let why = unread _ (differs_false the_type tt _ _ (sym w.if-ne.ensures))
                (subst (λ e. e ≤ length bytes → IsLive (take e bytes) p → MayRead w.in-Err.fault ⊎ ((w.in-Err.fault ≡ Damaged) × (true ≡ true) × g.D.Device.damaged c.entry.new.self.device p)) inv.end
                (w.in-Err.ensures.fault bytes mid) within (passed_live was)) in
                subst (λ d. HasPassed (g.D.Device.damaged d) front c.args.is_above c.args.key.now all left c.match-entry.passed.items) (sym device)
                (subst (HasPassed (g.D.Device.damaged w.pass.new.log.device) front c.args.is_above c.args.key.now all left) (sym (items ∙ pass.passed.1))
                (passed_more (passed_later (λ place h. pass.read.damage place (c.entry.ensures.read.damage place h)) was) pass.passed.0 (pass.read.damage p why)));
          }
    ]

pub returns-clause-entry : goal.returns-clause-entry
returns-clause-entry g c = λ bytes seen within live. passed_all (c.loop-found.invariant.passes bytes seen within live) c.in_default.ensures.found
