use Rattle.std.proofs.Common.{◌≡◌, ◌+◌, length, Some, ap, ◌∙◌, arith}
use Rattle.key_index_store.proofs.HeaderLemmas.{ends_of, failed_behind, headed_begun, headed_written, left_behind, ok_told, on_err_told, some_told, written_behind, written_length}
use Rattle.key_index_store.proofs.ReadLemmas.{on_ok_told}
use Rattle.key_index_store.proofs.headed.HeadedDevice.write_at.Goals as goal

pub invariant_of-self : goal.invariant_of-self
invariant_of-self g c =
    let is : c.self.inside.end ≡ Some c.in_ok-end.end = grind arith in
    let ends = ends_of is c.self.invariant.0 in
    let failed = on_err_told c.append.result c.if-is_err.ensures.negation c.append.ensures.failed in (
      rw c.ok-self-inside.ensures.value (λ bytes seen. ok_told _ c.len.result (c.len.ensures.told bytes seen)),
      λ _ bytes seen. headed_begun ends c.args.bytes.now (c.self.invariant.1 c.if-not-self.false) failed bytes (c.len.ensures.stays bytes seen),
    )

pub returns-then-is_err-clause-failed : goal.returns-then-is_err-clause-failed
returns-then-is_err-clause-failed g c =
    let is : c.self.inside.end ≡ Some c.in_ok-end.end = grind arith in
    let ends = ends_of is c.self.invariant.0 in
    let failed = on_err_told c.append.result c.if-is_err.ensures.negation c.append.ensures.failed in
    rw (← c.self.view_is) (failed_behind ends c.args.bytes.now c.args.position (λ new seen. failed new (c.len.ensures.stays new seen)))

pub returns-then-is_err-clause-crash : goal.returns-then-is_err-clause-crash
returns-then-is_err-clause-crash g c =
    let is : c.self.inside.end ≡ Some c.in_ok-end.end = grind arith in
    let ends = ends_of is c.self.invariant.0 in
    let left = left_behind ends c.args.bytes.now c.args.position (g.D.Device.may_leave c.self.inside.device) (g.D.Device.may_leave c.append.new.device) (c.self.invariant.1 c.if-not-self.false) c.append.ensures.crash in
    rw (← c.self.view_is) (λ old seen at c' may. left old seen at c' (may.0, c.len.ensures.crash may.0 may.1, may.2))

pub returns-clause-crash : goal.returns-clause-crash
returns-clause-crash g c =
    let is : c.self.inside.end ≡ Some c.in_ok-end.end = grind arith in
    let ends = ends_of is c.self.invariant.0 in
    let left = left_behind ends c.args.bytes.now c.args.position (g.D.Device.may_leave c.self.inside.device) (g.D.Device.may_leave c.append.new.device) (c.self.invariant.1 c.if-not-self.false) c.append.ensures.crash in
    rw (← c.self.view_is) left

pub returns-clause-written : goal.returns-clause-written
returns-clause-written g c =
    let is : c.self.inside.end ≡ Some c.in_ok-end.end = grind arith in
    let ends = ends_of is c.self.invariant.0 in
    let written = on_ok_told c.append.result c.if-is_err.ensures.negation c.append.ensures.written in
    rw (← c.self.view_is) (written_behind ends c.args.bytes.now c.args.position written)

pub invariant_of-self-2 : goal.invariant_of-self-2
invariant_of-self-2 g c =
    let is : c.self.inside.end ≡ Some c.in_ok-end.end = grind arith in
    let ends = ends_of is c.self.invariant.0 in
    let written = on_ok_told c.append.result c.if-is_err.ensures.negation c.append.ensures.written in
    let size = ap (λ n. n + length c.args.bytes.now) c.max.ensures in (
      λ new seen. some_told _ c.checked_add-self-inside.result _ (length new) c.checked_add-self-inside.ensures (size ∙ written_length ends c.args.bytes.now written new seen),
      λ _. headed_written ends c.args.bytes.now (c.self.invariant.1 c.if-not-self.false) written,
    )
