use Rattle.std.proofs.Common.{◌≡◌, ◌-◌, ◌<◌, ◌≤◌, length, Some, ap, sym, length-drop, take_all, arith}
use Rattle.key_index_store.proofs.HeaderLemmas.{cut_behind, cut_length, ends_of, headed_left, left_cut, seen_in}
use Rattle.key_index_store.proofs.headed.HeadedDevice.set_len.Goals as goal

pub invariant_of-self-then-len-saturating_sub : goal.invariant_of-self-then-len-saturating_sub
invariant_of-self-then-len-saturating_sub g c =
    let is : c.self.inside.end ≡ Some c.in_ok-end.end = grind arith in
    let ends = ends_of is c.self.invariant.0 in
    let less : c.args.len < c.in_ok-end.end - 16 = omega (arith, c.if-len-saturating_sub.true, c.saturating_sub.ensures) in
    (cut_length ends c.args.len less c.in_ok-set_len.ensures.cut, λ _. headed_left ends c.args.len less c.in_ok-set_len.ensures.cut (c.self.invariant.1 c.if-not-self.false))

pub returns-in_ok-set_len-clause-cut : goal.returns-in_ok-set_len-clause-cut
returns-in_ok-set_len-clause-cut g c =
    let is : c.self.inside.end ≡ Some c.in_ok-end.end = grind arith in
    let ends = ends_of is c.self.invariant.0 in
    let less : c.args.len < c.in_ok-end.end - 16 = omega (arith, c.if-len-saturating_sub.true, c.saturating_sub.ensures) in
    rw (← c.self.view_is) (cut_behind ends c.args.len less c.in_ok-set_len.ensures.cut)

pub returns-in_ok-set_len-clause-crash : goal.returns-in_ok-set_len-clause-crash
returns-in_ok-set_len-clause-crash g c =
    let is : c.self.inside.end ≡ Some c.in_ok-end.end = grind arith in
    let ends = ends_of is c.self.invariant.0 in
    let less : c.args.len < c.in_ok-end.end - 16 = omega (arith, c.if-len-saturating_sub.true, c.saturating_sub.ensures) in
    rw (← c.self.view_is) (left_cut ends c.args.len less (g.D.Device.may_leave c.self.inside.device) (g.D.Device.may_leave c.set_len.new.self) (c.self.invariant.1 c.if-not-self.false) c.set_len.ensures.crash)

pub returns-in_err-set_len-clause-crash : goal.returns-in_err-set_len-clause-crash
returns-in_err-set_len-clause-crash g c =
    let is : c.self.inside.end ≡ Some c.in_ok-end.end = grind arith in
    let ends = ends_of is c.self.invariant.0 in
    let less : c.args.len < c.in_ok-end.end - 16 = omega (arith, c.if-len-saturating_sub.true, c.saturating_sub.ensures) in
    rw (← c.self.view_is) (left_cut ends c.args.len less (g.D.Device.may_leave c.self.inside.device) (g.D.Device.may_leave c.set_len.new.self) (c.self.invariant.1 c.if-not-self.false) c.set_len.ensures.crash)

pub returns-else-len-saturating_sub-clause-cut : goal.returns-else-len-saturating_sub-clause-cut
returns-else-len-saturating_sub-clause-cut g c =
    let is : c.self.inside.end ≡ Some c.in_ok-end.end = grind arith in
    let ends = ends_of is c.self.invariant.0 in
    rw (← c.self.view_is) (λ x seen.
    let inner = seen_in (g.D.Device.seen c.self.inside.device) x seen in
    let long : length x ≤ c.args.len = omega (arith, c.if-len-saturating_sub.false, c.saturating_sub.ensures, ends.at inner.0 inner.1, ap (λ l. length l) inner.2, length-drop 16 inner.0) in
    (x, seen, λ _. sym (take_all c.args.len x long)))
