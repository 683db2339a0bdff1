use Rattle.std.proofs.Common.{ℕ, List, sym, subst, ◌≤◌, ◌∷◌, ◌++◌, length, ap, ◌∙◌, arith, length-append, append_assoc}
use Rattle.key_index_witness.specs.Bytes.{bound_field, encoded, head_field, written}
use Rattle.key_index_witness.specs.declared.Witness.{Witness}
use Rattle.key_index_witness.specs.Witness.{bytes_in, parts_of}
use Rattle.key_index_witness.proofs.WrittenLemmas.{Wrote-first, Wrote-then}
use Rattle.key_index_witness.proofs.bytes.put_witness.Goals as goal

pub returns-in-Present : goal.returns-in-Present
returns-in-Present c =
    let old = c.args.out.now in
    let head = 0 ∷ head_field c.in-Present.place c.in-Present.next.now c.in-Present.path.now in
    let value = c.in-Present.value.now in
    let at = c.put_head-at in
    let a = at.ensures.at in
    let e = c.put.ensures.at in
    let is = c.in-Present.is in
    let need = subst (λ (w : Witness). length (encoded (parts_of w)) ≤ length old) is c.requires.room in
    let fields = head_field c.in-Present.place c.in-Present.next.now c.in-Present.path.now in
    let first = Wrote-first 0 head old at.result at.new.out (omega (arith, a)) at.ensures.written in
    let all = Wrote-then 0 head value old at.result at.new.out c.put.result c.put.new.out first c.put.ensures.at c.put.ensures.written (omega (arith, need, a, e, length-append fields value)) in
    all.new_is ∙ ap (λ (w : Witness). written 0 (encoded (parts_of w)) old) (sym is)

pub returns-in-Absent : goal.returns-in-Absent
returns-in-Absent c =
    let old = c.args.out.now in
    let head = 1 ∷ head_field c.in-Absent.place c.in-Absent.value.now c.in-Absent.path.now in
    let below = bound_field (bytes_in c.in-Absent.below) in
    let next = bound_field (bytes_in c.in-Absent.next) in
    let at = c.put_head-at-in-Absent in
    let mid = c.put_bound-at in
    let end = c.put_bound in
    let a = at.ensures.at in
    let b = mid.ensures.at in
    let e = end.ensures.at in
    let is = c.in-Absent.is in
    let need = subst (λ (w : Witness). length (encoded (parts_of w)) ≤ length old) is c.requires.room in
    let fields = head_field c.in-Absent.place c.in-Absent.value.now c.in-Absent.path.now in
    let room : end.result ≤ length old = omega (arith, need, a, b, e, length-append fields (below ++ next), length-append below next) in
    let first = Wrote-first 0 head old at.result at.new.out (omega (arith, a)) at.ensures.written in
    let second = Wrote-then 0 head below old at.result at.new.out mid.result mid.new.out first mid.ensures.at mid.ensures.written (omega (arith, room, e)) in
    let all = Wrote-then 0 (head ++ below) next old mid.result mid.new.out end.result end.new.out second end.ensures.at end.ensures.written room in
    all.new_is
    ∙ (ap (λ (x : List ℕ). written 0 x old) (append_assoc head below next)
    ∙ ap (λ (w : Witness). written 0 (encoded (parts_of w)) old) (sym is))
