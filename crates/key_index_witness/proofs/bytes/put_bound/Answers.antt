use Rattle.std.proofs.Common.{◌≡◌, ℕ, List, Option, Bor, subst, sym, ◌≤◌, ◌+◌, ◌∷◌, [], ◌++◌, length, ap, ◌∙◌, arith}
use Rattle.key_index_witness.specs.Bytes.{bound_field, written}
use Rattle.key_index_witness.specs.Witness.{bytes_in}
use Rattle.key_index_witness.proofs.WrittenLemmas.{Wrote-first, Wrote-then}
use Rattle.key_index_witness.proofs.bytes.put_bound.Goals as goal

pub returns-in-Some-clause-written : goal.returns-in-Some-clause-written
returns-in-Some-clause-written c =
    let old = c.args.out.now in
    let key = c.in-Some.key.now in
    let size = c.to_le_bytes.result in
    let is = c.in-Some.is in
    let le = c.to_le_bytes.ensures in
    let need = subst (λ (b : Option (Bor (List ℕ))). c.args.at + length (bound_field (bytes_in b)) ≤ length old) is c.requires in
    let a = c.put-at.ensures.at in
    let b = c.put-at-in-Some.ensures.at in
    let e = c.put.ensures.at in
    let eight : length size ≡ 8 = ap length le in
    let room : c.put.result ≤ length old = omega (arith, need, a, b, e, eight) in
    let mark = Wrote-first c.args.at (1 ∷ []) old c.put-at.result c.put-at.new.out c.put-at.ensures.at c.put-at.ensures.written in
    let long = Wrote-then c.args.at (1 ∷ []) size old c.put-at.result c.put-at.new.out c.put-at-in-Some.result c.put-at-in-Some.new.out mark c.put-at-in-Some.ensures.at c.put-at-in-Some.ensures.written (omega (arith, room, e)) in
    let all = Wrote-then c.args.at ((1 ∷ []) ++ size) key old c.put-at-in-Some.result c.put-at-in-Some.new.out c.put.result c.put.new.out long c.put.ensures.at c.put.ensures.written room in
    all.new_is
    ∙ (ap (λ (s : List ℕ). written c.args.at (1 ∷ (s ++ key)) old) le ∙ ap (λ (b : Option (Bor (List ℕ))). written c.args.at (bound_field (bytes_in b)) old) (sym is))
