use Rattle.std.proofs.Common.{◌≡◌, ◌≤◌, ◌∷◌, [], ◌++◌, List, ℕ, length, ap, ◌∙◌, arith, length-append}
use Rattle.std.specs.List.{flat_map}
use Rattle.key_index_witness.specs.Bytes.{path_field, written}
use Rattle.key_index_witness.proofs.WrittenLemmas.{fields-joined, Wrote-first, Wrote-then}
use Rattle.key_index_witness.proofs.bytes.put_head.Goals as goal

pub returns-clause-written : goal.returns-clause-written
returns-clause-written c =
    let old = c.args.out.now in
    let kind = c.args.kind ∷ [] in
    let place = c.to_le_bytes.result in
    let digest = c.as_slice.result.now in
    let steps = length c.args.path.now ∷ [] in
    let flat = c.as_flattened.result.now in
    let a = c.put-at.ensures.at in
    let b = c.put-at-2.ensures.at in
    let d = c.put-at-3.ensures.at in
    let f = c.put-at-4.ensures.at in
    let e = c.put.ensures.at in
    let le = c.to_le_bytes.ensures in
    let digest-is = c.as_slice.ensures in
    let flat-is = c.as_flattened.ensures.value in
    let eight : length place ≡ 8 = ap length le in
    let long : length digest ≡ length c.args.digest.now = ap length digest-is in
    let wide : length flat ≡ length (flat_map (λ x. x) c.args.path.now) = ap length flat-is in
    let need = c.requires.room in
    let room : c.put.result ≤ length old = omega (arith, need, a, b, d, f, e, eight, long, wide, length-append c.args.digest.now (path_field c.args.path.now)) in
    let one = Wrote-first 0 kind old c.put-at.result c.put-at.new.out c.put-at.ensures.at c.put-at.ensures.written in
    let two = Wrote-then 0 kind place old c.put-at.result c.put-at.new.out c.put-at-2.result c.put-at-2.new.out one c.put-at-2.ensures.at c.put-at-2.ensures.written (omega (arith, room, d, f, e)) in
    let three = Wrote-then 0 (kind ++ place) digest old c.put-at-2.result c.put-at-2.new.out c.put-at-3.result c.put-at-3.new.out two c.put-at-3.ensures.at c.put-at-3.ensures.written (omega (arith, room, f, e)) in
    let four = Wrote-then 0 ((kind ++ place) ++ digest) steps old c.put-at-3.result c.put-at-3.new.out c.put-at-4.result c.put-at-4.new.out three c.put-at-4.ensures.at c.put-at-4.ensures.written (omega (arith, room, e)) in
    let five = Wrote-then 0 (((kind ++ place) ++ digest) ++ steps) flat old c.put-at-4.result c.put-at-4.new.out c.put.result c.put.new.out four c.put.ensures.at c.put.ensures.written room in
    five.new_is
    ∙ (ap (λ (x : List ℕ). written 0 x old) (fields-joined c.args.kind place digest (length c.args.path.now) flat)
    ∙ (λ i. written 0 (c.args.kind ∷ (le i ++ (digest-is i ++ (length c.args.path.now ∷ flat-is i)))) old))
