use Rattle.std.proofs.Common.{◌≡◌, ◌/◌, ◌<◌, length, ap, ◌∙◌, arith, get_or-set_same, get_or-set_other}
use Rattle.std.proofs.Math.ListN.{length-set}
use Rattle.key_index_witness_tree.specs.Slots.{place_of}
use Rattle.key_index_witness_tree.proofs.LeavesLemmas.{leaves-set}
use Rattle.key_index_witness_tree.proofs.nodes.put.Goals as goal

pub returns-clause-leaves : goal.returns-clause-leaves
returns-clause-leaves c =
    let old = c.args.nodes.now.items in
    let place = c.place_of-place.result in
    let size = c.requires.size in
    let len = c.len.ensures in
    let half : c.len.result ≡ length old / 2 = omega (arith, size, len) in
    let high = c.place_of-place.ensures.high in
    let slot = c.requires.slot in
    let within : place < length old = omega (arith, high, size, len) in
    leaves-set old _ c.args.slot place c.args.digest (omega (arith, size)) (length-set old place c.args.digest) (omega (arith, slot, size))
    (c.place_of-place.ensures.place ∙ ap (λ m. place_of m c.args.slot) half)
    (get_or-set_same old place c.args.digest _ within)
    (λ i _ ne. get_or-set_other old place i c.args.digest _ ne)
