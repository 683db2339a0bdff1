use Rattle.std.proofs.Common.{◌≡◌, ◌<◌, ap, ◌∙◌, arith}
use Rattle.std.proofs.lemmas.List.Elements.{All-from_get_or}
use Rattle.std.specs.Ordering.{nat_cmp}
use Rattle.key_index_flat.specs.Content.{list_at}
use Rattle.key_index_flat.specs.Padding.{cap_number}
use Rattle.key_index_parts.specs.Gathered.{pair_cmp, gathered}
use Rattle.key_index_parts.specs.Prefix.{slot_by}
use Rattle.key_index_uses.proofs.callers.values_by_front.Goals as goal

pub returns : goal.returns
returns g c =
    let key = c.args.key.now in
    let front = c.args.front.now in
    let of_key = All-from_get_or (λ n. n < 256) key 0 (λ i within. omega (arith, c.type_inv.key i)) in
    let of_front = All-from_get_or (λ n. n < 256) front 0 (λ i within. omega (arith, c.type_inv.front i)) in
    let one : slot_by g.row.P (cap_number 2) front ≡ slot_by g.row.P (cap_number 2) key =
    (c.grouping_and_order.ensures.partitioned g.row.P 2 front key of_front of_key).1.1 c.requires in
    c.get.ensures ∙ ap (λ k. list_at (pair_cmp nat_cmp) (gathered c.args.index.now.storage.buckets) k) one
