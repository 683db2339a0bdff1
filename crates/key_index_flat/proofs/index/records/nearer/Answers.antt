use Rattle.std.proofs.Common.{true, false, subst, ◌∙◌}
use Rattle.key_index_flat.specs.FullKeys.{IsNearestRead, byte_cmp}
use Rattle.key_index_flat.specs.Neighbours.{side_cmp}
use Rattle.key_index_flat.proofs.neighbours.FullKeyLemmas.{nearest_total}
use Rattle.key_index_flat.proofs.neighbours.LeastLemmas.{is_lt-same_keys, pushed_takes, pushed_keeps}
use Rattle.key_index_flat.proofs.index.records.nearer.Goals as goal

pub returns-then-is_before : goal.returns-then-is_before
returns-then-is_before g c = λ keys l is_key h.
    let is_above = g.S.Side.is_above in
    let first = c.in-Some.first in
    let value = c.args.value.now in
    let read = subst (IsNearestRead keys g.K.AsSlice.items is_above l) c.in-Some.is h in
    let test = is_lt-same_keys (side_cmp is_above byte_cmp) c.as_slice.result.now c.as_slice-2.result.now (keys value) (keys first.0.now) true c.if-is_before.ensures (c.as_slice.ensures ∙ is_key) (c.as_slice-2.ensures ∙ read.1) in
    (pushed_takes (nearest_total keys is_above) l first.0.now value read.0 test, is_key)

pub returns : goal.returns
returns g c = λ keys l is_key h.
    let is_above = g.S.Side.is_above in
    let first = c.in-Some.first in
    let value = c.args.value.now in
    let read = subst (IsNearestRead keys g.K.AsSlice.items is_above l) c.in-Some.is h in
    let test = is_lt-same_keys (side_cmp is_above byte_cmp) c.as_slice.result.now c.as_slice-2.result.now (keys value) (keys first.0.now) false c.if-is_before.ensures (c.as_slice.ensures ∙ is_key) (c.as_slice-2.ensures ∙ read.1) in
    (pushed_keeps (nearest_total keys is_above) l first.0.now value read.0 test, read.1)
