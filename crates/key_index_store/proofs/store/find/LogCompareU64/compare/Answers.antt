use Rattle.std.proofs.Common.{◌∙◌, drop, take, sym}
use Rattle.key_index_flat.specs.FullKeys.{byte_cmp}
use Rattle.key_index_store.specs.Indexed.{key_at}
use Rattle.key_index_store.proofs.ReadLemmas.{key_in-live}
use Rattle.key_index_store.proofs.SearchLemmas.{side_none, side_told}
use Rattle.key_index_store.proofs.store.find.LogCompareU64.compare.Goals as goal

pub returns-in-Some-clause-side : goal.returns-in-Some-clause-side
returns-in-Some-clause-side g c = λ keys agrees.
    let p = c.args.value.now in
    let key = c.args.key.now in
    let front = take c.args.self.now.end agrees.0 in
    let read = rw (← c.as_slice.ensures.value) at (c.in_ok-bytes.ensures.key agrees.0 agrees.1 agrees.2) in
    side_told (g.D.Device.damaged c.read_record.new.device) p c.as_slice.result.now (drop p front) key read c.side_of.result c.side_of.ensures c.in-Some.side c.in-Some.is
    ∙ (λ i. byte_cmp (sym agrees.3 i p) key)

pub returns-in-None-clause-hidden : goal.returns-in-None-clause-hidden
returns-in-None-clause-hidden g c = λ log seen within live.
    let p = c.args.value.now in
    let front = take c.args.self.now.end log in
    let read = rw (← c.as_slice.ensures.value) at (c.in_ok-bytes.ensures.key log seen within) in
    side_none (g.D.Device.damaged c.read_record.new.device) p c.as_slice.result.now (drop p front) c.args.key.now read c.side_of.result c.side_of.ensures (key_at front p) (key_in-live front p live) c.in-None.is
