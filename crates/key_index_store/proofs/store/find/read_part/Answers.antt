use Rattle.std.proofs.Common.{◌≡◌, ◌+◌, true, List, ℕ, length, take, drop, ap, subst, sym, ◌∙◌, arith}
use Rattle.std.specs.Result.{is_ok}
use Rattle.std.proofs.lemmas.List.{take_at}
use Rattle.key_index_store.specs.Device.{Gives}
use Rattle.key_index_store.proofs.ReadLemmas.{on_ok_told}
use Rattle.key_index_store.proofs.store.find.read_part.Goals as goal

pub returns-clause-given : goal.returns-clause-given
returns-clause-given g c = λ log seen.
    let p = c.args.position in
    let ok : is_ok c.read_record-read.result ≡ true = sym c.map_err.ensures.variant ∙ ap is_ok c.in_ok-map_err.was in
    let told = on_ok_told c.read_record-read.result ok (c.read_record-read.ensures.told log seen) in
    let count : length c.as_mut_slice.result.now ≡ c.args.count = omega (arith, c.as_mut_slice.ensures.len, c.in_ok-bytes.ensures.len) in
    let size : length c.read_record-read.new.buffer ≡ c.in_ok-bytes.bytes.len = omega (arith, c.read_record-read.auto.buffer, c.as_mut_slice.ensures.len) in
    let at : 0 + p ≡ p = omega arith in
    subst (Gives (g.D.Device.damaged c.read_record-read.new.self) p (take c.args.count (drop p log))) (sym (take_at c.read_record-read.new.buffer _ c.in_ok-bytes.bytes.len size))
    (subst (λ (own : List ℕ). Gives (g.D.Device.damaged c.read_record-read.new.self) p own c.read_record-read.new.buffer) (λ i. take (count i) (drop (at i) log)) told)
