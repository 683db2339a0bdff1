use Rattle.std.proofs.Common.{◌≡◌, true, length, take, drop, ap, sym, ◌∙◌, arith}
use Rattle.std.specs.Result.{is_ok}
use Rattle.std.proofs.lemmas.List.{take_at}
use Rattle.key_index_store.proofs.ReadLemmas.{on_ok_told}
use Rattle.key_index_store.proofs.store.find.read_bytes.Goals as goal

pub returns-clause-told : goal.returns-clause-told
returns-clause-told g c = λ log seen.
    let ok : is_ok c.read_at-read.result ≡ true = sym c.map_err.ensures.variant ∙ ap is_ok c.in_ok-map_err.was in
    let told = on_ok_told c.read_at-read.result ok (c.read_at-read.ensures.told log seen) in
    let count : length c.as_mut_slice.result.now ≡ c.args.count = omega (arith, c.as_mut_slice.ensures.len, c.in_ok-bytes.ensures.len) in
    let size : length c.read_at-read.new.buffer ≡ c.in_ok-bytes.bytes.len = omega (arith, c.read_at-read.auto.buffer, c.as_mut_slice.ensures.len) in
    take_at c.read_at-read.new.buffer _ c.in_ok-bytes.bytes.len size ∙ told ∙ ap (λ n. take n (drop c.args.position log)) count
