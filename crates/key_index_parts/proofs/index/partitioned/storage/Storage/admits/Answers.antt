use Rattle.std.proofs.Common.{◌≡◌, nat_lt, length, ap, arith}
use Rattle.std.proofs.lemmas.List.{length-map}
use Rattle.key_index_parts.proofs.index.partitioned.storage.Storage.admits.Goals as goal

pub returns : goal.returns
returns g c =
    let as_many = length-map c.self.inside.buckets.items g.X.Contents.content in
    let seen = ap (λ s. length s.buckets) c.self.view_is in
    let same : c.len.result ≡ length c.args.self.now.buckets = omega (arith, c.len.ensures, c.self.inside.buckets.ok.0, as_many, seen) in
    ap (λ n. nat_lt c.args.slot.0 n) same
