use Rattle.std.proofs.Common.{arith}
use Rattle.key_index_witness.proofs.FieldLemmas.{digests-by_index}
use Rattle.key_index_witness.proofs.bytes.head_len.Goals as goal

pub returns-clause-sizes : goal.returns-clause-sizes
returns-clause-sizes c =
    let short = c.if-path-gt255.false in
    record {
      small = c.ranges.place.fits;
      sized = c.told-digest;
      short = omega (arith, short);
      steps = digests-by_index c.args.path.now c.told-path;
    }
