use Rattle.std.proofs.Common.{refl}
use Rattle.key_index_store.specs.Checksum.{after_bit, after_bits}
use Rattle.key_index_store.specs.Header.{header}
use Rattle.key_index_store.proofs.headed.header.Goals as goal

pub returns : goal.returns
unfolding header after_bit after_bits
returns c = refl
