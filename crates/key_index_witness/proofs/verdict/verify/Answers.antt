use Rattle.key_index_witness.specs.Witness.{parts_of}
use Rattle.key_index_witness.proofs.ShownLemmas.{sound_by}
use Rattle.key_index_witness.proofs.OneLemmas.{one_by}
use Rattle.key_index_witness.proofs.verdict.verify.Goals as goal

pub returns-clause-sound : goal.returns-clause-sound
returns-clause-sound c = sound_by c.args.root.now c.args.key.now (parts_of c.args.witness) c.told_by.result c.told_by.ensures

pub returns-clause-one : goal.returns-clause-one
returns-clause-one c = one_by c.args.root.now c.args.key.now (parts_of c.args.witness) c.told_by.result c.told_by.ensures
