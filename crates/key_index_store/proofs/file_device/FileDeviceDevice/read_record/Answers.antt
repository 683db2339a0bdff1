use Rattle.std.proofs.Common.{◌≡◌, length, arith}
use Rattle.key_index_store.proofs.HistoryLemmas.{seen-Gives}
use Rattle.key_index_store.proofs.file_device.FileDeviceDevice.read_record.Goals as goal

pub returns-clause-told : goal.returns-clause-told
returns-clause-told c = λ bytes seen.
    let size : length c.args.buffer.now ≡ length c.read_exact_at.new.buf = omega (arith, c.read_exact_at.auto.buf) in
    seen-Gives c.args.log c.args.place c.read_exact_at.new.buf c.args.self.now.history c.and-self.result c.and-self.ensures (length c.args.buffer.now) size bytes seen
