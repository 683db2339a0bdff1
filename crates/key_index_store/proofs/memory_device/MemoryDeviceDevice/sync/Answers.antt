use Rattle.std.proofs.Common.{◌+◌, ◌≤◌, length, Some, sym, ap, ◌∙◌, take_all, arith}
use Rattle.key_index_store.proofs.memory_device.MemoryDeviceDevice.sync.Goals as goal

pub returns-clause-crash : goal.returns-clause-crash
returns-clause-crash c left may =
    let bytes = c.args.self.now.bytes.items in
    let long : length bytes ≤ may.0 = omega (arith, may.1, c.len-self.ensures) in
    let more : length bytes ≤ may.0 + c.args.self.now.kept = omega arith in
    (may.0 + c.args.self.now.kept, omega arith, may.2 ∙ ap Some (take_all may.0 bytes long ∙ sym (take_all _ bytes more)))
