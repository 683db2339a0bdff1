use Rattle.std.proofs.Common.{◌-◌, length}
use Rattle.key_index_store.proofs.HistoryLemmas.{Grown}
use Rattle.key_index_store.proofs.file_device.FileDeviceDevice.write_at.Given as goal

abbrev pub invariant-loop-done : goal.invariant-loop-done
invariant-loop-done l = Grown l.position l.bytes l.done l.fn.self.history l.self.history

abbrev pub decreases-loop-done : goal.decreases-loop-done
decreases-loop-done l = length l.bytes - l.done
