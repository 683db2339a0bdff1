use Rattle.std.proofs.Common.{rules}
use Rattle.key_index_store.proofs.threads.devices_are_send_and_sync.Goals as goal
use denote.Memory.{part_of}

pub is_sync-requires-2-sync-T : goal.is_sync-requires-2-sync-T
unfolding part_of
is_sync-requires-2-sync-T c κs = search rules
