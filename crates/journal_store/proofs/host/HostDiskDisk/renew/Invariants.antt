use Rattle.std.proofs.Common.{◌-◌}
use Rattle.journal_store.proofs.host.HostDiskDisk.renew.Given as goal

abbrev pub decreases-loop-at : goal.decreases-loop-at
decreases-loop-at l = l.end - l.at
