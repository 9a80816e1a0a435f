use Rattle.std.proofs.Common.{◌∙◌, ◌∷◌, ap, subst}
use Rattle.jb_disk.specs.History.{Synced, IsHistorySound}
use Rattle.jb_disk.proofs.MemoryCalls.{goes_synced}
use Rattle.jb_disk.proofs.memory.MemoryDiskDisk.sync.Goals as goal

pub returns-in-Ok-clause-goes : goal.returns-in-Ok-clause-goes
returns-in-Ok-clause-goes c = λ _.
    goes_synced c.args.self.now _ (subst IsHistorySound c.self.view_is c.self.invariant.sound) (ap (λ h. h.first) c.self.view_is)
    (c.in-Ok.ensures.ok ∙ ap (λ h. Synced ∷ h.steps) c.self.view_is)
