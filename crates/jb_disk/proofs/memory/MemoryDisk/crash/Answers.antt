use Rattle.std.proofs.Common.{sym, subst}
use Rattle.jb_disk.specs.Calls.{image_of}
use Rattle.jb_disk.specs.Versions.{IsChosen}
use Rattle.jb_disk.proofs.MemoryCalls.{kept_sound}
use Rattle.jb_disk.proofs.CrashImage.{chosen_left}
use Rattle.jb_disk.proofs.memory.MemoryDisk.crash.Goals as goal

pub returns-clause-allowed : goal.returns-clause-allowed
returns-clause-allowed c =
    chosen_left c.args.self.now c.args.choice.now (image_of c.in_ok-first.first.items) (kept_sound c.self.invariant c.self.view_is)
    (subst (λ h. IsChosen h c.args.choice.now (image_of c.in_ok-first.first.items)) c.self.view_is
    (record {
      shape = rw (sym c.deref.ensures.value) c.in_ok-first.ensures.shape;
      each = rw (sym c.deref.ensures.value, sym c.deref-2.ensures.value) c.in_ok-first.ensures.chosen;
    }))
