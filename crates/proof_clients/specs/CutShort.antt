-- What the loss of power before a call of the disk leaves of it.
use Rattle.std.specs.Prelude.{◌≡◌, ◌≢◌, ◌+◌, ◌≤◌, ℕ, Bool, Result, Err}
use Rattle.jb_disk.specs.OneCall.{Called}
use Rattle.jb_disk.specs.Fuse.{disk_of, failed_calls, left_of}
use Rattle.jb_disk.specs.declared.fuse.FuseDisk.{FuseDisk}
use Rattle.jb_disk.specs.declared.disk.Disk.{Ghosts}
use Rattle.jb_recover.specs.declared.fault.RecoverFault.{RecoverFault}
use Rattle.jb_recover.specs.declared.fault.RecoverFault.TheVariants.{DeviceFault}
use Rattle.jb_recover.specs.declared.recovered.Recovered.{Recovered}
use Rattle.proof_clients.specs.CutCalls.{Made}

-- What a fuse for this many calls has made of the first disk: calls of it lead to the one that is inside the fuse now,
-- as many as are gone; none is left once the fuse itself has failed one.
pub record HasPassed {D : Type 0} (own : Called → D → D → Bool → Type 0) (calls : ℕ) (first : D) (fuse : FuseDisk D)
    : Type 0 where
  pub passed : ℕ
  pub made : Made own (λ d. d ≡ first) passed (disk_of fuse)
  pub sum : passed + left_of fuse ≡ calls
  pub blown : failed_calls fuse ≢ 0 → left_of fuse ≡ 0

-- Calls of the first disk, at most this many, lead to the last one, each as that kind of disk says of one call; exactly
-- this many where what was run was cut short.
pub record HadCalls {D : Type 0} (G : Ghosts D) (calls : ℕ) (is_cut : Type 0) (first last : D) : Type 0 where
  pub passed : ℕ
  pub made : Made G.own (λ d. d ≡ first) passed last
  pub most : passed ≤ calls
  pub all : is_cut → passed ≡ calls

-- the size of the blocks and their number stay, and a disk that is honest then was so before
pub record KeepsShape {D : Type 0} (G : Ghosts D) (first last : D) : Type 0 where
  pub same_size : G.size last ≡ G.size first
  pub same_count : G.count last ≡ G.count first
  pub was_honest : G.honest last → G.honest first

-- a recovery was cut short: it answers a fault of the disk, and no call that was tried has failed
abbrev pub WasCut : {D : Type 0} → (D → ℕ) → D → D → Result Recovered RecoverFault → Type 0
WasCut faults first last answer = (answer ≡ Err DeviceFault) × (faults last ≡ faults first)
