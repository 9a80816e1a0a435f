-- What was done to a disk whose calls are shown was done to the disk that they are passed on to.
use Rattle.std.proofs.Common.{ℕ, Bool, List, false, Option, Result}
use Rattle.jb_disk.specs.Image.{Image, ChangesNothing}
use Rattle.jb_disk.specs.KeptOn.{KeptOn, ReadsOn}
use Rattle.jb_disk.specs.Time.{Goes, LeavesOnly}
use Rattle.jb_disk.specs.declared.disk.Disk.{Ghosts as Disks}
use Rattle.jb_ext.specs.declared.choosing.MapSource.{MapSource}
use Rattle.jb_super.specs.declared.checked.Checksums.{Checksums}
use Rattle.jb_super.specs.declared.checked.Checksums.TheVariants.{Allowed, Refused, Unjudged}
use Rattle.jb_recover.specs.Passes.{PassedBy}
use Rattle.jb_recover.specs.declared.checked_fault.CheckedFault.{CheckedFault}
use Rattle.jb_recover.specs.declared.recovered.Foreseen.{Foreseen}
use Rattle.jb_recover.specs.declared.recovered.Recovered.{Recovered}
use Rattle.jb_commands.specs.Cat.{CatsOn, LooksOn, ShowsOn}
use Rattle.jb_commands.specs.Checking.{ForetellsBy, ForetellsUnreadBy, RecoversBy}
use Rattle.jb_commands.specs.Recover.{RecoversOn}
use Rattle.jb_commands.specs.Watched.{watched}
use Rattle.jb_commands.specs.declared.fault.CommandFault.{CommandFault}
use Rattle.jb_commands.specs.declared.report.Report.{Report}
use Rattle.jb_commands.specs.declared.streams.watched_disk.WatchedDisk.{WatchedDisk}

-- what is said of it as a disk
abbrev pub as_watched : {D K : Type 0} → Disks D → Disks (WatchedDisk D K)
as_watched G = record {
  size = λ w. G.size (watched w);
  count = λ w. G.count (watched w);
  faults = λ w. G.faults (watched w);
  honest = λ w. G.honest (watched w);
  newest = λ w. G.newest (watched w);
  may_leave = λ w. G.may_leave (watched w);
  moment = λ w. G.moment (watched w);
  left_since = λ w. G.left_since (watched w);
  fails_next = λ _. false;
  may_go_on = λ w. G.may_go_on (watched w);
  well_asked = λ w. G.well_asked (watched w);
  own = λ _ _ _ _. Unit {0};
  runs_as_calls = false;
  tells = λ w. G.tells (watched w);
}

module _ {D K : Type 0} (G : Disks D) where
  pub watched-kept : (counts : ℕ → ℕ → Type 0) (old new : WatchedDisk D K) → KeptOn (as_watched G) counts old new → KeptOn G counts (watched old) (watched new)
  watched-kept counts old new kept = record {
    same_size = kept.same_size;
    same_count = kept.same_count;
    was_honest = kept.was_honest;
    counted = kept.counted;
    asked = kept.asked;
    going = kept.going;
  }

  watched-leaves : (P : Image → Type 0) (old new : WatchedDisk D K) → LeavesOnly (λ w. G.moment (watched w)) (λ w. G.left_since (watched w)) old new P → LeavesOnly G.moment G.left_since (watched old) (watched new) P
  watched-leaves P old new run = record { later = run.later; each = run.each; before = run.before }

  watched-goes : (old new : WatchedDisk D K) → Goes (λ w. G.may_leave (watched w)) (λ w. G.moment (watched w)) (λ w. G.left_since (watched w)) ChangesNothing old new
      → Goes G.may_leave G.moment G.left_since ChangesNothing (watched old) (watched new)
  watched-goes old new goes = record { crash = goes.crash; later = goes.later; nothing_else = goes.nothing_else; keeps = goes.keeps }

  watched-reads : (old new : WatchedDisk D K) → ReadsOn (as_watched G) old new → ReadsOn G (watched old) (watched new)
  watched-reads old new reads = record { pending = reads.pending; going = reads.going }

  watched-recovers : (sums : Checksums) (old new : WatchedDisk D K) (answer : Result Recovered CheckedFault) → RecoversBy sums (as_watched G) old new answer → RecoversBy sums G (watched old) (watched new) answer
  watched-recovers Refused old new answer (plain, r, is) = (
    plain,
    record {
      kept = watched-kept _ old new r.kept;
      recovers = r.recovers;
      crash = λ honest. watched-leaves _ old new (r.crash honest);
      again = r.again;
      durable = r.durable;
    },
    is,
  )
  watched-recovers Allowed old new answer r = record {
    kept = watched-kept _ old new r.kept;
    recovers = r.recovers;
    crash = λ honest. watched-leaves _ old new (r.crash honest);
    again = r.again;
    durable = r.durable;
  }
  watched-recovers Unjudged old new answer r = record {
    kept = watched-kept _ old new r.kept;
    recovers = r.recovers;
    crash = λ honest. watched-leaves _ old new (r.crash honest);
    again = r.again;
    durable = r.durable;
  }

  watched-passed : {R : Type 0} (counts : R → ℕ → ℕ → Type 0) (result : R) (old new : WatchedDisk D K) → PassedBy (as_watched G) counts result old new → PassedBy G counts result (watched old) (watched new)
  watched-passed counts result old new passed = record {
    kept = watched-kept (counts result) old new passed.kept;
    same = passed.same;
    idle = λ honest. watched-goes old new (passed.idle honest);
    unsynced = watched-reads old new passed.unsynced;
  }

  pub watched-foretells : (sums : Checksums) (old new : WatchedDisk D K) (answer : Result Foreseen CheckedFault) → ForetellsBy sums (as_watched G) old new answer → ForetellsBy sums G (watched old) (watched new) answer
  watched-foretells Refused old new answer (plain, f, is) = (plain, record { passed = watched-passed _ plain old new f.passed; foresees = f.foresees }, is)
  watched-foretells Allowed old new answer f = record { passed = watched-passed _ answer old new f.passed; foresees = f.foresees }
  watched-foretells Unjudged old new answer f = record { passed = watched-passed _ answer old new f.passed; foresees = f.foresees }

  pub watched-unread : (sums : Checksums) (old new : WatchedDisk D K) (answer : Result Foreseen CheckedFault) → ForetellsUnreadBy sums (as_watched G) old new answer → ForetellsUnreadBy sums G (watched old) (watched new) answer
  watched-unread Refused old new answer (plain, f, is) = (plain, record { passed = watched-passed _ plain old new f.passed; foresees = f.foresees }, is)
  watched-unread Allowed old new answer f = record { passed = watched-passed _ answer old new f.passed; foresees = f.foresees }
  watched-unread Unjudged old new answer f = record { passed = watched-passed _ answer old new f.passed; foresees = f.foresees }

  pub watched-recovery : (sums : Checksums) (homes : Option ℕ) (found : Option MapSource) (old new : WatchedDisk D K) (end : Result Report CommandFault)
      → RecoversOn sums (as_watched G) homes found old new end → RecoversOn sums G homes found (watched old) (watched new) end
  watched-recovery sums homes found old new end r = record { answer = r.answer; recovers = watched-recovers sums old new r.answer r.recovers; told = r.told }

  watched-cats : (sums : Checksums) (homes : Option ℕ) (first n : ℕ) (hex : Bool) (old new : WatchedDisk D K) (out_old out_new : Option (List ℕ)) (end : Result ℕ CommandFault)
      → CatsOn sums (as_watched G) homes first n hex old new out_old out_new end → CatsOn sums G homes first n hex (watched old) (watched new) out_old out_new end
  watched-cats sums homes first n hex old new out_old out_new end c = record {
    blocks = c.blocks;
    kept = watched-kept _ old new c.kept;
    same = c.same;
    idle = λ honest. watched-goes old new (c.idle honest);
    unsynced = watched-reads old new c.unsynced;
    peeked = c.peeked;
    told = c.told;
  }

  watched-looks : (sums : Checksums) (homes : Option ℕ) (home : ℕ) (old new : WatchedDisk D K) (end : Result ℕ CommandFault)
      → LooksOn sums (as_watched G) homes home old new end → LooksOn sums G homes home (watched old) (watched new) end
  watched-looks sums homes home old new end l = record {
    kept = watched-kept _ old new l.kept;
    same = l.same;
    idle = λ honest. watched-goes old new (l.idle honest);
    unsynced = watched-reads old new l.unsynced;
    looked = l.looked;
  }

  pub watched-shows : (sums : Checksums) (homes : Option ℕ) (first n : ℕ) (hex : Bool) (old new : WatchedDisk D K) (out_old out_new : Option (List ℕ)) (end : Result ℕ CommandFault)
      → ShowsOn sums (as_watched G) homes first n hex old new out_old out_new end → ShowsOn sums G homes first n hex (watched old) (watched new) out_old out_new end
  watched-shows sums homes first n hex old new out_old out_new end s = record {
    cats = λ some. watched-cats sums homes first n hex old new out_old out_new end (s.cats some);
    looks = λ none. watched-looks sums homes first old new end (s.looks none);
    silent = s.silent;
  }
