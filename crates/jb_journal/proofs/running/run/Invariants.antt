use Rattle.jb_board.specs.Place.{nowhere}
use Rattle.jb_journal.specs.Start.{started_on}
use Rattle.jb_journal.proofs.running.run.Given as goal

abbrev pub ghosts-run_on-H-Origin : goal.ghosts-run_on-H-Origin
ghosts-run_on-H-Origin g a = record {
  marks = nowhere;
  begun = started_on g.D.Disk a.disk;
}
