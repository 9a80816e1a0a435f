use Rattle.jb_board.specs.Place.{nowhere}
use Rattle.jb_image.specs.Files.{as_files}
use Rattle.jb_journal.specs.Start.{started_on}
use Rattle.jb_tool.proofs.load_command.load_queue.Given as goal

-- the image as it was opened
abbrev pub ghosts-load_on-H-Origin : goal.ghosts-load_on-H-Origin
ghosts-load_on-H-Origin g a = record { begun = started_on as_files a.disk; marks = nowhere }
