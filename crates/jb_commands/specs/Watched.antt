-- A disk whose calls are shown on a terminal.
use Rattle.jb_commands.specs.declared.streams.watched_disk.WatchedDisk.{WatchedDisk}

-- the disk that calls are passed on to
abbrev pub watched : {D K : Type 0} → WatchedDisk D K → D
watched w = w.disk
