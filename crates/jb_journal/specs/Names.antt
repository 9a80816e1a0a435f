-- Words of the crates below that the contracts and proofs of a program name.
pub use Rattle.jb_cost.specs.Pieces.{joined}
pub use Rattle.jb_deck.specs.Deck.{OpenDeck}
pub use Rattle.jb_disk.specs.declared.disk.Disk.{Ghosts}
pub use Rattle.jb_disk.specs.declared.file.FileDisk.{FileDisk}
pub use Rattle.jb_disk.specs.declared.start.Start.{Ghosts as Starts}
pub use Rattle.jb_handle.specs.Tickets.{TicketsFrom}
pub use Rattle.jb_handle.specs.Word.{WordMap}
pub use Rattle.jb_handle.specs.Words.{word}
pub use Rattle.jb_handle.specs.declared.stopped.Stopped.{Stopped}
pub use Rattle.jb_handle.specs.declared.word.Word.{Word}
pub use Rattle.jb_handle.specs.declared.word.Word.TheVariants.{Copy, Free}
pub use Rattle.jb_image.specs.Files.{as_file}
pub use Rattle.jb_image.specs.declared.image_geometry.ImageGeometry.{ImageGeometry}
pub use Rattle.jb_board.specs.HistoryRule.{IsFirstPart, StandsIn, with_places}
pub use Rattle.jb_log.specs.Follows.{StandsBy}
pub use Rattle.jb_book.specs.CallsToBook.{IsInHistory}
pub use Rattle.jb_book.specs.Origin.{Begun}
pub use Rattle.jb_book.specs.History.{AreAllStops}
