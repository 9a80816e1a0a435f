use Rattle.std.proofs.lemmas.Slice.Eq.{slice_eq-Decides}
use Rattle.jb_book.proofs.TrailEntries.{entry-Decides}
use Rattle.jb_desk.proofs.follow.are_same.Goals as goal

pub returns : goal.returns
returns c = slice_eq-Decides entry-Decides _ _ _ c.eq.ensures
