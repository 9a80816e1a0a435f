use Rattle.jb_book.proofs.BookMarks.{none-marked}
use Rattle.jb_book.proofs.RegisterCalls.{kept-new}
use Rattle.jb_book.proofs.register.Register.new.Goals as goal

pub invariant_of-result : goal.invariant_of-result
invariant_of-result g c = (
  kept-new c.args.shape c.args.usable c.new-book.result c.args.appender c.new-book.ensures c.requires.fresh,
  none-marked c.args.seen c.new-book.result c.args.shape c.new-book.ensures.trail c.new-book.ensures.same_shape c.requires.journal,
)
