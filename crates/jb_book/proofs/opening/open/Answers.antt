use Rattle.jb_book.proofs.OpenedJournal.{open-opened, open-since}
use Rattle.jb_book.proofs.opening.open.Goals as goal

pub returns-clause-opened : goal.returns-clause-opened
returns-clause-opened g c = open-opened g.D.Disk c.args.disk c.open.result c.open.ensures.kept c.open.ensures.opens

pub returns-clause-since : goal.returns-clause-since
returns-clause-since g c =
    open-since g.D.Disk c.args.disk g.met.D.Disk.counts_now g.H.Origin.begun c.requires c.open.result c.open.ensures.kept
    c.open.ensures.new c.open.ensures.opens c.open.ensures.leaves c.open.ensures.now c.open.ensures.stands
