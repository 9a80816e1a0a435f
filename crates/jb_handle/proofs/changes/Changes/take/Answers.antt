use Rattle.std.proofs.Common.{sym}
use Rattle.jb_handle.proofs.AdmittedChange.{word-kept}
use Rattle.jb_handle.proofs.changes.Changes.take.Goals as goal

pub keep-requires : goal.keep-requires
keep-requires c = record { kept = word-kept c.args.self.now c.args.home c.args.word c.admit.ensures.kept (rw (sym c.len.ensures) c.in_ok-admit.ensures.ok) }
