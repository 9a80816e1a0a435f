use Rattle.std.proofs.Common.{Some, sym, ap, ◌∙◌}
use Rattle.jb_handle.proofs.RisingHomes.{view-get, find-stands, find-goes}
use Rattle.jb_handle.proofs.words.Words.get.Goals as goal

pub returns-in-Ok : goal.returns-in-Ok
returns-in-Ok c =
    let found = find-stands c.self.inside.entries.items c.self.invariant.rising c.args.home c.in-Ok.at c.index.result.now (rw c.deref.ensures.value at c.in-Ok.ensures) in
    ap (λ e. Some e.1) c.index.ensures ∙ sym (view-get _ _ c.self.view_is c.self.invariant.rising c.args.home ∙ found)

pub returns-in-Err : goal.returns-in-Err
returns-in-Err c =
    sym (view-get _ _ c.self.view_is c.self.invariant.rising c.args.home ∙ find-goes c.self.inside.entries.items c.args.home c.in-Err.field-0 (rw c.deref.ensures.value at c.in-Err.ensures))
