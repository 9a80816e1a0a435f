use Rattle.std.proofs.Common.{sym, ap, subst, ◌∙◌}
use Rattle.jb_board.specs.HistorySteps.{Sees}
use Rattle.jb_board.proofs.HistoryKeeps.{audited}
use Rattle.jb_board.proofs.history.History.audit.Goals as goal

pub invariant_of-appender : goal.invariant_of-appender
invariant_of-appender g c =
    let left = c.take_entries-entries.ensures.left.1 in
    let saw = c.observe.ensures.saw.2 in
    let told = c.tell.ensures.told in (
      c.take_entries-entries.ensures.left.0,
      ap (λ m. m.1) left ∙ ap (λ m. m.1) saw ∙ ap (λ m. m.1) told ∙ c.appender.invariant.1,
      ap (λ m. m.0.keeps) left ∙ ap (λ m. m.0.keeps) saw ∙ ap (λ m. m.0.keeps) told ∙ c.appender.invariant.2,
      ap (λ m. m.0.mine) left,
    )

pub returns-clause-kept : goal.returns-clause-kept
returns-clause-kept g c =
    let saw = c.observe.ensures.saw in
    let sees = subst (λ v. Sees v saw.0) (ap (λ m. m.0) c.tell.ensures.told) saw.1 in
    ap (λ m. m.0.seen) c.take_entries-entries.ensures.left.1 ∙ ap (λ m. m.0.seen) saw.2 ∙ sym (sees.whole c.appender.invariant.2) ∙ c.appender.view_is

pub returns-clause-whole : goal.returns-clause-whole
returns-clause-whole g c many h =
    let s = c.appender.inside.seat.me.0 in
    let m = c.made.inside.seat.me.0 in
    let saw = c.observe.ensures.saw in
    let sees = subst (λ v. Sees v saw.0) (ap (λ x. x.0) c.tell.ensures.told) saw.1 in
    rw (sym c.made.view_is, sym c.appender.view_is) (audited s m saw.0 sees c.appender.invariant.2 c.appender.invariant.3 (rw (c.made.view_is, c.appender.view_is) many) h)
