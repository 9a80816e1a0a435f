use Rattle.std.proofs.Common.{ap, refl, inl, ⊎_elim, inr, subst, sym, ◌∙◌}
use Rattle.std.proofs.lemmas.Result.{IfErr-weaker, IfOk-weaker}
use Rattle.jb_journal.proofs.RunLeaves.{closed-as, since-as, untold-as}
use Rattle.jb_journal.proofs.closing.close.Goals as goal

pub tell-requires : goal.tell-requires
tell-requires g c = c.in-Ok.ensures.ok.within

pub returns-in-Ok : goal.returns-in-Ok
returns-in-Ok g c =
    let closed = c.in-Ok.closed in
    let ended = c.in-Ok.ensures.ok in
    record {
      closed = IfOk-weaker c.tell.result _ _
          (λ ran told. closed-as g.D.Disk g.H.Origin.begun c.args.gathered ran closed ended c.args.shape told.6 told.0 told.1 told.2 (ap (λ t. t.items) told.3) told.4 told.5 c.args.workers told.7)
          c.tell.ensures.told;
      since = IfOk-weaker c.tell.result _ _
          (λ ran told. since-as g.D.Disk g.H.Origin.begun ran closed.disk closed.trail.items told.0 (ap (λ t. t.items) told.3) ended.since)
          c.tell.ensures.told;
      ends = c.tell.ensures.ends;
      faults = IfErr-weaker c.tell.result _ _ (untold-as g.D.Disk g.H.Origin.begun c.args.gathered closed ended c.args.ends.given_up) c.tell.ensures.faults;
    }

pub returns-in-Err : goal.returns-in-Err
returns-in-Err g c = record { closed = tt; since = tt; ends = tt; faults = record { same_answers = refl; ends = c.in-Err.ensures.err; why = inl refl } }
