use Rattle.std.proofs.Common.{IfSome, List, Option, subst, sym}
use Rattle.jb_plan.specs.Batch.{Gathered}
use Rattle.jb_plan.specs.Costs.{HasCut}
use Rattle.jb_handle.specs.Word.{WordMap}
use Rattle.jb_book.specs.CallsToBook.{Registered}
use Rattle.jb_book.proofs.RegisterCalls.{both-take}
use Rattle.jb_book.proofs.register.Register.take.Goals as goal
use Rattle.jb_book.proofs.register.Register.take.Goals.{in-Some, in-None}

pub invariant_of-self : goal.invariant_of-self
invariant_of-self g c = both-take c.self.invariant c.show-prefix.ensures.kept c.take.result c.reserved-reserved.ensures.sound c.take.ensures.cut c.take.ensures.taken c.take.ensures.none

pub returns-clause-cut : goal.returns-clause-cut
returns-clause-cut g c =
    let a = c.args.self.now.book in
    elim c.match-take.branch [
      | in-Some w ↦ subst (λ (x : Option (Gathered × List WordMap)). IfSome x (λ _. HasCut a.shape a.shadow.queue)) (sym w.result-is) (subst (λ (r : Registered). HasCut r.book.shape r.book.shadow.queue) c.self.view_is w.in-Some.ensures.cut)
      | in-None w ↦ subst (λ (x : Option (Gathered × List WordMap)). IfSome x (λ _. HasCut a.shape a.shadow.queue)) (sym w.result-is) tt
    ]
