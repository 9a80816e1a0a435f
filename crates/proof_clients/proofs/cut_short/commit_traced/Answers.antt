use Rattle.std.proofs.Common.{◌<◌, sym, subst}
use Rattle.jb_disk.specs.Faults.{most_faults}
use Rattle.proof_clients.specs.CutCalls.{WereMade, none}
use Rattle.proof_clients.proofs.cut_short.commit_traced.Goals as goal

pub returns-clause-made : goal.returns-clause-made
returns-clause-made g c = λ few.
    let begins = sym c.of-traced.ensures in
    subst (λ d. WereMade g.D.Disk.own g.F.First.is_first d) (sym c.into_inner.ensures)
    (c.run-traced.ensures.kept.asked (subst (λ d. g.D.Disk.faults d < most_faults) begins few) tt
    (0, none c.of-traced.result.disk (subst (λ d. g.F.First.is_first d) begins c.requires.first)))
