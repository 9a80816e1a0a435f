use Rattle.std.proofs.Common.{◌⊎◌, ◌<◌, ◌∙◌, ap, sym, subst}
use Rattle.jb_disk.specs.Faults.{most_faults}
use Rattle.jb_disk.specs.Fuse.{disk_of}
use Rattle.jb_recover.specs.Outcomes.{RecoversAs}
use Rattle.proof_clients.proofs.CallsMade.{leaves-now}
use Rattle.proof_clients.proofs.FuseCalls.{fault-blown, few-yet, had-calls, has-passed}
use Rattle.proof_clients.proofs.cut_short.recover_until.Goals as goal

pub returns-clause-leaves : goal.returns-clause-leaves
returns-clause-leaves g c = λ held.
    let G = g.D.Disk in
    let ends = c.into_inner.ensures in
    leaves-now disk_of G.may_leave G.moment G.left_since c.of-fuse.result c.recover_traced-fuse.result.0 c.args.disk c.into_inner.result
    (λ d image. G.may_leave d image ⊎ RecoversAs (G.size d) (G.count d) (G.newest d) image) c.of-fuse.ensures.disk ends
    (c.recover_traced-fuse.ensures.crash (subst G.honest ends held)) (λ t image within left. g.met.D.Disk.counts_now c.into_inner.result t image held within left)

pub returns-clause-calls : goal.returns-clause-calls
returns-clause-calls g c = λ few.
    let G = g.D.Disk in
    let fuse = c.of-fuse.result in
    let begun = c.of-fuse.ensures in
    let after = c.recover_traced-fuse.result.0 in
    let ends = c.into_inner.ensures in
    let made = c.recover_traced-fuse.ensures.made (few-yet G.faults c.args.disk fuse begun.disk begun.fresh few) in
    let so = has-passed G.faults G.own c.args.calls c.args.disk fuse after made.0 begun.disk begun.calls begun.fresh made.1 in
    had-calls G c.args.calls c.args.disk c.into_inner.result after ends so
    (λ cut. fault-blown c.recover_traced-fuse.result.1 (G.faults fuse.disk) fuse.failed (G.faults after.disk) after.failed
    (subst (λ n. n < most_faults) (ap G.faults (sym begun.disk)) few) c.recover_traced-fuse.ensures.faults cut.0
    (ap G.faults (sym ends) ∙ cut.1 ∙ ap G.faults (sym begun.disk)) begun.fresh)
