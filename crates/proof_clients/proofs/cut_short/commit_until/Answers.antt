use Rattle.std.proofs.Common.{◌⊎◌, false, subst}
use Rattle.jb_disk.specs.Fuse.{disk_of}
use Rattle.proof_clients.specs.Lives.{LeftByLife}
use Rattle.proof_clients.proofs.CallsMade.{leaves-now}
use Rattle.proof_clients.proofs.FuseCalls.{few-yet, had-calls, has-passed}
use Rattle.proof_clients.proofs.cut_short.commit_until.Goals as goal

pub returns-clause-leaves : goal.returns-clause-leaves
returns-clause-leaves g c = λ held.
    let G = g.D.Disk in
    let ends = c.into_inner.ensures in
    leaves-now disk_of G.may_leave G.moment G.left_since c.of-fuse.result c.commit_traced-fuse.result.0 c.args.disk c.into_inner.result
    (λ d image. G.may_leave d image ⊎ LeftByLife (G.size d) (G.count d) (G.newest d) c.args.handles.items false image) c.of-fuse.ensures.disk ends
    (c.commit_traced-fuse.ensures.leaves (subst G.honest ends held)) (λ t image within left. g.met.D.Disk.counts_now c.into_inner.result t image held within left)

pub returns-clause-calls : goal.returns-clause-calls
returns-clause-calls g c = λ few.
    let G = g.D.Disk in
    let fuse = c.of-fuse.result in
    let begun = c.of-fuse.ensures in
    let after = c.commit_traced-fuse.result.0 in
    let made = c.commit_traced-fuse.ensures.made (few-yet G.faults c.args.disk fuse begun.disk begun.fresh few) in
    let so = has-passed G.faults G.own c.args.calls c.args.disk fuse after made.0 begun.disk begun.calls begun.fresh made.1 in
    had-calls G c.args.calls c.args.disk c.into_inner.result after c.into_inner.ensures so (λ cut. absurd cut)
