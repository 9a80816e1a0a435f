use Rattle.std.proofs.Common.{◌≡◌, true, subst, sym}
use Rattle.std.proofs.lemmas.Result.{IfErr-weaker, IfOk-weaker}
use Rattle.jb_journal.specs.Run.{EndsChecked, HasThreaded}
use Rattle.jb_journal.specs.declared.options.Commits.TheVariants.{Meanwhile}
use Rattle.jb_journal.specs.declared.threads.Ends.{Ends}
use Rattle.jb_journal.proofs.RunLeaves.{ran-all, stops-at}
use Rattle.jb_journal.proofs.running.run_at.Goals as goal

pub returns : goal.returns
returns g c =
    let b = g.H.Origin.begun in
    let may = g.W.Worker.answers c.args.worker.now b c.args.shape in
    let workers = c.args.options.workers in
    let ran = c.run_all-ran.result in
    let all = c.of-gathered.result.0 in
    let ends = c.of-gathered.result.1 in
    let has : HasThreaded g.D.Disk may workers ran = subst (λ n. HasThreaded g.D.Disk may n ran) c.places_of-places.ensures.number c.run_all-ran.ensures.ran in
    let gathered = c.of-gathered.ensures.gathered in
    let same = sym c.of-gathered.ensures.ends in
    let only = subst (λ (e : Ends). e.given_up ≡ true → c.args.options.commits ≡ Meanwhile) same c.run_all-ran.ensures.given_up in
    let checked = subst (λ (e : Ends). EndsChecked c.args.options.checkpoint e.checkpoint) same c.run_all-ran.ensures.ended in
    let closed = c.close.ensures in
    record {
      ran = IfOk-weaker c.close.result _ _ (ran-all g.D.Disk b may workers ran all has gathered c.args.shape) closed.closed;
      ends = IfOk-weaker c.close.result _ _ (λ told ending. ending c.args.options.checkpoint checked) closed.ends;
      since = closed.since;
      faults = IfErr-weaker c.close.result _ _ (stops-at g.D.Disk b may workers ran all has gathered ends.given_up c.args.options.commits only) closed.faults;
    }
