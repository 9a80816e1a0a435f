use Rattle.std.proofs.Common.{◌-◌, ◌*◌, ◌++◌, refl, sym, ◌∙◌, ap, arith}
use Rattle.std.proofs.lemmas.Result.{on_ok_weaker}
use Rattle.jb_image.proofs.JoinedImages.{Halves, reads-both}
use Rattle.jb_image.proofs.PairCalls.{reads-front, reads-back, goes-both}
use Rattle.jb_image.proofs.PairKept.{fails-front, keeps-front, keeps-back, keeps-then, run-front, run-back}
use Rattle.jb_image.proofs.pair.PairDiskDisk.read_run.Goals as goal

pub returns-then-place-blocks-clause-goes : goal.returns-then-place-blocks-clause-goes
returns-then-place-blocks-clause-goes g c =
    reads-front g.A.Disk g.B.Disk g.met.A.Disk.only_now g.met.B.Disk.only_now c.args.self.now c.read_run.new.self c.note.new.self c.note.ensures c.read_run.ensures.kept c.read_run.ensures.goes

pub returns-then-front-place-clause-goes : goal.returns-then-front-place-clause-goes
returns-then-front-place-clause-goes g c =
    let run = c.read_run-then-front-place.ensures in
    reads-back g.A.Disk g.B.Disk g.met.A.Disk.only_now g.met.B.Disk.only_now c.args.self.now c.read_run-then-front-place.new.self c.note.new.self c.note.ensures run.kept run.goes

pub returns-in_err-read_run-clause-goes : goal.returns-in_err-read_run-clause-goes
returns-in_err-read_run-clause-goes g c =
    reads-front g.A.Disk g.B.Disk g.met.A.Disk.only_now g.met.B.Disk.only_now c.args.self.now c.read_run-2.new.self c.note.new.self c.note.ensures c.read_run-2.ensures.kept c.read_run-2.ensures.goes

pub returns-clause-found : goal.returns-clause-found
returns-clause-found g c honest =
    let p = c.args.self.now in
    let n = c.blocks-front.result - c.args.place in
    let first = c.read_run-2.new.buf in
    let rest = c.read_run-3.new.buf in
    let was = c.read_run-2.ensures.kept.was_honest honest.first in
    let shape = g.met.A.Disk.has_shape p.front (g.A.Disk.newest p.front) was (g.met.A.Disk.newest_may_stay p.front was) in
    let halves : Halves (g.A.Disk.size p.front) n (c.args.blocks - n) c.args.blocks first rest (first ++ rest) = record {
      long = c.read_run-2.auto.buf ∙ c.split_at_mut-first.ensures.front_len ∙ ap (λ s. s * n) (c.bytes-size.ensures.value ∙ c.block_size.ensures);
      all = omega (arith, c.if-place-blocks.false, c.if-front-place.false);
      whole = refl;
    } in
    on_ok_weaker c.read_run-3.result
    (reads-both halves c.args.place (g.A.Disk.newest p.front) (g.B.Disk.newest p.back)
    (omega (arith, shape.blocks, c.blocks-front.ensures, c.if-front-place.false)) (c.in_ok-read_run.ensures.found honest.first))
    (rw (sym c.read_run-3.ensures.kept.same_size ∙ sym honest.same_size ∙ c.read_run-2.ensures.kept.same_size) at (c.read_run-3.ensures.found honest.second))

pub returns-clause-goes : goal.returns-clause-goes
returns-clause-goes g c honest =
    let first = c.read_run-2.ensures in
    let second = c.read_run-3.ensures in
    goes-both g.A.Disk g.B.Disk g.met.A.Disk.only_now g.met.B.Disk.only_now g.met.A.Disk.has_shape g.met.B.Disk.has_shape c.args.self.now c.read_run-2.new.self c.read_run-3.new.self
    c.note.new.self c.note-2.new.self c.note.ensures c.note-2.ensures first.kept second.kept honest first.goes second.goes

pub read_run-requires : goal.read_run-requires
read_run-requires g c = record { run = run-front (g.A.Disk.count c.args.self.now.front) _ c.blocks-front.ensures c.requires.run c.if-place-blocks.true }

pub read_run-requires-then-front-place : goal.read_run-requires-then-front-place
read_run-requires-then-front-place g c =
    let p = c.args.self.now in
    record { run = run-back (g.A.Disk.size p.front) (g.A.Disk.count p.front) (g.B.Disk.size p.back) (g.B.Disk.count p.back) c.blocks-front.ensures c.requires.run c.if-front-place.true }

pub returns-then-place-blocks-clause-kept : goal.returns-then-place-blocks-clause-kept
returns-then-place-blocks-clause-kept g c = keeps-front g.A.Disk g.B.Disk c.read_run.result c.args.self.now c.read_run.new.self c.note.new.self c.read_run.ensures.kept

pub returns-then-front-place-clause-kept : goal.returns-then-front-place-clause-kept
returns-then-front-place-clause-kept g c =
    let run = c.read_run-then-front-place in
    keeps-back g.A.Disk g.B.Disk run.result c.args.self.now run.new.self c.note.new.self run.ensures.kept

pub returns-in_err-read_run-clause-kept : goal.returns-in_err-read_run-clause-kept
returns-in_err-read_run-clause-kept g c =
    fails-front g.A.Disk g.B.Disk c.from_residual.result c.args.self.now c.read_run-2.new.self c.note.new.self c.from_residual.ensures.0 c.in_err-read_run.ensures.kept

pub returns-clause-kept : goal.returns-clause-kept
returns-clause-kept g c =
    keeps-then g.A.Disk g.B.Disk c.args.self.now c.read_run-2.new.self c.read_run-3.new.self c.note-2.new.self c.read_run-3.result c.in_ok-read_run.ensures.kept c.read_run-3.ensures.kept
