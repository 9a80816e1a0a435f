use Rattle.std.proofs.Common.{◌≡◌, ◌+◌, ◌-◌, ◌*◌, length, sym, ◌∙◌, ap, arith}
use Rattle.std.proofs.lemmas.Result.{on_ok_weaker}
use Rattle.std.proofs.lemmas.List.{take-append-drop}
use Rattle.jb_disk.specs.Runs.{TornRun}
use Rattle.jb_disk.proofs.RunWrites.{torn_run-same}
use Rattle.jb_image.proofs.JoinedImages.{Halves, in-front, in-back, torn_blocks, torn-both, written_blocks, wrote-both}
use Rattle.jb_image.proofs.PairCalls.{steps-front, steps-back, steps-both}
use Rattle.jb_image.proofs.PairKept.{never, run-begun, fails-front, keeps-front, keeps-back, keeps-then, run-front, run-back}
use Rattle.jb_image.proofs.pair.PairDiskDisk.write_run.Given.{Over}
use Rattle.jb_image.proofs.pair.PairDiskDisk.write_run.Goals as goal
use Rattle.jb_image.proofs.pair.PairDiskDisk.write_run.Goals.{After-blocks-front, After-split_at}

-- reads of the first disk give as many blocks as it has
front-long : (g : Over) (c : After-blocks-front g) → g.A.Disk.honest c.args.self.now.front → length (g.A.Disk.newest c.args.self.now.front) ≡ c.blocks-front.result
front-long g c honest =
    let d = c.args.self.now.front in
    let shape = g.met.A.Disk.has_shape d (g.A.Disk.newest d) honest (g.met.A.Disk.newest_may_stay d honest) in
    omega (arith, shape, c.blocks-front.ensures)

-- the bytes in two parts, where the run lies in both disks
parts : (g : Over) (c : After-split_at g)
    → Halves (g.A.Disk.size c.args.self.now.front) (c.blocks-front.result - c.args.place) (c.args.blocks - (c.blocks-front.result - c.args.place)) c.args.blocks c.split_at.result.0.now c.split_at.result.1.now c.args.bytes.now
parts g c = record {
  long = c.split_at.ensures.front_len ∙ ap (λ s. s * (c.blocks-front.result - c.args.place)) (c.bytes-size.ensures.value ∙ c.block_size.ensures);
  all = omega (arith, c.if-place-blocks.false, c.if-front-place.false);
  whole = rw (c.split_at.ensures.front, c.split_at.ensures.back) (take-append-drop (c.bytes-size.result * (c.blocks-front.result - c.args.place)) c.args.bytes.now);
}

pub returns-then-place-blocks-clause-steps : goal.returns-then-place-blocks-clause-steps
returns-then-place-blocks-clause-steps g c honest =
    let p = c.args.self.now in
    let blocks = c.args.blocks in
    let bytes = c.args.bytes.now in
    let torn = TornRun (g.A.Disk.size p.front) blocks c.args.place bytes in
    let run = c.write_run.ensures in
    steps-front g.A.Disk g.B.Disk g.met.A.Disk.only_now g.met.B.Disk.only_now p c.write_run.new.self c.note.new.self c.note.ensures run.kept torn torn honest
    (λ x x' y left torn. in-front blocks (torn_blocks (g.A.Disk.size p.front) blocks bytes) c.args.place x x' y
    (omega (arith, c.if-place-blocks.true, c.blocks-front.ensures, (g.met.A.Disk.has_shape p.front x (run.kept.was_honest honest.first) left).blocks)) torn)
    (torn_run-same (g.A.Disk.size p.front) blocks c.args.place bytes) (run.steps honest.first)

pub returns-then-front-place-clause-written : goal.returns-then-front-place-clause-written
returns-then-front-place-clause-written g c honest =
    let p = c.args.self.now in
    let run = c.write_run-then-front-place.ensures in
    on_ok_weaker c.write_run-then-front-place.result
    (in-back c.args.blocks (written_blocks (g.A.Disk.size p.front) c.args.blocks c.args.bytes.now) (c.args.place - c.blocks-front.result) c.args.place
    (g.A.Disk.newest p.front) (g.B.Disk.newest p.back) (g.B.Disk.newest c.write_run-then-front-place.new.self)
    (omega (arith, c.if-front-place.true, front-long g (goal.at.returns-then-front-place-clause-written g c).After-blocks-front honest.first)))
    (rw (sym run.kept.same_size ∙ sym honest.same_size) at (run.written honest.second))

pub returns-then-front-place-clause-torn : goal.returns-then-front-place-clause-torn
returns-then-front-place-clause-torn g c honest =
    let p = c.args.self.now in
    let run = c.write_run-then-front-place.ensures in
    in-back c.args.blocks (torn_blocks (g.A.Disk.size p.front) c.args.blocks c.args.bytes.now) (c.args.place - c.blocks-front.result) c.args.place
    (g.A.Disk.newest p.front) (g.B.Disk.newest p.back) (g.B.Disk.newest c.write_run-then-front-place.new.self)
    (omega (arith, c.if-front-place.true, front-long g (goal.at.returns-then-front-place-clause-torn g c).After-blocks-front honest.first))
    (rw (sym run.kept.same_size ∙ sym honest.same_size) at (run.torn honest.second))

pub returns-then-front-place-clause-steps : goal.returns-then-front-place-clause-steps
returns-then-front-place-clause-steps g c honest =
    let p = c.args.self.now in
    let size = g.A.Disk.size p.front in
    let blocks = c.args.blocks in
    let place = c.args.place in
    let bytes = c.args.bytes.now in
    let q = place - c.blocks-front.result in
    let run = c.write_run-then-front-place.ensures in
    steps-back g.A.Disk g.B.Disk g.met.A.Disk.only_now g.met.B.Disk.only_now p c.write_run-then-front-place.new.self c.note.new.self c.note.ensures run.kept
    (TornRun size blocks q bytes) (TornRun size blocks place bytes) honest
    (λ x y y' left torn. in-back blocks (torn_blocks size blocks bytes) q place x y y'
    (omega (arith, c.if-front-place.true, c.blocks-front.ensures, (g.met.A.Disk.has_shape p.front x honest.first left).blocks)) torn)
    (torn_run-same size blocks place bytes) (rw (sym run.kept.same_size ∙ sym honest.same_size) at (run.steps honest.second))

pub returns-in_err-write_run-clause-torn : goal.returns-in_err-write_run-clause-torn
returns-in_err-write_run-clause-torn g c honest =
    let at = goal.at.returns-in_err-write_run-clause-torn g c in
    let p = c.args.self.now in
    let run = c.write_run-2.ensures in
    torn-both (parts g at.After-split_at) c.args.place (g.A.Disk.newest p.front) (g.A.Disk.newest c.write_run-2.new.self) (g.B.Disk.newest p.back) (g.B.Disk.newest p.back)
    (omega (arith, c.if-front-place.false, front-long g at.After-blocks-front (run.kept.was_honest honest.first))) (run.torn honest.first) (torn_run-same _ _ 0 _ (g.B.Disk.newest p.back))

pub returns-in_err-write_run-clause-steps : goal.returns-in_err-write_run-clause-steps
returns-in_err-write_run-clause-steps g c honest =
    let p = c.args.self.now in
    let size = g.A.Disk.size p.front in
    let place = c.args.place in
    let n = c.blocks-front.result - place in
    let run = c.write_run-2.ensures in
    steps-front g.A.Disk g.B.Disk g.met.A.Disk.only_now g.met.B.Disk.only_now p c.write_run-2.new.self c.note.new.self c.note.ensures run.kept
    (TornRun size n place c.split_at.result.0.now) (TornRun size c.args.blocks place c.args.bytes.now) honest
    (λ x x' y left torn.
    let end : place + n ≡ length x = omega (arith, (g.met.A.Disk.has_shape p.front x (run.kept.was_honest honest.first) left).blocks, c.blocks-front.ensures, c.if-front-place.false) in
    torn-both (parts g (goal.at.returns-in_err-write_run-clause-steps g c).After-split_at) place x x' y y end torn (torn_run-same _ _ 0 _ y))
    (torn_run-same size c.args.blocks place c.args.bytes.now) (run.steps honest.first)

pub returns-clause-written : goal.returns-clause-written
returns-clause-written g c honest =
    let at = goal.at.returns-clause-written g c in
    let p = c.args.self.now in
    let begun = c.write_run-2.ensures in
    let ended = c.write_run-3.ensures in
    on_ok_weaker c.write_run-3.result
    (wrote-both (parts g at.After-split_at) c.args.place (g.A.Disk.newest p.front) (g.A.Disk.newest c.write_run-2.new.self) (g.B.Disk.newest p.back) (g.B.Disk.newest c.write_run-3.new.self)
    (omega (arith, c.if-front-place.false, front-long g at.After-blocks-front (begun.kept.was_honest honest.first))) (c.in_ok-write_run.ensures.written honest.first))
    (rw (sym ended.kept.same_size ∙ sym honest.same_size ∙ begun.kept.same_size) at (ended.written honest.second))

pub returns-clause-torn : goal.returns-clause-torn
returns-clause-torn g c honest =
    let at = goal.at.returns-clause-torn g c in
    let p = c.args.self.now in
    let begun = c.write_run-2.ensures in
    let ended = c.write_run-3.ensures in
    torn-both (parts g at.After-split_at) c.args.place (g.A.Disk.newest p.front) (g.A.Disk.newest c.write_run-2.new.self) (g.B.Disk.newest p.back) (g.B.Disk.newest c.write_run-3.new.self)
    (omega (arith, c.if-front-place.false, front-long g at.After-blocks-front (begun.kept.was_honest honest.first))) (begun.torn honest.first)
    (rw (sym ended.kept.same_size ∙ sym honest.same_size ∙ begun.kept.same_size) at (ended.torn honest.second))

pub returns-clause-steps : goal.returns-clause-steps
returns-clause-steps g c honest =
    let begun = c.write_run-2.ensures in
    let ended = c.write_run-3.ensures in
    steps-both g.A.Disk g.B.Disk g.met.A.Disk.only_now g.met.B.Disk.only_now g.met.A.Disk.has_shape g.met.B.Disk.has_shape c.args.self.now c.write_run-2.new.self c.write_run-3.new.self
    c.note.new.self c.note-2.new.self c.note.ensures c.note-2.ensures begun.kept ended.kept honest (parts g (goal.at.returns-clause-steps g c).After-split_at) c.args.place
    (omega (arith, c.blocks-front.ensures, c.if-front-place.false)) (begun.steps honest.first)
    (rw (sym ended.kept.same_size ∙ sym honest.same_size ∙ begun.kept.same_size) at (ended.steps honest.second))

pub write_run-requires : goal.write_run-requires
write_run-requires g c = record { run = run-front (g.A.Disk.count c.args.self.now.front) _ c.blocks-front.ensures c.requires.run c.if-place-blocks.true }

pub write_run-requires-then-front-place : goal.write_run-requires-then-front-place
write_run-requires-then-front-place g c =
    let p = c.args.self.now in
    record { run = run-back (g.A.Disk.size p.front) (g.A.Disk.count p.front) (g.B.Disk.size p.back) (g.B.Disk.count p.back) c.blocks-front.ensures c.requires.run c.if-front-place.true }

pub returns-then-place-blocks-clause-kept : goal.returns-then-place-blocks-clause-kept
returns-then-place-blocks-clause-kept g c = keeps-front g.A.Disk g.B.Disk c.write_run.result c.args.self.now c.write_run.new.self c.note.new.self c.write_run.ensures.kept

pub returns-then-front-place-clause-kept : goal.returns-then-front-place-clause-kept
returns-then-front-place-clause-kept g c =
    let run = c.write_run-then-front-place in
    keeps-back g.A.Disk g.B.Disk run.result c.args.self.now run.new.self c.note.new.self run.ensures.kept

pub returns-in_err-write_run-clause-kept : goal.returns-in_err-write_run-clause-kept
returns-in_err-write_run-clause-kept g c =
    fails-front g.A.Disk g.B.Disk c.from_residual.result c.args.self.now c.write_run-2.new.self c.note.new.self c.from_residual.ensures.0 c.in_err-write_run.ensures.kept

pub returns-clause-kept : goal.returns-clause-kept
returns-clause-kept g c =
    keeps-then g.A.Disk g.B.Disk c.args.self.now c.write_run-2.new.self c.write_run-3.new.self c.note-2.new.self c.write_run-3.result c.in_ok-write_run.ensures.kept c.write_run-3.ensures.kept

pub returns-then-place-blocks-clause-spent : goal.returns-then-place-blocks-clause-spent
returns-then-place-blocks-clause-spent g c = never

pub returns-then-place-blocks-clause-own : goal.returns-then-place-blocks-clause-own
returns-then-place-blocks-clause-own g c = never

pub returns-then-front-place-clause-spent : goal.returns-then-front-place-clause-spent
returns-then-front-place-clause-spent g c = never

pub returns-then-front-place-clause-own : goal.returns-then-front-place-clause-own
returns-then-front-place-clause-own g c = never

pub returns-in_err-write_run-clause-spent : goal.returns-in_err-write_run-clause-spent
returns-in_err-write_run-clause-spent g c = never

pub returns-in_err-write_run-clause-own : goal.returns-in_err-write_run-clause-own
returns-in_err-write_run-clause-own g c = never

pub returns-clause-spent : goal.returns-clause-spent
returns-clause-spent g c = never

pub returns-clause-own : goal.returns-clause-own
returns-clause-own g c = never

pub write_run-requires-2 : goal.write_run-requires-2
write_run-requires-2 g c =
    record { run = run-begun c.blocks-front.ensures c.blocks-front.type_inv c.if-front-place.false (parts g (goal.at.write_run-requires-2 g c).After-split_at).long }

pub returns-then-place-blocks-clause-torn : goal.returns-then-place-blocks-clause-torn
returns-then-place-blocks-clause-torn g c honest =
    let p = c.args.self.now in
    let run = c.write_run.ensures in
    in-front c.args.blocks (torn_blocks (g.A.Disk.size p.front) c.args.blocks c.args.bytes.now) c.args.place
    (g.A.Disk.newest p.front) (g.A.Disk.newest c.write_run.new.self) (g.B.Disk.newest p.back)
    (omega (arith, c.if-place-blocks.true, front-long g (goal.at.returns-then-place-blocks-clause-torn g c).After-blocks-front (run.kept.was_honest honest.first)))
    (run.torn honest.first)
