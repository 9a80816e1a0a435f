use Rattle.std.proofs.Common.{◌<◌, ◌-◌, ◌++◌, ◌∙◌, sym, ap, length, arith}
use Rattle.std.proofs.lemmas.List.{set-append_left, set-append_right}
use Rattle.std.proofs.lemmas.Result.{on_ok_weaker}
use Rattle.jb_disk.specs.Image.{Torn}
use Rattle.jb_image.proofs.JoinedImages.{in-front, in-back, torn_block}
use Rattle.jb_image.proofs.PairCalls.{goes-front, goes-back}
use Rattle.jb_image.proofs.PairKept.{keeps-front, keeps-back}
use Rattle.jb_image.proofs.pair.PairDiskDisk.write.Goals as goal

pub returns-then-place-front-clause-written : goal.returns-then-place-front-clause-written
returns-then-place-front-clause-written g c honest =
    let p = c.args.self.now in
    let was = c.write.ensures.kept.was_honest honest.first in
    let shape = g.met.A.Disk.has_shape p.front (g.A.Disk.newest p.front) was (g.met.A.Disk.newest_may_stay p.front was) in
    let within : c.args.place < length (g.A.Disk.newest p.front) = omega (arith, c.if-place-front.true, c.blocks-front.ensures, shape.blocks) in
    let y = g.B.Disk.newest p.back in
    on_ok_weaker c.write.result (λ is. ap (λ z. z ++ y) is ∙ sym (set-append_left (g.A.Disk.newest p.front) y c.args.place c.args.bytes.now within)) (c.write.ensures.written honest.first)

pub returns-then-place-front-clause-torn : goal.returns-then-place-front-clause-torn
returns-then-place-front-clause-torn g c honest =
    let p = c.args.self.now in
    let was = c.write.ensures.kept.was_honest honest.first in
    let shape = g.met.A.Disk.has_shape p.front (g.A.Disk.newest p.front) was (g.met.A.Disk.newest_may_stay p.front was) in
    in-front 1 (torn_block c.args.bytes.now) c.args.place (g.A.Disk.newest p.front) (g.A.Disk.newest c.write.new.self) (g.B.Disk.newest p.back)
    (omega (arith, c.if-place-front.true, c.blocks-front.ensures, shape.blocks)) (c.write.ensures.torn honest.first)

pub returns-then-place-front-clause-goes : goal.returns-then-place-front-clause-goes
returns-then-place-front-clause-goes g c honest =
    let p = c.args.self.now in
    let bytes = c.args.bytes.now in
    goes-front g.A.Disk g.B.Disk g.met.A.Disk.only_now g.met.B.Disk.only_now p c.write.new.self c.note.new.self c.note.ensures c.write.ensures.kept
    (Torn c.args.place bytes) (Torn c.args.place bytes) honest
    (λ x x' y left torn. in-front 1 (torn_block bytes) c.args.place x x' y
    (omega (arith, c.if-place-front.true, c.blocks-front.ensures, (g.met.A.Disk.has_shape p.front x (c.write.ensures.kept.was_honest honest.first) left).blocks)) torn)
    (c.write.ensures.goes honest.first)

pub returns-clause-written : goal.returns-clause-written
returns-clause-written g c honest =
    let p = c.args.self.now in
    let shape = g.met.A.Disk.has_shape p.front (g.A.Disk.newest p.front) honest.first (g.met.A.Disk.newest_may_stay p.front honest.first) in
    let x = g.A.Disk.newest p.front in
    on_ok_weaker c.write-2.result (λ is. ap (λ z. x ++ z) is ∙ sym (set-append_right x (g.B.Disk.newest p.back) c.blocks-front.result c.args.place c.args.bytes.now (shape.blocks ∙ sym c.blocks-front.ensures) c.if-place-front.false))
    (c.write-2.ensures.written honest.second)

pub returns-clause-torn : goal.returns-clause-torn
returns-clause-torn g c honest =
    let p = c.args.self.now in
    let shape = g.met.A.Disk.has_shape p.front (g.A.Disk.newest p.front) honest.first (g.met.A.Disk.newest_may_stay p.front honest.first) in
    in-back 1 (torn_block c.args.bytes.now) (c.args.place - c.blocks-front.result) c.args.place (g.A.Disk.newest p.front) (g.B.Disk.newest p.back) (g.B.Disk.newest c.write-2.new.self)
    (omega (arith, c.if-place-front.false, c.blocks-front.ensures, shape.blocks)) (c.write-2.ensures.torn honest.second)

pub returns-clause-goes : goal.returns-clause-goes
returns-clause-goes g c honest =
    let p = c.args.self.now in
    let bytes = c.args.bytes.now in
    let place = c.args.place - c.blocks-front.result in
    goes-back g.A.Disk g.B.Disk g.met.A.Disk.only_now g.met.B.Disk.only_now p c.write-2.new.self c.note.new.self c.note.ensures c.write-2.ensures.kept
    (Torn place bytes) (Torn c.args.place bytes) honest
    (λ x y y' left torn. in-back 1 (torn_block bytes) place c.args.place x y y'
    (omega (arith, c.if-place-front.false, c.blocks-front.ensures, (g.met.A.Disk.has_shape p.front x honest.first left).blocks)) torn)
    (c.write-2.ensures.goes honest.second)

pub returns-then-place-front-clause-kept : goal.returns-then-place-front-clause-kept
returns-then-place-front-clause-kept g c = keeps-front g.A.Disk g.B.Disk c.write.result c.args.self.now c.write.new.self c.note.new.self c.write.ensures.kept

pub returns-clause-kept : goal.returns-clause-kept
returns-clause-kept g c = keeps-back g.A.Disk g.B.Disk c.write-2.result c.args.self.now c.write-2.new.self c.note.new.self c.write-2.ensures.kept
