use Rattle.std.proofs.Common.{◌≡◌, refl, ◌++◌, length, sym, ◌∙◌, ap, subst}
use Rattle.jb_block.specs.Size.{bytes_of}
use Rattle.jb_disk.specs.File.{size_of_blocks}
use Rattle.jb_disk.specs.Image.{Only}
use Rattle.jb_format.proofs.CallEntry.{entry-as}
use Rattle.jb_image.specs.Pair.{front_disk, past_states}
use Rattle.proof_clients.specs.Files.{FilesLeave, FilesLeft, files_content}
use Rattle.jb_image.proofs.OpenedFile.{opened-holds, opened-leaves}
use Rattle.jb_recover.specs.Outcomes.{RecoversAs}
use Rattle.proof_clients.proofs.two_files.recover_files.Goals as goal

pub returns-clause-crash : goal.returns-clause-crash
returns-clause-crash g c honest d left =
    let front = c.in_ok-front.front in
    let back = c.in_ok-back.back in
    let old = c.of-disk.result in
    let done = c.recover-answer.ensures in
    let is_front = c.of-disk.ensures.front in
    let is_back = c.of-disk.ensures.back in
    let was = done.kept.was_honest honest in
    let size : bytes_of (size_of_blocks (front_disk old)) ≡ bytes_of c.args.size = ap bytes_of (ap size_of_blocks is_front ∙ c.in_ok-front.ensures.size) in
    let asked_front = c.in_ok-front.ensures.opened in
    let asked_back = c.in_ok-back.ensures.opened in
    let held : files_content old ≡ g.S.Start.content 0 ++ g.T.Start.content 0 =
    rw (is_front, is_back, opened-holds front asked_front.0 asked_front.1 (rw is_front at was.first), opened-holds back asked_back.0 asked_back.1 (rw is_back at was.second)) refl in
    let since : FilesLeft c.recover-answer.new.disk (length (past_states old)) d = subst (λ past. FilesLeft c.recover-answer.new.disk (length past) d) (sym c.of-disk.ensures.fresh) left in
    let only : Only (files_content old) (FilesLeave old) = λ e still.
    rw (still.joined, opened-leaves front asked_front.0 asked_front.1 still.front (rw is_front at still.first), opened-leaves back asked_back.0 asked_back.1 still.back (rw is_back at still.second))
    (sym held) in
    entry-as (λ s n image. RecoversAs s n image d) _ _ _ _ _ _ size (sym done.kept.same_count) held ((done.settled honest only).each d since)
