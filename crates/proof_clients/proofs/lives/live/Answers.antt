use Rattle.std.proofs.Common.{◌≡◌, ◌⊎◌, length, ap, ◌∙◌, inl, inr, ⊎_elim}
use Rattle.jb_block.specs.Size.{bytes_of}
use Rattle.jb_disk.specs.History.{DiskHistory, newest_of, replay}
use Rattle.jb_disk.specs.Lives.{left_since_now}
use Rattle.jb_format.proofs.CallEntry.{entry-as}
use Rattle.jb_recover.specs.Outcomes.{RecoversAs, recovered}
use Rattle.proof_clients.proofs.OneLife.{life-more, rested}
use Rattle.proof_clients.proofs.lives.live.Goals as goal

pub returns-clause-rest : goal.returns-clause-rest
returns-clause-rest c = λ rest.
    let crashed = c.in_ok-disk.disk in
    let kept = c.recover.ensures.kept in
    let held = c.in_ok-recover.ensures in
    let sound = c.always_sound-3.ensures.sound in
    rested (bytes_of crashed.size) crashed.count (newest_of crashed) c.recover.new.disk sound (held.durable sound) kept.same_size kept.same_count
    (held.recovers sound).3 (c.recovered.ensures.once (bytes_of crashed.size) crashed.count (newest_of crashed))

pub returns-clause-lives : goal.returns-clause-lives
returns-clause-lives c = λ rest own last_number before done entry.
    let is = c.of.ensures.disk in
    let first = c.of.result.disk in
    let last = c.run-last.result.0.disk in
    let committed = c.run-last.result.1 in
    let crashed = c.in_ok-crashed.crashed in
    let again = c.in_ok-disk.disk in
    let new = newest_of c.recover.new.disk in
    let handles = c.args.life.handles.items in
    let size = bytes_of first.size in
    let count = first.count in
    let base = newest_of first in
    let kept = c.run-last.ensures.kept in
    let at_rest = rw (← is) at rest in
    let holds = rw (← is) at entry in
    let sound_last = rw c.into_inner-last.ensures at c.always_sound.ensures.sound in
    let leaves = c.run-last.ensures.leaves sound_last in
    let allowed = rw c.into_inner-last.ensures at c.in_ok-crashed.ensures.allowed in
    let same_size : bytes_of crashed.size ≡ size = ap bytes_of (c.in_ok-crashed.ensures.size ∙ ap (λ (h : DiskHistory). h.size) c.into_inner-last.ensures) ∙ kept.same_size in
    let same_count : crashed.count ≡ count = c.in_ok-crashed.ensures.count ∙ ap (λ (h : DiskHistory). h.count) c.into_inner-last.ensures ∙ kept.same_count in
    let image : newest_of crashed ≡ crashed.first = ap (replay crashed.first) c.in_ok-crashed.ensures.fresh.0 in
    let is_cut = c.of-2.ensures.disk in
    let cut = c.of-2.result.disk in
    let part = c.recover_in_part.result.disk in
    let kept_cut = c.recover_in_part.ensures.kept in
    let sound_part = rw c.into_inner-cut.ensures at c.always_sound-2.ensures.sound in
    let leaves_cut = c.recover_in_part.ensures.leaves sound_part (rw (is_cut, c.in_ok-crashed.ensures.fresh.0) (λ image still. still)) in
    let allowed_cut = rw c.into_inner-cut.ensures at c.in_ok-disk.ensures.allowed in
    let recovers = leaves_cut.each again.first (left_since_now part.first part.steps (length cut.steps) again.first leaves_cut.later allowed_cut) in
    let cut_size : bytes_of cut.size ≡ size = ap (λ (h : DiskHistory). bytes_of h.size) is_cut ∙ same_size in
    let cut_count : cut.count ≡ count = ap (λ (h : DiskHistory). h.count) is_cut ∙ same_count in
    let cut_image : newest_of cut ≡ crashed.first = ap newest_of is_cut ∙ image in
    let as_before : RecoversAs size count crashed.first again.first = entry-as (λ s n b. RecoversAs s n b again.first) size count (bytes_of cut.size) cut.count crashed.first (newest_of cut) cut_size cut_count cut_image recovers in
    let again_size : bytes_of again.size ≡ size = ap bytes_of (c.in_ok-disk.ensures.size ∙ ap (λ (h : DiskHistory). h.size) c.into_inner-cut.ensures) ∙ kept_cut.same_size ∙ cut_size in
    let again_count : again.count ≡ count = c.in_ok-disk.ensures.count ∙ ap (λ (h : DiskHistory). h.count) c.into_inner-cut.ensures ∙ kept_cut.same_count ∙ cut_count in
    let again_image : newest_of again ≡ again.first = ap (replay again.first) c.in_ok-disk.ensures.fresh.0 in
    let ended : new ≡ recovered size count crashed.first = entry-as (λ s n b. new ≡ recovered s n b) size count (bytes_of again.size) again.count again.first (newest_of again) again_size again_count again_image ((c.in_ok-recover.ensures.recovers c.always_sound-3.ensures.sound).3) ∙ as_before.image in
    let more =
    life-more c.holds_on.ensures size count own last_number before done base holds at_rest.still handles committed crashed.first new
    (⊎_elim (λ stays. inl (at_rest.only crashed.first stays)) inr (leaves.each crashed.first (left_since_now last.first last.steps (length first.steps) crashed.first leaves.later allowed)))
    (λ yes. (c.run-last.ensures.ends sound_last yes).each crashed.first allowed) ended in
    rw is at more
