use Rattle.std.proofs.Common.{◌+◌, ◌≤◌, ℕ, List, Option, arith, replicate, subst, take}
use Rattle.std.proofs.KnownBytes.{Appends-nil, Appends-trans}
use Rattle.std.proofs.lemmas.List.{replicate-append-replicate, take-replicate}
use Rattle.std.specs.Io.KnownBytes.{Appends}
use Rattle.jb_image.proofs.allocation.write_zeros.Goals as goal

-- the first of some zeros after others
more : (a b c : Option (List ℕ)) (done part all : ℕ) → part ≤ all → Appends a b (replicate done 0)
    → Appends b c (take part (replicate all 0)) → Appends a c (replicate (done + part) 0)
more a b c done part all within first next =
    subst (Appends a c) (replicate-append-replicate done part 0)
    (Appends-trans a b c (replicate done 0) (replicate part 0) first (rw (take-replicate {X = ℕ} part all 0 within) at next))

pub loop-done-init : goal.loop-done-init
loop-done-init g c = (Appends-nil (g.W.Write.contents c.args.writer.now), omega arith)

pub loop-done-preserved : goal.loop-done-preserved
loop-done-preserved g c = (
  more (g.W.Write.contents c.args.writer.now) (g.W.Write.contents c.loop-done.writer) (g.W.Write.contents c.write_all.new.self)
      c.loop-done.done c.min-part.result 65536 (omega (arith, c.min-part.ensures)) c.loop-done.invariant.0 c.in_ok-write_all.ensures.bytes,
  omega (arith, c.min-part.ensures, c.loop-done-test.true),
)
