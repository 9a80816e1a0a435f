use Rattle.std.proofs.Common.{◌≡◌, length, refl, arith, append-nil, string_bytes}
use Rattle.jb_dump.specs.Summary.{contents_drawn, contents_said}
use Rattle.jb_dump.proofs.SumByBlock.{some-said, three-parts}
use Rattle.jb_dump.proofs.glance.put_summary.Goals as goal

pub returns-then-tally-eq0 : goal.returns-then-tally-eq0
returns-then-tally-eq0 c sum t =
    let room = rw (c.from.ensures, t.count, t.blocks) at c.in_ok-put_room.ensures in
    let ends = rw t.blocks at c.in_ok-put_ends.ensures in
    let none : length sum.sizes ≡ 0 = omega (arith, t.count, c.if-tally-eq0.true) in
    three-parts (string_bytes c.args.text.now) _ _ (contents_said (length sum.sizes) (contents_drawn c.args.drawn c.args.sb.now sum)) room ends (rw (none, append-nil) refl)

pub returns : goal.returns
returns c sum t =
    let room = rw (c.from.ensures, t.count, t.blocks) at c.in_ok-put_room.ensures in
    let ends = rw t.blocks at c.in_ok-put_ends.ensures in
    three-parts (string_bytes c.args.text.now) _ _ (contents_said (length sum.sizes) (contents_drawn c.args.drawn c.args.sb.now sum)) room ends
    (rw (some-said (length sum.sizes) (contents_drawn c.args.drawn c.args.sb.now sum) (omega (arith, t.count, c.if-tally-eq0.false))) (c.in_ok-put_contents.ensures sum t))
