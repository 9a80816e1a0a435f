use Rattle.std.proofs.Common.{◌≡◌, ◌<◌, ◌^◌, ◌∙◌, ap, arith, string_bytes}
use Rattle.jb_dump.specs.MostWritten.{written_rows}
use Rattle.jb_dump.specs.Summary.{sum_of}
use Rattle.jb_dump.proofs.PictureColumns.{six-parts}
use Rattle.jb_dump.proofs.Rows.{rows-written}
use Rattle.jb_dump.proofs.glance.put_contents.Goals as goal

pub returns : goal.returns
returns c sum t =
    let tally = c.args.tally in
    let kept : tally.contents.homes.entries ≡ written_rows sum.homes = t.homes ∙ rows-written sum.homes in
    let few : sum_of c.deref-2.result.now < 2 ^ 32 = omega (arith, ap sum_of (c.deref-2.ensures.value ∙ t.sizes), t.blocks) in
    let sizes = rw (c.from.ensures, t.least, t.most, t.blocks, t.count) at c.in_ok-put_sizes.ensures in
    let copies = rw (c.len.ensures.len, t.copies, kept) at c.in_ok-put_copies.ensures in
    let homes = rw (c.deref.ensures.value, c.in_ok-rows.ensures, kept) at c.in_ok-put_homes.ensures in
    let revokes = rw t.revokes at c.in_ok-put_revoked.ensures in
    let times = rw (t.first, t.last) at c.in_ok-put_times.ensures in
    let picture = rw (c.deref-2.ensures.value, c.deref-3.ensures.value, c.in_ok-rows.ensures, kept, t.sizes, t.blocks) at (c.in_ok-put_picture_where.ensures few) in
    six-parts (string_bytes c.args.text.now) _ _ _ _ _ _ sizes copies homes revokes times picture
