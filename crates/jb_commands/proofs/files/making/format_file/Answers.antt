use Rattle.std.proofs.Common.{refl, inr}
use Rattle.jb_commands.proofs.files.making.format_file.Goals as goal

pub returns : goal.returns
returns g c = record {
  ends = inr (
    c.in-Ok.ensures.good,
    rw c.in-Ok.ensures.asked.journal at c.in-Some.ensures.good.0 refl,
    (c.in-Ok.new, c.in-Ok.ensures.asked, c.make_file.ensures.ends),
  );
}
