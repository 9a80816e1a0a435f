use Rattle.std.proofs.Common.{◌+◌, ◌-◌, length}
use Rattle.jb_image.proofs.PartedLists.{AreAlike, Stands}
use Rattle.jb_image.proofs.parting.first_parting.Given as goal

abbrev pub invariant-places : goal.invariant-places
invariant-places l = record {
  one : Stands l.one l.at l.i l.a;
  other : Stands l.other l.at l.j l.b;
  alike : AreAlike l.one l.other l.at;
}

abbrev pub decreases-places : goal.decreases-places
decreases-places l = length l.one - l.i + (length l.other - l.j)
