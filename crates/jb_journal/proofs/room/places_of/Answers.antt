use Rattle.std.proofs.Common.{All, arith, sym, subst}
use Rattle.std.proofs.lemmas.List.Elements.{All-nil, All-push}
use Rattle.jb_journal.specs.Run.{HasNotWorked}
use Rattle.jb_journal.proofs.room.places_of.Goals as goal

pub loop-init : goal.loop-init
loop-init g c = record { number = c.requires.empty; room = c.requires.room; none = subst (All HasNotWorked) (sym c.requires.none) (All-nil HasNotWorked) }

pub loop-preserved : goal.loop-preserved
loop-preserved g c = record {
  number = omega (arith, c.push_reserved.ensures.len, c.loop.invariant.number);
  room = omega (arith, c.push_reserved.ensures.capacity, c.loop.invariant.room);
  none = subst (All HasNotWorked) (sym c.push_reserved.ensures.items) (All-push HasNotWorked c.loop.places.items c.none.result c.loop.invariant.none c.none.ensures);
}
