use Rattle.std.proofs.Common.{refl}
use Rattle.jb_tool.proofs.completing.run_completions.Goals as goal

pub returns : goal.returns
returns g c = record {
  runs = (
    c.complete.result,
    record { out = g.O.Write.contents c.complete.new.out; err = g.E.Write.contents c.args.err.now },
    c.complete.ensures,
    refl,
    c.close.ensures (g.O.Write.contents c.complete.new.out),
  );
}
