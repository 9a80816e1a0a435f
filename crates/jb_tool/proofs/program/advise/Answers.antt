use Rattle.std.proofs.Common.{refl}
use Rattle.jb_args.specs.Advice.{hint_line, reason_line}
use Rattle.jb_text.proofs.PartByPart.{partly}
use Rattle.jb_tool.proofs.program.advise.Goals as goal

pub returns-in-Whole-Some : goal.returns-in-Whole-Some
returns-in-Whole-Some g c =
    let old = g.E.Write.contents c.args.err.now in
    let new = g.E.Write.contents c.put_hint-ignored.new.writer in
    let told = c.put_hint-ignored.ensures in
    record {
      advises = rw (c.in-Whole-Some.is-0, c.in-Whole-Some.is-1)
          (told.0, partly old new (hint_line told.0 c.in-Whole-Some.hint) c.put_hint-ignored.result told.1);
    }

pub returns-in-Reason-Some : goal.returns-in-Reason-Some
returns-in-Reason-Some g c =
    let old = g.E.Write.contents c.args.err.now in
    let new = g.E.Write.contents c.put_reason-ignored.new.writer in
    let told = c.put_reason-ignored.ensures in
    record {
      advises = rw (c.in-Reason-Some.is-0, c.in-Reason-Some.is-1)
          (told.0, partly old new (reason_line told.0 c.in-Reason-Some.hint) c.put_reason-ignored.result told.1);
    }
