use Rattle.std.proofs.Common.{◌+◌, ◌∙◌, ℕ, List, Bor, map, drop, Ok, Err, arith, refl, subst}
use Rattle.std.specs.Io.KnownBytes.{Appends}
use Rattle.std.proofs.KnownBytes.{Appends-nil}
use Rattle.jb_text.specs.TextParts.{spelled}
use Rattle.jb_text.specs.Puts.{Puts, PutsPart}
use Rattle.jb_text.proofs.PartByPart.{none_after, none_first, part_first, puts_after, spelled_next, spelled_none}
use Rattle.jb_text.proofs.parts.put_each.Goals as goal

pub returns-in-Err : goal.returns-in-Err
returns-in-Err g c =
    let parts = c.args.parts.now in
    let now = g.W.Write.contents c.loop-part.writer in
    let end = g.W.Write.contents c.put.new.writer in
    let rest = spelled (map (λ (part : Bor (List ℕ)). part.now) (drop (c.loop-part.part-index + 1) parts)) in
    let next = spelled_next (λ (part : Bor (List ℕ)). part.now) parts c.loop-part.part-index _ c.as_bytes.result.now c.loop-part-test.true c.as_bytes.ensures.value in
    record {
      puts = c.loop-part.invariant.0 end (Err c.in-Err.fault) (subst (PutsPart now end) next (part_first now end c.as_bytes.result.now rest c.in-Err.ensures.puts));
      empty = λ none. c.in-Err.ensures.empty (none_first c.as_bytes.result.now rest (next ∙ c.loop-part.invariant.1 none));
    }

pub loop-part-preserved : goal.loop-part-preserved
loop-part-preserved g c =
    let parts = c.args.parts.now in
    let now = g.W.Write.contents c.loop-part.writer in
    let rest = spelled (map (λ (part : Bor (List ℕ)). part.now) (drop (c.loop-part.part-index + 1) parts)) in
    let next = spelled_next (λ (part : Bor (List ℕ)). part.now) parts c.loop-part.part-index _ c.as_bytes.result.now c.loop-part-test.true c.as_bytes.ensures.value in (
      (λ end r more. c.loop-part.invariant.0 end r (subst (λ text. Puts now end text r) next
          (puts_after now (g.W.Write.contents c.put.new.writer) end c.as_bytes.result.now rest r c.in-Ok.ensures.puts more))),
      (λ none. none_after c.as_bytes.result.now rest (next ∙ c.loop-part.invariant.1 none)),
    )

pub returns : goal.returns
returns g c =
    let now = g.W.Write.contents c.loop-part.writer in
    let none = spelled_none (λ (part : Bor (List ℕ)). part.now) c.args.parts.now c.loop-part.part-index (omega (arith, c.loop-part-test.false)) in
    record { puts = c.loop-part.invariant.0 now (Ok tt) (subst (Appends now now) none (Appends-nil now)); empty = λ _. refl }
