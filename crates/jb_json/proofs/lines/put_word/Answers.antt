use Rattle.std.proofs.Common.{◌++◌, [], map, append-nil}
use Rattle.jb_text.specs.TextParts.{spelled}
use Rattle.jb_text.proofs.PartByPart.{part_first, puts_after}
use Rattle.jb_json.proofs.lines.put_word.Goals as goal

pub returns-in-Ok : goal.returns-in-Ok
returns-in-Ok g c =
    rw (append-nil (spelled (map (λ part. part.now) c.args.parts.now)))
    (puts_after _ _ _ c.args.before.now (spelled (map (λ part. part.now) c.args.parts.now)) c.put_parts.result (rw c.as_bytes.ensures.value at c.in-Ok.ensures.puts) c.put_parts.ensures.puts)

pub returns-in-Err : goal.returns-in-Err
returns-in-Err g c =
    part_first _ _ c.args.before.now (spelled (map (λ part. part.now) c.args.parts.now) ++ []) (rw c.as_bytes.ensures.value at c.in-Err.ensures.puts)
