use Rattle.std.proofs.Common.{◌≡◌, sym, Err, rules}
use Rattle.jb_block.specs.Size.{bytes_of}
use Rattle.jb_text.specs.Parts.{lines}
use Rattle.jb_queue.specs.Queue.{format_of, limit_in_line}
use Rattle.jb_queue.proofs.Weights.{two-parts, queue-weight}
use Rattle.jb_queue.proofs.queue_text.read_queue.Goals as goal

pub returns-clause-within : goal.returns-clause-within
returns-clause-within c =
    let parts = two-parts format_of limit_in_line (lines c.args.text.now) _ _ (c.in-Some.bs, c.in-Some.width) c.in-Some-first_limit.limit c.in-Some.ensures c.in-Some-first_limit.ensures in
    queue-weight (bytes_of c.in-Some.bs) c.in_ok-handles.handles.items c.args.text.now parts.0 parts.1 _ parts.2 c.in_ok-handles.ensures.ok

pub returns-in_err-handles-clause-memory : goal.returns-in_err-handles-clause-memory
returns-in_err-handles-clause-memory c =
    let gave : c.from_residual.result ≡ Err c.in_err-handles.field-0.0 = search rules in
    rw gave (λ memory. record {
      format = (c.in-Some.bs, c.in-Some.width);
      limit = c.in-Some-first_limit.limit;
      second = lines c.in-Some.text.now;
      third = lines c.in-Some-first_limit.text.now;
      formatted = sym c.in-Some.ensures;
      limited = sym c.in-Some-first_limit.ensures;
      grows = c.in_err-handles.ensures.memory memory;
    })
