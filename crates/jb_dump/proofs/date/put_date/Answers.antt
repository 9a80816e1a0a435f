use Rattle.std.proofs.Common.{◌++◌, ap, ◌∙◌, arith, string_bytes}
use Rattle.jb_dump.proofs.Days.{date-written}
use Rattle.jb_dump.proofs.date.put_date.Goals as goal

pub returns : goal.returns
returns c =
    let at = ap (λ time. time.nanosecond) c.to_plain.ensures ∙ c.instant.ensures in
    let date = date-written c.new.result c.to_plain.result c.args.sec c.timestamp_text-date.result.bytes c.new.ensures at (omega (arith, c.if-sec-gt-LAST.false)) c.timestamp_text-date.ensures in
    c.in_ok-push_str.ensures.bytes ∙ ap (λ l. string_bytes c.args.text.now ++ l) (c.as_str.ensures.value ∙ date)
