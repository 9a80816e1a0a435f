use Rattle.std.proofs.Common.{◌≡◌, ◌+◌, ◌-◌, ◌*◌, ◌%◌, ◌^◌, ◌++◌, take, drop, ap, sym, ◌∙◌, arith}
use Rattle.jb_commands.specs.Cat.{row_text, rows_text}
use Rattle.jb_commands.proofs.CatBlocks.{upto-more}
use Rattle.jb_commands.proofs.streams.catting.rows_of.Goals as goal

pub loop-k-preserved : goal.loop-k-preserved
loop-k-preserved c =
    let at = c.args.at in
    let bytes = c.args.bytes.now in
    let k = c.loop-k.k in
    let len : 16 * k + 16 - 16 * k ≡ 16 = omega arith in
    c.in_ok-put_row.ensures
    ∙ ap (λ front. front ++ row_text ((at + 16 * k) % 2 ^ 32) (take (16 * k + 16 - 16 * k) (drop (16 * k) bytes))) c.loop-k.invariant
    ∙ ap (λ n. rows_text at bytes k ++ row_text ((at + 16 * k) % 2 ^ 32) (take n (drop (16 * k) bytes))) len
    ∙ sym (upto-more (λ j. row_text ((at + 16 * j) % 2 ^ 32) (take 16 (drop (16 * j) bytes))) k)
