use Rattle.std.proofs.Common.{◌≡◌, ℕ, ◌*◌, ◌+◌, ◌≤◌, List, [], ◌∷◌, drop, length, Ok, IsOk, sym, ap, ◌∙◌, arith}
use Rattle.jb_block.specs.Size.{bytes_of}
use Rattle.jb_handle.specs.Size.{weight}
use Rattle.jb_text.specs.Parts.{lines}
use Rattle.jb_queue.specs.Queue.{after_lines, format_of, handles_or_none, handles_of_text, limit_in_line}
use Rattle.jb_queue.specs.QueueLines.{handles_of}
use Rattle.jb_queue.proofs.QueueHandles.{counted-is}
use Rattle.jb_queue.proofs.Weights.{two-parts, number-weight, queue-weight}
use Rattle.jb_queue.proofs.queue_text.read_lines.Goals as goal

-- the two lines before those that are left
parts : (c : goal.In_ok-count) → (line next : List ℕ) × (lines c.args.text.items ≡ line ∷ next ∷ lines c.in-Some-first_limit.rest.now)
parts c = two-parts format_of limit_in_line _ _ _ (c.in-Some.bs, c.in-Some.width) c.in-Some-first_limit.limit (rw c.as_slice.ensures.value at c.in-Some.ensures) c.in-Some-first_limit.ensures

counted : (c : goal.In_ok-count) → let read = after_lines (bytes_of c.in-Some.bs) [] (drop 2 (lines c.args.text.items)) in
    IsOk read × (read ≡ Ok (handles_or_none read)) × (c.in_ok-count.count ≡ length (handles_or_none read))
counted c = counted-is _ _ (rw (parts c).2 c.in_ok-count.ensures.ok)

light : (c : goal.In_ok-count) → 2 * weight (handles_of_text (bytes_of c.in-Some.bs) c.args.text.items) ≤ length c.args.text.items + 1
light c =
    let size = bytes_of c.in-Some.bs in
    let two = parts c in
    queue-weight size (handles_of_text size c.args.text.items) c.args.text.items two.0 two.1 _ two.2 (ap (λ ls. after_lines size [] (drop 2 ls)) (sym two.2) ∙ (counted c).1)

pub invariant_of-result-clause-reads : goal.invariant_of-result-clause-reads
invariant_of-result-clause-reads c = (counted c).0

pub invariant_of-result-clause-counted : goal.invariant_of-result-clause-counted
invariant_of-result-clause-counted c = (counted c).2

pub invariant_of-result-clause-few : goal.invariant_of-result-clause-few
invariant_of-result-clause-few c = omega (arith, (counted c).2, number-weight (handles_of_text (bytes_of c.in-Some.bs) c.args.text.items), light c)

pub returns-clause-within : goal.returns-clause-within
unfolding handles_of
returns-clause-within c = light c.before
