use Rattle.std.proofs.Common.{◌≡◌, ◌∙◌, length, take, drop, arith}
use Rattle.jb_text.specs.Parts.{before, onward}
use Rattle.jb_text.proofs.Splits.{parts-at}
use Rattle.jb_text.proofs.text.part.Goals as goal
use Rattle.jb_text.proofs.text.part.Goals.{After-split_at, After-split_at-in-None}

-- the parts where the delimiter was found, and where it was not
found : (c : After-split_at) → (take c.in-Some.at c.args.bytes.now ≡ before c.args.delimiter c.args.bytes.now) × (drop c.in-Some.at c.args.bytes.now ≡ onward c.args.delimiter c.args.bytes.now)
found c =
    let here = c.in-Some.ensures in
    parts-at c.args.delimiter c.args.bytes.now c.in-Some.at (omega (arith, here.0.high)) (λ k below. here.0.before k (omega arith) below) (λ _. here.1)

none : (c : After-split_at-in-None)
    → (take (length c.args.bytes.now) c.args.bytes.now ≡ before c.args.delimiter c.args.bytes.now) × (drop (length c.args.bytes.now) c.args.bytes.now ≡ onward c.args.delimiter c.args.bytes.now)
none c =
    let none = c.in-None.ensures in
    parts-at c.args.delimiter c.args.bytes.now (length c.args.bytes.now) (omega arith) (λ k below. none k (omega arith) below) (λ more. absurd (omega (arith, more)))

pub returns-in-Some-clause-front : goal.returns-in-Some-clause-front
returns-in-Some-clause-front c = c.split_at.ensures.front ∙ (found c).0

pub returns-in-Some-clause-back : goal.returns-in-Some-clause-back
returns-in-Some-clause-back c = c.split_at.ensures.back ∙ (found c).1

pub returns-in-None-clause-front : goal.returns-in-None-clause-front
returns-in-None-clause-front c = c.split_at-in-None.ensures.front ∙ (none c).0

pub returns-in-None-clause-back : goal.returns-in-None-clause-back
returns-in-None-clause-back c = c.split_at-in-None.ensures.back ∙ (none c).1
