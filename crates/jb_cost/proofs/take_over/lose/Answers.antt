use Rattle.std.proofs.Common.{◌≡◌, ℕ, ◌+◌, Bool, not, cond, set, ap, ◌∙◌, arith}
use Rattle.std.proofs.lemmas.List.{get_or_read}
use Rattle.jb_cost.specs.declared.owned.Owned.{Owned}
use Rattle.jb_cost.specs.LastTouch.{copies_of, frees_of, left_copy, Lose}
use Rattle.jb_cost.proofs.MeetHomes.{turned}
use Rattle.jb_cost.proofs.SpanChanges.{not-idle, lost, keeps-lost}
use Rattle.jb_cost.proofs.take_over.lose.Goals as goal
use Rattle.jb_cost.proofs.take_over.lose.Goals.{After-without}

-- the handle of the touch before loses the home
loses : (c : After-without) → (count : Owned → ℕ) → (kind : Bool → Bool) → count c.without.result + cond (kind c.in-Some.touch.copy) 1 0 ≡ count c.index.result.now
    → Lose count kind c.args.before c.args.owned.now.items (set c.args.owned.now.items c.in-Some.touch.handle c.without.result)
loses c count kind less i =
    let os = c.args.owned.now.items in
    let t = c.in-Some.touch in
    let inside = (c.requires.owner t c.in-Some.is).inside in
    rw c.in-Some.is (lost count kind os t _ inside (less ∙ ap count (get_or_read os t.handle c.index.result.now inside c.index.ensures _)) i)

pub index-requires : goal.index-requires
index-requires c = omega (arith, (c.requires.owner c.in-Some.touch c.in-Some.is).inside)

pub returns-clause-copies : goal.returns-clause-copies
returns-clause-copies c = loses (goal.at.returns-clause-copies c).After-without copies_of left_copy c.without.ensures.copies

pub returns-clause-frees : goal.returns-clause-frees
returns-clause-frees c = loses (goal.at.returns-clause-frees c).After-without frees_of not (ap (λ n. c.without.result.frees + n) (turned c.in-Some.touch.copy) ∙ c.without.ensures.frees)

pub returns-clause-spans : goal.returns-clause-spans
returns-clause-spans c =
    let os = c.args.owned.now.items in
    let t = c.in-Some.touch in
    keeps-lost os c.args.spans.now.items c.requires.spans _ t.handle _ (not-idle os t (c.requires.owner t c.in-Some.is)) c.forget.ensures.places c.forget.ensures.others
