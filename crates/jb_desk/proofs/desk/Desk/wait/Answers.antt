use Rattle.std.proofs.Common.{◌≡◌, ℕ, ◌+◌, ◌≤◌, List, Option, Some, None, ok_or, Result, Ok, Err, OnOk, IfOk, IfErr, refl, ap, sym, subst, ◌∙◌, arith}
use Rattle.jb_board.specs.Seats.{seat_view}
use Rattle.jb_board.specs.Steps.{raised_settled, raised_taken}
use Rattle.jb_board.specs.declared.front.Front.{Front}
use Rattle.jb_board.specs.declared.place.Place.{Ghosts as Places}
use Rattle.jb_deck.specs.Deck.{OpenDeck}
use Rattle.jb_book.specs.Account.{Account}
use Rattle.jb_book.specs.Marks.{AreShown, Shows}
use Rattle.jb_book.specs.declared.origin.Origin.{Ghosts}
use Rattle.jb_desk.specs.Marks.{ShowsTaken}
use Rattle.jb_desk.specs.Seats.{view_of}
use Rattle.jb_desk.specs.Views.{RefusesWait, with_settled}
use Rattle.jb_desk.specs.declared.fault.WaitFault.{WaitFault}
use Rattle.jb_desk.specs.declared.fault.WaitFault.TheVariants.{Taken}
use Rattle.jb_desk.specs.declared.seat.Seat.{Seat}
use Rattle.jb_desk.proofs.RoundCounts.{keeps-same, reached, settled-by}
use Rattle.jb_desk.proofs.desk.Desk.wait.Given.{Over}
use Rattle.jb_desk.proofs.desk.Desk.wait.Goals.{After-ok_or}
use Rattle.jb_desk.proofs.desk.Desk.wait.Goals as goal

-- what holds whatever was answered
holds : {A B : Type 0} (P : Type 0) (r : Result A B) → P → OnOk r P
holds P (Ok a) p = p
holds P (Err e) p = tt

holds-ok : {A B : Type 0} (P : Type 0) (r : Result A B) → P → IfOk r (λ _. P)
holds-ok P (Ok a) p = p
holds-ok P (Err e) p = tt

-- the ticket is settled: its number is known, or was taken
known : {D : Type 0} (marks : List (OpenDeck D)) (ticket : ℕ) (number : Option ℕ) (r : Result ℕ WaitFault) → r ≡ ok_or number Taken → AreShown marks ticket number
    → IfOk r (Shows marks ticket) × IfErr r (ShowsTaken marks ticket)
known marks ticket None r is shown = subst (λ (x : Result ℕ WaitFault). IfOk x (Shows marks ticket) × IfErr x (ShowsTaken marks ticket)) (sym is) (tt, shown)
known marks ticket (Some n) r is shown = subst (λ (x : Result ℕ WaitFault). IfOk x (Shows marks ticket) × IfErr x (ShowsTaken marks ticket)) (sym is) (shown, tt)

was-taken : {H : Type 0} {O : Ghosts H} {P : Places H} (ticket : ℕ) (old new : Seat H O P) (number : Option ℕ) (r : Result ℕ WaitFault) → r ≡ ok_or number Taken → view_of new ≡ with_settled (ticket + 1) (view_of old)
    → IfErr r (RefusesWait ticket old new)
was-taken ticket old new None r is view = subst (λ (x : Result ℕ WaitFault). IfErr x (RefusesWait ticket old new)) (sym is) view
was-taken ticket old new (Some n) r is view = subst (λ (x : Result ℕ WaitFault). IfErr x (RefusesWait ticket old new)) (sym is) tt

-- what the seat is sure of then
view : (g : Over) (c : After-ok_or g) → seat_view c.raise_settled.new.seat ≡ with_settled (c.args.ticket + 1) (view_of c.args.seat.now)
view g c = c.raise_settled.ensures.view ∙ ap (λ x. raised_settled x (c.args.ticket + 1)) (c.raise_taken.ensures.view ∙ ap (λ x. raised_taken x (c.args.ticket + 1)) c.raise_stopped.ensures.view)

pub raise_stopped-requires-clause-here : goal.raise_stopped-requires-clause-here
raise_stopped-requires-clause-here g c = c.requires

pub raise_taken-requires-clause-here : goal.raise_taken-requires-clause-here
raise_taken-requires-clause-here g c = c.raise_stopped.ensures.board ∙ c.requires

pub raise_taken-requires-clause-stopped : goal.raise_taken-requires-clause-stopped
raise_taken-requires-clause-stopped g c = subst (λ (f : Front). c.args.ticket + 1 ≤ f.stopped) (sym c.raise_stopped.ensures.view) (reached _ (c.args.ticket + 1))

pub raise_settled-requires-clause-here : goal.raise_settled-requires-clause-here
raise_settled-requires-clause-here g c = c.raise_taken.ensures.board ∙ c.raise_stopped.ensures.board ∙ c.requires

pub raise_settled-requires-clause-taken : goal.raise_settled-requires-clause-taken
raise_settled-requires-clause-taken g c = subst (λ (f : Front). c.args.ticket + 1 ≤ f.taken) (sym c.raise_taken.ensures.view) (reached _ (c.args.ticket + 1))

pub returns-clause-seat : goal.returns-clause-seat
returns-clause-seat g c = record { desk = c.raise_settled.ensures.board ∙ c.raise_taken.ensures.board ∙ c.raise_stopped.ensures.board; number = refl; counted = (refl, refl, refl) }

pub raise_stopped-requires-clause-given : goal.raise_stopped-requires-clause-given
raise_stopped-requires-clause-given g c =
    let given = c.tickets-tickets.ensures.given in
    let next = c.in_ok-number.ensures.settled.2 in
    let same = ap (λ s. s.register.book.shadow.next) c.deref-2.ensures ∙ ap (λ (a : Account). a.shadow.next) c.in_ok-number.ensures.book in
    omega (arith, given, next, same)

pub raise_taken-requires-clause-seen : goal.raise_taken-requires-clause-seen
raise_taken-requires-clause-seen g c =
    let seen = c.seen-settled.ensures.ordered in
    let counts = c.seen-settled.ensures.counts.1 in
    let settled = c.in_ok-number.ensures.settled.1 in
    let same = ap (λ s. s.register.book.shadow.settled) c.deref-3.ensures ∙ ap (λ (a : Account). a.shadow.settled) c.in_ok-number.ensures.book in
    omega (arith, seen, counts, settled, same)

pub raise_settled-requires-clause-seen : goal.raise_settled-requires-clause-seen
raise_settled-requires-clause-seen g c =
    let counts = c.seen-settled.ensures.counts.1 in
    let settled = c.in_ok-number.ensures.settled.1 in
    let same = ap (λ s. s.register.book.shadow.settled) c.deref-3.ensures ∙ ap (λ (a : Account). a.shadow.settled) c.in_ok-number.ensures.book in
    omega (arith, counts, settled, same)

pub returns-clause-settled : goal.returns-clause-settled
returns-clause-settled g c =
    let up = settled-by _ (seat_view c.raise_settled.new.seat) (c.args.ticket + 1) c.raise_settled.ensures.view in
    holds-ok _ c.ok_or.result (omega (arith, up))

pub returns-clause-shown : goal.returns-clause-shown
returns-clause-shown g c = (known _ c.args.ticket c.in_ok-number.number c.ok_or.result c.ok_or.ensures.value c.in_ok-number.ensures.shown).0

pub returns-clause-taken : goal.returns-clause-taken
returns-clause-taken g c = (known _ c.args.ticket c.in_ok-number.number c.ok_or.result c.ok_or.ensures.value c.in_ok-number.ensures.shown).1

pub returns-clause-begins : goal.returns-clause-begins
returns-clause-begins g c = c.number_of.ensures.begins

pub returns-clause-view : goal.returns-clause-view
returns-clause-view g c = holds _ c.ok_or.result (view g (goal.at.returns-clause-view g c).After-ok_or)

pub returns-clause-refused : goal.returns-clause-refused
returns-clause-refused g c = was-taken c.args.ticket c.args.seat.now _ c.in_ok-number.number c.ok_or.result c.ok_or.ensures.value (view g (goal.at.returns-clause-refused g c).After-ok_or)

pub returns-in_err-number-clause-seat : goal.returns-in_err-number-clause-seat
returns-in_err-number-clause-seat g c = keeps-same _ _ refl

pub returns-in_err-number-clause-begins : goal.returns-in_err-number-clause-begins
returns-in_err-number-clause-begins g c = c.number_of.ensures.begins
