use Rattle.std.proofs.Common.{rules, ℕ, ◌≡◌, ◌+◌, ◌-◌, ◌∷◌, [], ◌≤◌, false, sum, sym, ap, subst, arith, vec_len, vec_capacity, unwrap_or}
use Rattle.std.specs.Map.{values_of}
use Rattle.std.proofs.lemmas.List.Sums.{sum_by-append}
use Rattle.jb_handle.specs.Handle.{changes_of}
use Rattle.jb_book.specs.Account.{Account, IsOpenFor, queued}
use Rattle.jb_book.specs.Book.{account_of}
use Rattle.jb_book.specs.Shadow.{credits_at}
use Rattle.jb_book.proofs.Accounts.{kept-by, queued-sound, stops-more, sum-gone}
use Rattle.jb_book.proofs.book.Book.enqueue.Goals as goal

pub returns-in_default-clause-refused : goal.returns-in_default-clause-refused
returns-in_default-clause-refused g c =
    let none : (credits : ℕ) → IsOpenFor c.args.self.now c.args.seat c.words.result.now credits → ⊥ = search rules in
    (search rules, λ credits is. none credits (subst (λ words. IsOpenFor c.args.self.now c.args.seat words credits) (sym c.words.ensures.words) is))

pub returns-in_default-clause-does : goal.returns-in_default-clause-does
returns-in_default-clause-does g c = λ earlier. (returns-in_default-clause-refused g c, search rules)

pub overflow_sub-self : goal.overflow_sub-self
overflow_sub-self g c =
    let there : IsOpenFor (account_of c.self.inside) c.args.seat c.words.result.now c.in-Some.credits = subst (λ (a : Account). IsOpenFor a c.args.seat c.words.result.now c.in-Some.credits) (sym c.self.view_is) c.in-Some.ensures.some in
    omega (arith, sum-gone c.self.inside.seats.entries c.args.seat c.in-Some.credits there.listed, c.self.invariant.open_sum, c.from.ensures)

pub invariant_of-self-2 : goal.invariant_of-self-2
invariant_of-self-2 g c =
    let running : c.self.inside.aborted ≡ false = search rules in
    let at_words : IsOpenFor (account_of c.self.inside) c.args.seat c.words.result.now c.in-Some.credits = subst (λ (a : Account). IsOpenFor a c.args.seat c.words.result.now c.in-Some.credits) (sym c.self.view_is) c.in-Some.ensures.some in
    let there : IsOpenFor (account_of c.self.inside) c.args.seat (changes_of c.args.handle).words c.in-Some.credits = subst (λ words. IsOpenFor (account_of c.self.inside) c.args.seat words c.in-Some.credits) c.words.ensures.words at_words in
    let gone = sum-gone c.self.inside.seats.entries c.args.seat c.in-Some.credits there.listed in
    let granted : unwrap_or (credits_at (account_of c.self.inside).shadow c.args.seat) 0 ≡ c.in-Some.credits = ap (λ found. unwrap_or found 0) there.listed in
    let more = sum_by-append (λ (x : ℕ). x) c.self.inside.credits.items (unwrap_or (credits_at (account_of c.self.inside).shadow c.args.seat) 0 ∷ []) in
    let one : sum (unwrap_or (credits_at (account_of c.self.inside).shadow c.args.seat) 0 ∷ []) ≡ unwrap_or (credits_at (account_of c.self.inside).shadow c.args.seat) 0 = omega arith in
    let open_sum : c.self.inside.open_sum - c.from.result ≡ sum (values_of (queued c.args.seat (changes_of c.args.handle).words (account_of c.self.inside)).shadow.seats) = omega (arith, gone, c.self.invariant.open_sum, c.from.ensures) in
    let line_sum : c.self.inside.line_sum + c.from-2.result ≡ sum (queued c.args.seat (changes_of c.args.handle).words (account_of c.self.inside)).shadow.credits = omega (arith, more, one, granted, c.self.invariant.line_sum, c.from-2.ensures) in
    let order = c.self.invariant.sound.order in
    let within = c.self.invariant.sound.within in
    let room : vec_len c.make_room.new.trail + (c.self.inside.next + 1 - c.self.inside.settled) ≤ vec_capacity c.make_room.new.trail = omega (arith, c.in-Ok.ensures.entries) in
    kept-by g.H.Origin.begun _ (queued c.args.seat (changes_of c.args.handle).words (account_of c.self.inside)) (search rules) (queued-sound (account_of c.self.inside) c.self.invariant.sound c.args.seat c.in-Some.credits (changes_of c.args.handle).words running there) open_sum line_sum
    c.self.invariant.least c.self.invariant.narrow room c.remove.ensures.ordered
    (stops-more g.H.Origin.begun c.self.inside.queue.items c.self.inside.next (changes_of c.args.handle).words c.self.invariant.stops c.requires)
