use Rattle.std.proofs.Common.{ℕ, ◌≡◌, ◌+◌, ◌-◌, ◌≤◌, drop, sum, sym, ap, subst, ◌∙◌, arith, vec_len, vec_capacity}
use Rattle.std.proofs.lemmas.List.Sums.{sum_by-take-drop}
use Rattle.jb_deck.specs.Done.{Follow, least_after}
use Rattle.jb_book.specs.Account.{Account, Settles, settled_to}
use Rattle.jb_book.specs.Book.{account_of}
use Rattle.jb_book.proofs.Accounts.{kept-by, settled-is, settled-sound}
use Rattle.jb_book.proofs.TrailEntries.{follow-length, least-append}
use Rattle.jb_book.proofs.book.Book.settle.Given.{Over}
use Rattle.jb_book.proofs.book.Book.settle.Goals.{After-push_all}
use Rattle.jb_book.proofs.book.Book.settle.Goals as goal

-- the entries settle handles of the batch that is out
settles : (g : Over) (c : After-push_all g) → Settles (account_of c.self.inside) c.in-Some.past c.entries-entries.result.now
settles g c = record {
  follow = subst (λ n. Follow c.self.inside.settled n c.in-Some.past c.entries-entries.result.now) c.self.invariant.least c.in-Some.ensures.follow;
  within = c.in-Some.ensures.within;
}

pub push_all-requires : goal.push_all-requires
push_all-requires g c =
    let up = follow-length c.self.inside.settled c.self.inside.least c.in-Some.past c.entries-entries.result.now c.in-Some.ensures.follow in
    omega (arith, c.in-Some.ensures.within, c.self.invariant.sound.within, c.self.invariant.room)

pub overflow_sub-past : goal.overflow_sub-past
overflow_sub-past g c = omega (arith, follow-length c.self.inside.settled c.self.inside.least c.in-Some.past c.entries-entries.result.now c.in-Some.ensures.follow)

pub invariant_of-self : goal.invariant_of-self
invariant_of-self g c =
    let up = follow-length c.self.inside.settled c.self.inside.least c.in-Some.past c.entries-entries.result.now c.in-Some.ensures.follow in
    let parts = sum_by-take-drop (λ (x : ℕ). x) c.self.inside.credits.items (c.in-Some.past - c.self.inside.settled) in
    let line_sum : c.self.inside.line_sum - c.drop_first.result ≡ sum (drop (c.in-Some.past - c.self.inside.settled) c.self.inside.credits.items) = omega (arith, parts, c.drop_first.ensures.sum, c.self.invariant.line_sum) in
    let room : vec_len c.push_all.new.trail + (c.self.inside.next - c.in-Some.past) ≤ vec_capacity c.push_all.new.trail = omega (arith, c.push_all.ensures.len, c.push_all.ensures.capacity, c.in-Some.ensures.within, c.self.invariant.sound.within, c.self.invariant.room) in
    kept-by g.H.Origin.begun _ (settled_to c.in-Some.past c.entries-entries.result.now (account_of c.self.inside))
    (settled-is (account_of c.self.inside) c.self.invariant.sound c.in-Some.past c.entries-entries.result.now c.drop_first.new.credits.items c.push_all.new.trail.items (omega (arith, up)) c.drop_first.ensures.items c.push_all.ensures.items)
    (settled-sound (account_of c.self.inside) c.self.invariant.sound c.in-Some.past c.entries-entries.result.now (settles g (goal.at.invariant_of-self g c).After-push_all))
    c.self.invariant.open_sum line_sum
    (c.in-Some.ensures.least.0 ∙ ap (λ n. least_after n c.entries-entries.result.now) c.self.invariant.least ∙ sym (least-append 0 c.self.inside.trail.items c.entries-entries.result.now))
    c.in-Some.ensures.least.1 room c.self.invariant.ordered c.self.invariant.stops

pub returns-clause-ok : goal.returns-clause-ok
returns-clause-ok g c =
    let up = follow-length c.self.inside.settled c.self.inside.least c.in-Some.past c.entries-entries.result.now c.in-Some.ensures.follow in
    let here : Settles c.args.self.now c.in-Some.past c.entries-entries.result.now = subst (λ (a : Account). Settles a c.in-Some.past c.entries-entries.result.now) c.self.view_is (settles g (goal.at.returns-clause-ok g c).After-push_all) in (
      c.in-Some.past,
      subst (Settles c.args.self.now c.in-Some.past) c.entries-entries.ensures here,
      settled-is (account_of c.self.inside) c.self.invariant.sound c.in-Some.past c.entries-entries.result.now c.drop_first.new.credits.items c.push_all.new.trail.items (omega (arith, up)) c.drop_first.ensures.items c.push_all.ensures.items
          ∙ ap (settled_to c.in-Some.past c.entries-entries.result.now) c.self.view_is
          ∙ ap (λ es. settled_to c.in-Some.past es c.args.self.now) c.entries-entries.ensures,
    )

pub returns-clause-does : goal.returns-clause-does
returns-clause-does g c = λ earlier first. (returns-clause-ok g c, first)
