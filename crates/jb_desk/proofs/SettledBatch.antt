-- What is settled of a batch that was committed.
use Rattle.std.proofs.Common.{◌≡◌, ℕ, ◌+◌, ◌-◌, ◌<◌, ◌≤◌, length, Some, Ok, refl, sym, ap, subst, ◌∙◌, arith}
use Rattle.jb_plan.specs.Prepare.{Planned}
use Rattle.jb_deck.specs.Done.{Follow, first_ticket, entries_of, past_after}
use Rattle.jb_deck.specs.declared.done.Done.{Done}
use Rattle.jb_handle.specs.declared.shape.Shape.{Shape}
use Rattle.jb_book.specs.Account.{Account, Settles}
use Rattle.jb_book.specs.CallsToBook.{FailsAfter, IsOutAs, SettlesOrFails}
use Rattle.jb_book.specs.Rounds.{CommitsAs, end_of}
use Rattle.jb_desk.specs.Rounds.{IsOfHeld}
use Rattle.jb_book.proofs.TrailEntries.{follow-length, follow-past}

module _ (end : ℕ) (shape : Shape) (done : Done) (old new : Account) where
  -- groups of the batch that is out are settled up to where they end
  upto-seen : IsOutAs old (first_ticket done) end shape → (past : ℕ) → Settles old past (entries_of done)
      → new.shadow.settled ≡ old.shadow.settled + (past - old.shadow.settled) → past_after (first_ticket done) (entries_of done) ≤ new.shadow.settled
  upto-seen out past settles now =
      let upto : past_after (first_ticket done) (entries_of done) ≡ past = ap (λ n. past_after n (entries_of done)) out.first_is ∙ follow-past old.shadow.settled _ past (entries_of done) settles.follow in
      let long = follow-length old.shadow.settled _ past (entries_of done) settles.follow in
      omega (arith, upto, long, now)

  -- of a batch that is settled, up to its end
  pub settled-seen : SettlesOrFails end shape done old (Ok tt) new → past_after (first_ticket done) (entries_of done) ≤ new.shadow.settled
  settled-seen (out, settles, is) = upto-seen out end settles (ap (λ (a : Account). a.shadow.settled) is)

  -- and of groups that were committed before a failure
  pub failed-seen : FailsAfter end shape done old (Ok tt) new → past_after (first_ticket done) (entries_of done) ≤ new.shadow.settled
  failed-seen (out, some) = upto-seen out some.0 some.1 (ap (λ (a : Account). a.shadow.settled) some.2)

-- a batch that is settled whole ends where its entries end
pub whole-past : (p : Planned) (done : Done) → CommitsAs p (Ok done) → past_after (first_ticket done) (entries_of done) ≡ end_of p.batch
whole-past p done told = ap (λ f. past_after f (entries_of done)) told.0 ∙ follow-past p.batch.first 0 (end_of p.batch) (entries_of done) told.1

pub settles-whole : (p : Planned) (done : Done) (settled : ℕ) → 0 < length p.batch.handles → CommitsAs p (Ok done) → past_after (first_ticket done) (entries_of done) ≤ settled
    → (past : ℕ) × Follow (first_ticket done) 0 past (entries_of done) × (first_ticket done < past) × (past ≤ settled) × IsOfHeld (Some p.batch) (first_ticket done) past
settles-whole p done settled some told reached =
    let first = told.0 in
    (end_of p.batch, subst (λ f. Follow f 0 (end_of p.batch) (entries_of done)) (sym told.0) told.1, omega (arith, first, some), subst (λ k. k ≤ settled) (whole-past p done told) reached, (told.0, refl))
