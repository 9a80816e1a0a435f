use Rattle.std.proofs.Common.{◌++◌, ◌∷◌, [], length, ap, sym, subst, ◌∙◌}
use Rattle.jb_handle.specs.Handle.{changes_of, holder}
use Rattle.jb_board.specs.HistoryRule.{IsFirstPart}
use Rattle.jb_book.specs.Account.{Account, RefusesStop}
use Rattle.jb_book.specs.CallsToBook.{Queues, Registered, registered}
use Rattle.jb_book.proofs.BookMarks.{sees-stop}
use Rattle.jb_book.proofs.RegisterCalls.{both-stopped}
use Rattle.jb_book.proofs.register.Register.stop.Goals as goal

pub invariant_of-self : goal.invariant_of-self
invariant_of-self g c =
    let words = (changes_of c.args.handle).words in
    both-stopped c.self.invariant c.args.seat words c.reserved-reserved.ensures.sound c.in-Ok.ensures.open c.in-Ok.ensures.book
    (λ same. c.show-all.ensures.kept ∙ (c.record_last.ensures _ _ same).0 ∙ ap (λ l. l ++ words ∷ []) c.look.ensures.kept.0)

pub returns-in-Ok-clause-ok : goal.returns-in-Ok-clause-ok
returns-in-Ok-clause-ok g c =
    let words = (changes_of c.args.handle).words in
    let adds = c.record_last.ensures _ _ (ap (λ (a : Account). a.shadow.queue) c.in-Ok.ensures.book) in
    subst (λ (r : Registered). Queues c.args.seat (holder c.args.handle) words r c.args.made.now c.in-Ok.given (registered c.enqueue.new.self c.show-all.new.appender) c.record_last.new.made) c.self.view_is record {
      could = c.in-Ok.ensures.open;
      queued_as = c.in-Ok.ensures.book;
      same_holder = c.in-Ok.ensures.given.0;
      next = c.in-Ok.ensures.given.1;
      few = c.in-Ok.ensures.few;
      log = c.show-all.ensures.kept ∙ adds.0 ∙ ap (λ l. l ++ words ∷ []) c.look.ensures.kept.0;
      made_one = adds.1 ∙ ap (λ n. c.args.made.now ++ (n, words) ∷ []) (ap length c.look.ensures.kept.0 ∙ c.self.invariant.0.counted ∙ sym c.in-Ok.ensures.given.1);
    }

pub returns-in-Ok-clause-sees : goal.returns-in-Ok-clause-sees
returns-in-Ok-clause-sees g c =
    let words = (changes_of c.args.handle).words in
    let adds = c.record_last.ensures _ _ (ap (λ (a : Account). a.shadow.queue) c.in-Ok.ensures.book) in
    sees-stop c.args.prefix.now c.learn.new.prefix c.self.inside.appender c.record_last.new.appender words c.in-Ok.given.1 c.look.ensures.seen (adds.0 ∙ ap (λ l. l ++ words ∷ []) c.look.ensures.kept.0) (subst (λ l. IsFirstPart l c.learn.new.prefix) c.show-all.ensures.prefix c.learn.ensures.other) (c.in-Ok.ensures.given.1 ∙ sym c.self.invariant.0.counted) (subst (λ l. IsFirstPart l c.learn.new.prefix) c.look.ensures.kept.1 c.learn.ensures.own)

pub returns-in-Err-clause-refused : goal.returns-in-Err-clause-refused
returns-in-Err-clause-refused g c = subst (λ (r : Registered). RefusesStop r.book c.args.seat (changes_of c.args.handle).words c.in-Err.back.1) c.self.view_is c.in-Err.ensures.refused
