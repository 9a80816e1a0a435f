-- What a round makes of the counts that its seat is sure of.
use Rattle.std.proofs.Common.{◌≡◌, ℕ, ◌<◌, ◌≤◌, max, length, is_some, Option, Some, None, Result, Ok, Err, inr, refl, ap, sym, subst, ◌∙◌, arith}
use Rattle.jb_plan.specs.Batch.{Gathered}
use Rattle.jb_board.specs.Steps.{raised_settled}
use Rattle.jb_board.specs.declared.front.Front.{Front}
use Rattle.jb_disk.specs.declared.disk.Disk.{Ghosts as Disks}
use Rattle.jb_book.specs.Account.{Account}
use Rattle.jb_desk.specs.Journal.{CommitsRound, CutsRound}
use Rattle.jb_book.specs.Origin.{Begun}
use Rattle.jb_book.specs.Rounds.{end_of}
use Rattle.jb_desk.specs.Rounds.{AnswersRound, GivesBatch, IdleKeeps}
use Rattle.jb_desk.specs.Seats.{KeepsSeat, changes, desk_of, made_by, seat_number, stops}
use Rattle.jb_desk.specs.Views.{IsNextBatch, SeesCommit, SeesRound, TakesUp, with_taken}
use Rattle.jb_board.specs.declared.place.Place.{Ghosts as Places}
use Rattle.jb_book.specs.declared.origin.Origin.{Ghosts}
use Rattle.jb_desk.specs.declared.seat.Seat.{Seat}
use Rattle.jb_desk.specs.declared.committer.Round.{Round}
use Rattle.jb_desk.specs.declared.committer.Round.TheVariants.{Idle, Committed}
use Rattle.jb_desk.specs.declared.committer.RoundFault.{RoundFault}
use Rattle.jb_desk.specs.declared.committer.RoundFault.TheVariants as round

-- ---- the counts

-- after a batch was taken, its commit is the round's
pub sees-taken : (seen : ℕ) (held after : Option Gathered) (b : Gathered) (v u w : Front) (r : Result Round RoundFault) → TakesUp seen held b → u ≡ with_taken (end_of b) v → AnswersRound (Some b) after w.settled r → SeesCommit b u w r → SeesRound seen held after v w r
sees-taken seen held after b v u w r up taken answers is = inr (b, up, answers, subst (λ x. SeesCommit b x w r) taken is)

-- the batch that a book gives is the one that was held, or else has all that was seen
gives-next : (seen : ℕ) (held given : Option Gathered) (out : Gathered) (old new : Account) → given ≡ Some out → GivesBatch (Ok given) held old new → seen ≤ new.shadow.next → IsNextBatch seen held out
gives-next seen None None out old new is gives all = let never : ⊥ = cc in absurd never
gives-next seen None (Some b) out old new is gives all =
    let same : b ≡ out = cc in
    subst (λ (x : Gathered). seen ≤ end_of x) same (subst (λ n. seen ≤ n) (sym gives.1.2) all)
gives-next seen (Some h) given out old new is gives all = let same : ◌≡◌ {A = Option Gathered} (Some out) (Some h) = sym is ∙ gives.1 in let eq : out ≡ h = cc in eq

-- so it is the one that is taken up, as it has a handle
pub takes-up : (seen : ℕ) (held taken given : Option Gathered) (out b : Gathered) (old new : Account) → taken ≡ held → given ≡ Some out → b ≡ out → 0 < length b.handles → GivesBatch (Ok given) taken old new → seen ≤ new.shadow.next → TakesUp seen held b
takes-up seen held taken given out b old new was is same some gives all = record {
  next = subst (λ h. IsNextBatch seen h b) was (subst (IsNextBatch seen taken) (sym same) (gives-next seen taken given out old new is gives all));
  some = some;
}

-- nothing is taken up only where nothing is held
pub gives-none : (old new : Account) (held given : Option Gathered) → given ≡ None → GivesBatch (Ok given) held old new → held ≡ None
gives-none old new None given is gives = refl
gives-none old new (Some h) given is gives = let same : ◌≡◌ {A = Option Gathered} None (Some h) = sym is ∙ gives.1 in absurd (let never : ⊥ = cc in never)

-- such a batch is held on
pub answers-held : (seen : ℕ) (held after : Option Gathered) (b : Gathered) (n : ℕ) → TakesUp seen held b → after ≡ Some b → AnswersRound held after n (Err round.Memory)
answers-held seen None after b n up again = ap is_some again
answers-held seen (Some h) after b n up again = again ∙ ap (λ x. Some x) up.next

-- what is answered of the batch that is taken up is the round's answer
pub answers-up : (seen : ℕ) (held after : Option Gathered) (b : Gathered) (n : ℕ) (r : Result Round RoundFault) → TakesUp seen held b → AnswersRound (Some b) after n r → AnswersRound held after n r
answers-up seen (Some h) after b n r up is = subst (λ (x : Gathered). AnswersRound (Some x) after n r) up.next is
answers-up seen None after b n (Ok (Idle none)) up is = (refl, is.1)
answers-up seen None after b n (Ok (Committed done)) up is = (is.0, (is.1.0, is.1.1, is.1.2, is.1.3, tt))
answers-up seen None after b n (Err (round.Aborted failed)) up is = is
answers-up seen None after b n (Err (round.DeviceFault failed)) up is = is
answers-up seen None after b n (Err round.Memory) up is = ap is_some is
answers-up seen None after b n (Err round.Refused) up is = ap is_some is

-- what is done with the batch that is taken up is done in the round
up-again : (seen any : ℕ) (held : Option Gathered) (b x : Gathered) → TakesUp seen held b → TakesUp any (Some b) x → TakesUp seen held x
up-again seen any held b x up again = record { next = subst (IsNextBatch seen held) (sym again.next) up.next; some = again.some }

pub round-up : {D : Type 0} (G : Disks D) (begun : Begun) (seen any : ℕ) (held after : Option Gathered) (b : Gathered) (reached : ℕ) (r : Result Round RoundFault)
    → TakesUp seen held b → CommitsRound G begun any (Some b) after reached r → CommitsRound G begun seen held after reached r
round-up G begun seen any held after b reached (Ok (Idle none)) up is = tt
round-up G begun seen any held after b reached (Ok (Committed done)) up is = (is.0, up-again seen any held b is.0.batch up is.1, is.2)
round-up G begun seen any held after b reached (Err (round.Aborted failed)) up is = tt
round-up G begun seen any held after b reached (Err (round.DeviceFault failed)) up is = (is.0, is.1, up-again seen any held b is.0.batch up is.2, is.3, is.4)
round-up G begun seen any held after b reached (Err round.Memory) up is = tt
round-up G begun seen any held after b reached (Err round.Refused) up is = (is.0, is.1, up-again seen any held b is.0.batch up is.2, is.3, is.4)

-- a batch that a round has committed was cut
pub round-cut : {D : Type 0} (G : Disks D) (begun : Begun) (seen : ℕ) (held after : Option Gathered) (reached : ℕ) (r : Result Round RoundFault) → CommitsRound G begun seen held after reached r → CutsRound G begun seen held r
round-cut G begun seen held after reached (Ok (Idle none)) is = tt
round-cut G begun seen held after reached (Ok (Committed done)) is = (is.0, is.1, is.2.cut)
round-cut G begun seen held after reached (Err fault) is = tt

-- a batch that was taken up is committed, so the round is not idle
pub never-idle : {H : Type 0} {O : Ghosts H} {P : Places H} (seen : ℕ) (b : Gathered) (u w : Front) (old new : Seat H O P) (r : Result Round RoundFault) → SeesCommit b u w r → IdleKeeps seen old new r
never-idle seen b u w old new (Ok (Idle none)) is = absurd is
never-idle seen b u w old new (Ok (Committed done)) is = tt
never-idle seen b u w old new (Err fault) is = tt

-- ---- a raise

-- a count that was raised is at least so high
pub reached : (old count : ℕ) → count ≤ max old count
reached old count = omega arith

-- so are the settled ones of a seat that has raised them
pub settled-by : (old new : Front) (count : ℕ) → new ≡ raised_settled old count → count ≤ new.settled
settled-by old new count is = subst (λ (f : Front). count ≤ f.settled) (sym is) (reached old.settled count)

-- ---- a seat that is as it was

pub keeps-same : {H : Type 0} {O : Ghosts H} {P : Places H} (old new : Seat H O P) → new ≡ old → KeepsSeat old new
keeps-same {H} {O} {P} old new is = record {
  desk = ap (λ (s : Seat H O P). desk_of s) is;
  number = ap (λ (s : Seat H O P). seat_number s) is;
  counted = (ap (λ (s : Seat H O P). stops s) is, ap (λ (s : Seat H O P). changes s) is, ap (λ (s : Seat H O P). made_by s) is);
}

-- what two calls keep of it, one after the other
pub keeps-on : {H : Type 0} {O : Ghosts H} {P : Places H} (old mid new : Seat H O P) → KeepsSeat old mid → KeepsSeat mid new → KeepsSeat old new
keeps-on old mid new first second = record {
  desk = second.desk ∙ first.desk;
  number = second.number ∙ first.number;
  counted = (second.counted.0 ∙ first.counted.0, second.counted.1 ∙ first.counted.1, second.counted.2 ∙ first.counted.2);
}
