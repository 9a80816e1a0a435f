-- What a commit tells of its batch, whatever journal it was: where its groups end, and that its entries are those of the first groups of the cut.
use Rattle.std.proofs.Common.{◌≡◌, ℕ, zero, suc, ◌+◌, ◌-◌, ◌≤◌, List, [], ◌∷◌, ◌++◌, length, take, slice_index, refl, ap, ◌∙◌, arith, Result, Ok, Err, sym, subst}
use Rattle.jb_block.specs.declared.stamp.Stamp.{Stamp}
use Rattle.jb_handle.specs.declared.stopped.Stopped.{Stopped}
use Rattle.jb_cost.specs.Cut.{RisesTo, IsCut}
use Rattle.jb_cost.specs.Pieces.{pieces, pieces_from}
use Rattle.jb_cost.proofs.Cuts.{rises-le}
use Rattle.jb_plan.specs.Costs.{cost_in}
use Rattle.jb_plan.specs.Prepare.{Planned, IsPlanned}
use Rattle.jb_deck.specs.CommitBatch.{AnswersBatch}
use Rattle.jb_deck.specs.Deck.{OpenDeck}
use Rattle.jb_deck.specs.Done.{past_after, Follow}
use Rattle.jb_deck.specs.GroupsOfBatch.{groups_in, entries_from, entries_for}
use Rattle.jb_deck.specs.declared.batched.BatchFault.{BatchFault}
use Rattle.jb_deck.specs.declared.batched.BatchFault.TheVariants.{Aborted, WrongTicket, OtherShape, NumbersSpent, Memory, DeviceFault}
use Rattle.jb_deck.specs.declared.done.Done.{Done}
use Rattle.jb_deck.specs.declared.done.Entry.{Entry}
use Rattle.jb_book.specs.Calls.{AreOfFirst}
use Rattle.jb_book.specs.MachineTie.{TellsFirst}
use Rattle.jb_book.specs.Rounds.{CommitsAs, end_of}
use Rattle.jb_book.proofs.MachineLimits.{length-range}

-- ---- the bounds of a cut, and where the entries of its first groups end

pub past-append : (n : ℕ) (es fs : List Entry) → past_after n (es ++ fs) ≡ past_after (past_after n es) fs
past-append n [] fs = refl
past-append n (e ∷ es) fs = past-append e.past es fs

bound-rise : (n a : ℕ) (bs : List ℕ) (j k : ℕ) → RisesTo n a bs → j ≤ k → k ≤ length bs → slice_index (a ∷ bs) j + (k - j) ≤ slice_index (a ∷ bs) k
bound-rise n a bs zero zero rises up within = omega arith
bound-rise n a bs (suc j) zero rises up within = absurd (omega (arith, up))
bound-rise n a [] j (suc k) rises up within = absurd (omega (arith, within))
bound-rise n a (b ∷ bs) zero (suc k) rises up within = let rest = bound-rise n b bs 0 k rises.1 (omega arith) (omega (arith, within)) in omega (arith, rest)
bound-rise n a (b ∷ bs) (suc j) (suc k) rises up within = let rest = bound-rise n b bs j k rises.1 (omega (arith, up)) (omega (arith, within)) in omega (arith, rest)

bound-last : (n a : ℕ) (bs : List ℕ) → RisesTo n a bs → slice_index (a ∷ bs) (length bs) ≡ n
bound-last n a [] rises = rises
bound-last n a (b ∷ bs) rises = bound-last n b bs rises.1

-- each group has a handle at least
pub cut-rise : (n : ℕ) (bounds : List ℕ) (j k : ℕ) → IsCut n bounds → j ≤ k → k ≤ groups_in bounds → slice_index bounds j + (k - j) ≤ slice_index bounds k
cut-rise n [] j k cut up within = absurd cut
cut-rise n (a ∷ bs) j k cut up within = bound-rise n a bs j k cut.1 up within

-- all groups of a cut end with the last handle
pub cut-last : (n : ℕ) (bounds : List ℕ) → IsCut n bounds → slice_index bounds (groups_in bounds) ≡ n
cut-last n [] cut = absurd cut
cut-last n (a ∷ bs) cut = bound-last n a bs cut.1

-- the first groups end within the handles, and have one each at least
pub cut-within : (n : ℕ) (bounds : List ℕ) (k : ℕ) → IsCut n bounds → k ≤ groups_in bounds → (k ≤ slice_index bounds k) × (slice_index bounds k + (groups_in bounds - k) ≤ n)
cut-within n bounds k cut within =
    let low = cut-rise n bounds 0 k cut (omega arith) within in
    let high = cut-rise n bounds k (groups_in bounds) cut within (omega arith) in
    let last = cut-last n bounds cut in
    (omega (arith, low), omega (arith, high, last))

-- ---- the entries

from-past : (c : ℕ → ℕ → ℕ) (ticket number a : ℕ) (bs : List ℕ) (k : ℕ) → k ≤ length bs → past_after (ticket + a) (take k (entries_from c ticket number a bs)) ≡ ticket + slice_index (a ∷ bs) k
from-past c ticket number a bs zero within = refl
from-past c ticket number a [] (suc k) within = absurd (omega (arith, within))
from-past c ticket number a (b ∷ bs) (suc k) within = from-past c ticket (number + 1) b bs k (omega (arith, within))

-- those of the first groups end at the bound of these
pub for-past : (c : ℕ → ℕ → ℕ) (n ticket number k : ℕ) (bounds : List ℕ) → IsCut n bounds → k ≤ groups_in bounds → past_after ticket (take k (entries_for c ticket number bounds)) ≡ ticket + slice_index bounds k
for-past c n ticket number k [] cut within = absurd cut
for-past c n ticket number k (a ∷ bs) cut within =
    let same : ticket ≡ ticket + a = omega arith in
    ap (λ f. past_after f (take k (entries_from c ticket number a bs))) same ∙ from-past c ticket number a bs k within

from-length : (c : ℕ → ℕ → ℕ) (ticket number a : ℕ) (bs : List ℕ) → length (entries_from c ticket number a bs) ≡ length bs
from-length c ticket number a [] = refl
from-length c ticket number a (b ∷ bs) = ap suc (from-length c ticket (number + 1) b bs)

-- there is one for each group
pub for-length : (c : ℕ → ℕ → ℕ) (ticket number : ℕ) (bounds : List ℕ) → length (entries_for c ticket number bounds) ≡ groups_in bounds
for-length c ticket number [] = refl
for-length c ticket number (a ∷ bs) = from-length c ticket number a bs

-- ---- the entries of a cut

from-follow : (c : ℕ → ℕ → ℕ) (n a ticket number least : ℕ) (bs : List ℕ) → least ≤ number → RisesTo n a bs → Follow (ticket + a) least (ticket + n) (entries_from c ticket number a bs)
from-follow c n a ticket number least [] low is = ap (λ k. ticket + k) is
from-follow c n a ticket number least (b ∷ bs) low is = (refl, omega arith, low, from-follow c n b ticket (number + 1) (number + 1) bs (omega arith) is.1)

for-follow : (c : ℕ → ℕ → ℕ) (n ticket number : ℕ) (bounds : List ℕ) → IsCut n bounds → Follow ticket 0 (ticket + n) (entries_for c ticket number bounds)
for-follow c n ticket number [] is = absurd is
for-follow c n ticket number (a ∷ bs) is =
    let same : ticket + a ≡ ticket = omega arith in
    subst (λ f. Follow f 0 (ticket + n) (entries_from c ticket number a bs)) same (from-follow c n a ticket number 0 bs (omega arith) is.1)

-- the first of these entries are those of fewer groups
fewer : (groups : List (List Stopped)) (es : List Entry) (k : ℕ) → AreOfFirst groups es → AreOfFirst groups (take k es)
fewer groups es zero are = tt
fewer groups [] (suc k) are = tt
fewer [] (e ∷ es) (suc k) are = absurd are
fewer (g ∷ groups) (e ∷ es) (suc k) are = (are.0, fewer groups es k are.1)

from-first : (c : ℕ → ℕ → ℕ) (hs : List Stopped) (ticket number a : ℕ) (bs : List ℕ) → RisesTo (length hs) a bs → AreOfFirst (pieces_from a bs hs) (entries_from c ticket number a bs)
from-first c hs ticket number a [] is = tt
from-first c hs ticket number a (b ∷ bs) is =
    let inside = rises-le (length hs) b bs is.1 in
    let size = length-range a b hs inside in
    (omega (arith, size), from-first c hs ticket (number + 1) b bs is.1)

-- the entries of a cut are those of its pieces
for-first : (c : ℕ → ℕ → ℕ) (hs : List Stopped) (ticket number : ℕ) (bounds : List ℕ) → IsCut (length hs) bounds → AreOfFirst (pieces bounds hs) (entries_for c ticket number bounds)
for-first c hs ticket number [] cut = absurd cut
for-first c hs ticket number (a ∷ bs) cut = from-first c hs ticket number a bs cut.1

-- ---- a commit

pub commits-as : {D : Type 0} (before after : ℕ) (p : Planned) (stamp : Stamp) (old new : OpenDeck D) (r : Result Done BatchFault) → IsPlanned p → AnswersBatch before after p stamp old new r → CommitsAs p r
commits-as before after p stamp old new (Ok done) planned is = (
  is.2.first,
  subst (Follow p.batch.first 0 (end_of p.batch)) (sym is.2.entries) (for-follow (cost_in p.batch.shape p.batch.handles) (length p.batch.handles) p.batch.first old.log.next p.groups planned.least.fitting.cut),
)
commits-as before after p stamp old new (Err (Aborted back)) planned is = is.0.1
commits-as before after p stamp old new (Err (WrongTicket back expected)) planned is = is.0.3
commits-as before after p stamp old new (Err (OtherShape back)) planned is = is.0.3
commits-as before after p stamp old new (Err (NumbersSpent back)) planned is = is.0.4
commits-as before after p stamp old new (Err (Memory back)) planned is = is.2
commits-as before after p stamp old new (Err (DeviceFault settled)) planned is =
    let some = is.2 in
    let n = length p.batch.handles in
    let ends = ap (past_after p.batch.first) some.entries ∙ for-past (cost_in p.batch.shape p.batch.handles) n p.batch.first old.log.next some.groups p.groups planned.least.fitting.cut (omega arith) in
    let high = cut-within n p.groups some.groups planned.least.fitting.cut (omega arith) in
    (some.first, omega (arith, ends), omega (arith, ends, high.1))

pub commit_tells : {D : Type 0} (before after : ℕ) (p : Planned) (stamp : Stamp) (old new : OpenDeck D) (answer : Result Done BatchFault) → IsPlanned p → AnswersBatch before after p stamp old new answer → TellsFirst p answer
commit_tells before after p stamp old new (Ok done) planned is =
    subst (AreOfFirst (pieces p.groups p.batch.handles)) (sym is.2.entries) (for-first (cost_in p.batch.shape p.batch.handles) p.batch.handles p.batch.first old.log.next p.groups planned.least.fitting.cut)
commit_tells before after p stamp old new (Err (DeviceFault settled)) planned is =
    let some = is.2 in
    subst (AreOfFirst (pieces p.groups p.batch.handles)) (sym some.entries)
    (fewer (pieces p.groups p.batch.handles) (entries_for (cost_in p.batch.shape p.batch.handles) p.batch.first old.log.next p.groups) some.groups (for-first (cost_in p.batch.shape p.batch.handles) p.batch.handles p.batch.first old.log.next p.groups planned.least.fitting.cut))
commit_tells before after p stamp old new (Err refused) planned is = tt
