-- The handles that a client has stopped are posted: as more is seen, and with one more.
use Rattle.std.proofs.Common.{◌≡◌, ℕ, ◌≤◌, List, All, length, Option, Some, None, refl, sym, subst, arith}
use Rattle.std.proofs.lemmas.List.{nil_from_length}
use Rattle.std.proofs.lemmas.List.Elements.{All-push, All-weaker}
use Rattle.jb_board.proofs.EntryPlaces.{placed_on, prefix_same}
use Rattle.jb_journal.specs.Names.{Begun, IsFirstPart, StandsIn}
use Rattle.jb_journal.specs.Notes.{Known, Stop}
use Rattle.example_accounts.specs.Accounts.{balances_in}
use Rattle.example_accounts.specs.Postings.{ComesAfter, FindsBalances, IsPosted, StopsOne}
use Rattle.example_accounts.specs.declared.posting.Posting.{Posting}

pub posted-on : (b : Begun) (before after : Type 0) (ps qs : List Posting) → (after → before) → IsFirstPart ps qs → (s : Stop) → IsPosted b before ps s → IsPosted b after qs s
posted-on b before after ps qs so first s is = record {
  number = is.number;
  posting = is.posting;
  stands = placed_on ps qs first (is.number, is.posting) is.stands;
  ticket = is.ticket;
  leaves = is.leaves;
  first = λ none known sure. is.first none known (so sure);
}

-- once more is seen
pub all-on : (b : Begun) (before after : Type 0) (ps qs : List Posting) → (after → before) → IsFirstPart ps qs → (stops : List Stop) → All (IsPosted b before ps) stops → All (IsPosted b after qs) stops
all-on b before after ps qs so first stops each = All-weaker (IsPosted b before ps) (IsPosted b after qs) (λ s is. posted-on b before after ps qs so first s is) stops each

-- where none has stopped
pub all-kept : (b : Begun) (before after : Type 0) (ps : List Posting) → (after → before) → (old new : List Stop) → new ≡ old → All (IsPosted b before ps) old → All (IsPosted b after ps) new
all-kept b before after ps so old new same each = subst (All (IsPosted b after ps)) (sym same) (all-on b before after ps ps so (prefix_same ps) old each)

found-first : (b : Begun) (sure : Type 0) (known : Known) (last : Option Posting) (balances : List ℕ) (ticket : ℕ) → FindsBalances b sure known last balances → length known.log ≤ ticket → ticket ≡ 0 → b.is_known → sure
    → balances ≡ balances_in b.homes
found-first b sure known None balances ticket found higher none is_known held = found (nil_from_length known.log (omega (arith, higher, none))) is_known held
found-first b sure known (Some last) balances ticket found higher none is_known held = let below = found.0 in absurd (omega (arith, below, higher, none))

-- what is found is what the posting of the next handle begins with
pub comes-next : (b : Begun) (sure : Type 0) (known : Known) (last : Option Posting) (p : Posting) → FindsBalances b sure known last p.before → length known.log ≤ p.ticket → ComesAfter last p
comes-next b sure known None p found higher = tt
comes-next b sure known (Some last) p found higher = (let below = found.0 in omega (arith, below, higher), found.1)

-- once one more has stopped, and is posted
pub all-more : (b : Begun) (before after : Type 0) (ps qs : List Posting) (known : Known) (last : Option Posting) (p : Posting) (old new : List Stop) → (after → before) → IsFirstPart ps qs
    → FindsBalances b before known last p.before → StopsOne known p.before p.after old new p.ticket → (number : ℕ) × StandsIn qs (number, p) → All (IsPosted b before ps) old → All (IsPosted b after qs) new
all-more b before after ps qs known last p old new so first found stops stands each =
    let one : IsPosted b after qs (p.ticket, stops.words) = record {
      number = stands.0;
      posting = p;
      stands = stands.1;
      ticket = refl;
      leaves = stops.leaves;
      first = λ none is_known sure. found-first b before known last p.before p.ticket found stops.higher none is_known (so sure);
    } in
    subst (All (IsPosted b after qs)) (sym stops.stopped) (All-push (IsPosted b after qs) old (p.ticket, stops.words) (all-on b before after ps qs so first old each) one)
