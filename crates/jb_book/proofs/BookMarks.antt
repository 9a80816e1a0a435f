-- Marks that show all that a book has settled: each call keeps that.
use Rattle.std.proofs.Common.{◌≡◌, ℕ, true, false, ◌+◌, ◌<◌, List, [], ◌∷◌, ◌++◌, length, All, Option, Some, None, nat_le, if◌then◌else◌, Result, Ok, Err, OnOk, OnErr, inl, inr, ap, sym, subst, ◌∙◌, arith, length-append}
use Rattle.std.proofs.lemmas.List.Elements.{All-append, All-head, All-tail, All-weaker}
use mathlib.Core.List.{IsPrefix}
use Rattle.jb_deck.specs.Deck.{OpenDeck}
use Rattle.jb_deck.specs.Done.{start_of}
use Rattle.jb_deck.specs.declared.done.Entry.{Entry}
use Rattle.jb_handle.specs.Word.{WordMap}
use Rattle.jb_board.proofs.EntryPlaces.{get_last, placed_on}
use Rattle.jb_board.specs.HistoryRule.{StandsIn}
use Rattle.jb_book.specs.Account.{Account, AnswersNumber, IsSettledBy, Settles, settled_to, shortened, trail_from}
use Rattle.jb_handle.specs.declared.shape.Shape.{Shape}
use Rattle.jb_book.specs.Marks.{AreOfBook, AreShown, HasShapeMark, IsMarked, SeesStop, Shows, ShowsAfter}
use Rattle.jb_book.specs.declared.fault.WrongBatch.{WrongBatch}

module _ {D : Type 0} where
  -- what is marked stays so
  pub marked-on : (ms ns : List (OpenDeck D)) → IsPrefix ms ns → (e : Entry) → IsMarked ms e → IsMarked ns e
  marked-on ms ns p e is = record { at = is.at; mark = is.mark; stands = placed_on ms ns p (is.at, is.mark) is.stands; has = is.has }

  pub all-marked-on : (ms ns : List (OpenDeck D)) → IsPrefix ms ns → (es : List Entry) → All (IsMarked ms) es → All (IsMarked ns) es
  all-marked-on ms ns p es each = All-weaker (IsMarked ms) (IsMarked ns) (λ e is. marked-on ms ns p e is) es each

  pub shape-on : (ms ns : List (OpenDeck D)) → IsPrefix ms ns → (shape : Shape) → HasShapeMark ms shape → HasShapeMark ns shape
  shape-on ms ns p shape is = record { at = is.at; mark = is.mark; stands = placed_on ms ns p (is.at, is.mark) is.stands; same = is.same }

  pub book-on : (ms ns : List (OpenDeck D)) → IsPrefix ms ns → (a : Account) → AreOfBook ms a → AreOfBook ns a
  book-on ms ns p a are = record { trail = all-marked-on ms ns p a.trail are.trail; shape = shape-on ms ns p a.shape are.shape }

  -- nothing is settled in a new book, for a journal of a marked shape
  pub none-marked : (ms : List (OpenDeck D)) (a : Account) (shape : Shape) → a.trail ≡ [] → a.shape ≡ shape → HasShapeMark ms shape → AreOfBook ms a
  none-marked ms a shape none same is = record {
    trail = let no : length a.trail ≡ 0 = ap length none in λ k e lt. absurd (omega (arith, lt, no));
    shape = subst (HasShapeMark ms) (sym same) is;
  }

  -- ---- what each call of the book keeps

  -- it becomes one with the same trail
  pub marked-same : (ms : List (OpenDeck D)) (old new : Account) → AreOfBook ms old → (b : Account) → b.trail ≡ old.trail → b.shape ≡ old.shape → new ≡ b → AreOfBook ms new
  marked-same ms old new are b trail shape is =
      subst (AreOfBook ms) (sym is) (record { trail = subst (All (IsMarked ms)) (sym trail) are.trail; shape = subst (HasShapeMark ms) (sym shape) are.shape })

  left-marked : (ms : List (OpenDeck D)) (past : ℕ) (es : List Entry) → All (IsMarked ms) es → All (IsMarked ms) (trail_from past es)
  left-marked ms past [] each = each
  left-marked ms past (e ∷ []) each = each
  left-marked ms past (e ∷ f ∷ es) each =
      elim (nat_le e.past past) as (λ x. All (IsMarked ms) (if x then trail_from past (f ∷ es) else e ∷ f ∷ es)) [
        | true ↦ left-marked ms past (f ∷ es) (All-tail (IsMarked ms) e (f ∷ es) each)
        | false ↦ each
      ]

  pub marked-short : (ms : List (OpenDeck D)) (old new : Account) → AreOfBook ms old → (past : ℕ) → new ≡ shortened past old → AreOfBook ms new
  marked-short ms old new are past is = subst (AreOfBook ms) (sym is) (record { trail = left-marked ms past old.trail are.trail; shape = are.shape })

  -- ---- groups are settled whose mark was seen

  module _ (ms ds ns : List (OpenDeck D)) (old new : Account) (es : List Entry) (are : AreOfBook ms old) (p : IsPrefix ms ns) (q : IsPrefix ds ns) (more : All (IsMarked ds) es) where
    pub marked-settled : (past : ℕ) → new ≡ settled_to past es old → AreOfBook ns new
    marked-settled past is = subst (AreOfBook ns) (sym is) (record {
      trail = All-append (IsMarked ns) old.trail es (all-marked-on ms ns p old.trail are.trail) (all-marked-on ds ns q es more);
      shape = shape-on ms ns p old.shape are.shape;
    })

    pub marked-by : (r : Result (Unit {0}) WrongBatch) → OnOk r ((past : ℕ) × Settles old past es × (new ≡ settled_to past es old)) → OnErr r (new ≡ old) → AreOfBook ns new
    marked-by (Ok unit) ok err = marked-settled ok.0 ok.2
    marked-by (Err wrong) ok err = subst (AreOfBook ns) (sym err) (book-on ms ns p old are)

  -- ---- what the book answers is shown

  by-some : (ms : List (OpenDeck D)) (es : List Entry) (ticket number : ℕ) → All (IsMarked ms) es → IsSettledBy es ticket number → Shows ms ticket number
  by-some ms [] ticket number each is = absurd is
  by-some ms (e ∷ es) ticket number each (inl is) = record { entry = e; marked = All-head (IsMarked ms) e es each; from = is.0; to = is.1; is_number = sym is.2 }
  by-some ms (e ∷ es) ticket number each (inr is) = by-some ms es ticket number (All-tail (IsMarked ms) e es each) is

  by-after : (ms : List (OpenDeck D)) (es : List Entry) (ticket : ℕ) → All (IsMarked ms) es → ticket < start_of es → ShowsAfter ms ticket
  by-after ms [] ticket each before = absurd (omega (arith, before))
  by-after ms (e ∷ es) ticket each before = record { entry = e; marked = All-head (IsMarked ms) e es each; before = before }

  -- of a book whose groups are marked, what it answers of a ticket is shown
  pub shown-by : (ms ns : List (OpenDeck D)) (a : Account) (ticket : ℕ) (number : Option ℕ) → All (IsMarked ms) a.trail → IsPrefix ms ns → AnswersNumber a ticket number → AreShown ns ticket number
  shown-by ms ns a ticket (Some number) each p is = by-some ns a.trail ticket number (all-marked-on ms ns p a.trail each) is
  shown-by ms ns a ticket None each p is = by-after ns a.trail ticket (all-marked-on ms ns p a.trail each) is

-- ---- a stop is seen

-- the history that was seen is a first part of the one before the stop, and the one after it was seen then
pub sees-stop : (old new log more : List WordMap) (words : WordMap) (ticket : ℕ) → IsPrefix old log → more ≡ log ++ words ∷ [] → IsPrefix more new → ticket ≡ length log → IsPrefix old new → SeesStop old new ticket words
sees-stop old new log more words ticket first is seen next begins = record {
  higher = (let many : length old + length first.0 ≡ length log = sym (length-append old first.0) ∙ ap length first.1 in omega (arith, many, next));
  begins = begins;
  stands = placed_on more new seen (ticket, words) (subst (λ (x : List WordMap × ℕ). StandsIn x.0 (x.1, words)) (λ i. (sym is i, sym next i)) (get_last log words));
}
