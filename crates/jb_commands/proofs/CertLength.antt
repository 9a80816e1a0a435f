-- How long the text of a best certificate is: at most nine times as long as that of its queue.
use Rattle.std.proofs.Common.{◌≡◌, ℕ, ◌+◌, ◌*◌, ◌≤◌, List, [], ◌∷◌, ◌++◌, length, refl, ap, arith, Option, option_map, Some, None, Result, Ok, Err, codes, decimal, length-append, suc, take, ◌<◌, map, sym}
use Rattle.std.proofs.lemmas.Fmt.{length-decimal-le}
use Rattle.std.proofs.lemmas.List.Sums.{sum_by-cons}
use Rattle.std.proofs.lemmas.Result.{MatchResult-at_ok}
use Rattle.std.specs.FinMap as map_of
use Rattle.std.specs.List.{AllZip}
use Rattle.jb_block.specs.Size.{bytes_of}
use Rattle.jb_text.specs.Parts.{lines, spaced}
use Rattle.jb_handle.specs.Size.{weight}
use Rattle.jb_handle.specs.declared.stopped.Stopped.{Stopped}
use Rattle.jb_queue.specs.Queue.{Queue, queue_of}
use Rattle.jb_queue.specs.Grammar.{SpellsHandle}
use Rattle.jb_queue.proofs.FaultyLines.{handle-from}
use Rattle.jb_queue.proofs.SpelledText.{SpellsLines, read-says}
use Rattle.jb_queue.proofs.Weights.{handle-weight, lines-total, total as text_total}
use Rattle.jb_queue.specs.declared.fault.QueueFault.{QueueFault}
use Rattle.jb_args.specs.declared.hint.Hint.{Hint}
use Rattle.jb_cost.specs.Cut.{IsCut, IsPrice, RisesTo, piece_cost, price, total, total_from}
use Rattle.jb_cost.specs.declared.geometry.Geometry.{Geometry}
use Rattle.jb_cost.proofs.Cuts.{rises-le}
use Rattle.jb_cost.proofs.HandleInFront.{few}
use Rattle.jb_cost.proofs.PieceCosts.{piece-within, weight-take}
use Rattle.jb_price.specs.Certificate.{answer_lines, cert_text, price_text, prices_line}
use Rattle.jb_price.specs.Verdict.{IsRight}
use Rattle.jb_price.specs.declared.certificate.Cert.{Cert}
use Rattle.jb_price.specs.declared.certificate.CertAnswer.{CertAnswer}
use Rattle.jb_price.specs.declared.certificate.CertAnswer.TheVariants.{Cut, NoCut}
use Rattle.jb_commands.specs.QueueFaults.{cause_told, fault_line, queue_fault}
use Rattle.jb_commands.specs.Limits.{PlansAreReadable, PlansAreWithin}
use Rattle.jb_commands.specs.Plan.{IsBestCert, IsBestCertOf, SaysPlan}
use Rattle.jb_args.specs.declared.settings.AnswerForm.TheVariants.{Text}
use Rattle.jb_commands.specs.AnswerSaid.{Said}

-- handles weigh at most half as much as their lines are long
handles-light : (size : ℕ) (left : List (List ℕ)) (handles : List Stopped) → AllZip (λ line handle. SpellsHandle size line handle.words) left handles → 2 * weight handles ≤ text_total left
handles-light size [] [] each = omega arith
handles-light size (line ∷ more) (h ∷ hs) each =
    let sums : weight (h ∷ hs) ≡ map_of.len h.words + 1 + weight hs = sum_by-cons (λ (h : Stopped). map_of.len h.words + 1) h hs in
    omega (arith, sums, handle-weight size line h.words (handle-from size line h.words each.0), handles-light size more hs each.1)
handles-light size left handles each = absurd each

-- twice a queue's weight, and ten bytes, are within its text
queue-light : (text : List ℕ) (queue : Queue) → queue_of text ≡ Ok queue → 2 * weight queue.handles + 10 ≤ length text
queue-light text queue reads =
    let says : SpellsLines (lines text) queue = MatchResult-at_ok _ _ queue reads (read-says (lines text)) in
    let all = simp length-append at (ap text_total says.parts) in
    omega (arith, all, lines-total text, handles-light (bytes_of queue.size) says.more queue.handles says.each)

-- a number below 10^8 has at most 8 digits
digits : (k : ℕ) → k < 100000000 → length (decimal k) ≤ 8
digits k small = length-decimal-le 8 k (omega arith) small (omega (arith, small))

-- numbers with a space before each
numbers-long : (n a : ℕ) (bs : List ℕ) → n < 100000000 → RisesTo n a bs → length (spaced (map decimal bs)) + 9 * a ≤ 9 * n
numbers-long n a [] small rises = omega (arith, rises)
numbers-long n a (b ∷ bs) small rises =
    let rest = numbers-long n b bs small rises.1 in
    let here = digits b (omega (arith, small, rises-le n b bs rises.1)) in
    simp length-append (omega (arith, rest, here, rises.0))

-- prices with a space before each
prices-long : (ps : List (Option ℕ)) → ((i : ℕ) → i < length ps → length (price_text (price ps i)) ≤ 8) → length (spaced (map price_text ps)) ≤ 9 * length ps
prices-long [] each = omega arith
prices-long (p ∷ ps) each =
    let rest = prices-long ps (λ i below. each (suc i) (omega arith)) in
    let here = each 0 (omega arith) in
    simp length-append (omega (arith, rest, here))

module _ (g : Geometry) (hs : List Stopped) where
  -- the groups of a cut cost at most twice what their handles weigh
  total-light : (n a : ℕ) (bs : List ℕ) → n ≤ length hs → RisesTo n a bs → total_from (piece_cost g hs) a bs + 2 * weight (take a hs) ≤ 2 * weight (take n hs)
  total-light n a [] within rises = let same = ap (λ k. weight (take k hs)) rises in omega (arith, same)
  total-light n a (b ∷ bs) within rises =
      let rest = total-light n b bs within rises.1 in
      let one = piece-within g hs a b rises.0 (omega (arith, within, rises-le n b bs rises.1)) in
      omega (arith, rest, one)

  -- so a price is at most that
  price-light : (limit n i p : ℕ) → n ≤ length hs → i ≤ n → IsPrice (piece_cost g hs) limit i (Some p) → p ≤ 2 * weight hs
  price-light limit n i p within below (([], fitting, sum), least) = absurd fitting.cut
  price-light limit n i p within below ((a ∷ bs, fitting, sum), least) =
      let light = total-light i a bs (omega (arith, within, below)) fitting.cut.1 in
      omega (arith, light, sum, weight-take hs i)

  module _ (limit : ℕ) (cert : Cert) (best : IsBestCert (piece_cost g hs) limit (length hs) cert) (small : 2 * weight hs < 100000000) where
    few-enough : length hs < 100000000
    few-enough = omega (arith, small, few hs)

    price-long : (price : Option ℕ) (i : ℕ) → i ≤ length hs → IsPrice (piece_cost g hs) limit i price → length (price_text price) ≤ 8
    price-long None i within is = omega arith
    price-long (Some p) i within is = digits p (omega (arith, small, price-light limit (length hs) i p (omega arith) within is))

    line-long : length (prices_line cert.prices.items) ≤ 9 * length hs + 16
    line-long =
        let each = prices-long cert.prices.items (λ i below. price-long (price cert.prices.items i) i (omega (arith, below, best.prices.number)) (best.prices.each i (omega (arith, below, best.prices.number)))) in
        simp length-append (omega (arith, each, best.prices.number))

    sum-light : (bounds : List ℕ) (sum : ℕ) → IsCut (length hs) bounds → total (piece_cost g hs) bounds ≡ sum → sum ≤ 2 * weight hs
    sum-light [] sum cut is = absurd cut
    sum-light (a ∷ bs) sum cut is =
        let light = total-light (length hs) a bs (omega arith) cut.1 in
        omega (arith, light, is, weight-take hs (length hs))

    cut-long : (bounds : List ℕ) (sum : ℕ) → IsCut (length hs) bounds → length (decimal sum) ≤ 8 → length (codes "cut" ++ (spaced (map decimal bounds) ++ (codes "\ntotal " ++ (decimal sum ++ codes "\n")))) ≤ 9 * length hs + 28
    cut-long [] sum cut short = absurd cut
    cut-long (a ∷ bs) sum cut short =
        let rest = numbers-long (length hs) a bs few-enough cut.1 in
        let here = digits a (omega (arith, few-enough, rises-le (length hs) a bs cut.1)) in
        simp length-append (omega (arith, rest, here, short, cut.0))

    answer-long : (answer : CertAnswer) → IsRight (piece_cost g hs) limit (length hs) answer → length (answer_lines answer) ≤ 9 * length hs + 28
    answer-long NoCut right = omega arith
    answer-long (Cut bounds sum) right = cut-long bounds.items sum right.0.fitting.cut (digits sum (omega (arith, small, sum-light bounds.items sum right.0.fitting.cut right.1)))

    -- the certificate's text
    cert-long : length (cert_text cert) ≤ 18 * length hs + 44
    cert-long = omega (arith, line-long, answer-long cert.answer best.right, length-append (prices_line cert.prices.items) (answer_lines cert.answer))

-- and that of the best certificate of a queue, where its text has less than 10^8 bytes
best-long : (text : List ℕ) (q : Queue) (cert : Cert) → length text < 100000000 → queue_of text ≡ Ok q → IsBestCertOf q cert → length (cert_text cert) ≤ 9 * length text
best-long text q cert small reads best =
    let light = queue-light text q reads in
    let few' = few q.handles in
    let long = cert-long best.0 q.handles q.limit cert best.2 (omega (arith, small, light)) in
    omega (arith, long, light, few')

-- a fault has no words for standard output
fault-silent : (fault : QueueFault) (words : Said) → queue_fault Text fault ≡ Some words → length words.out ≡ 0
fault-silent fault words is = from (cause_told fault.cause) is
  where
    from : (told : Option (List ℕ × Hint)) → option_map (fault_line Text fault.line) told ≡ Some words → length words.out ≡ 0
    from None gives = cc
    from (Some told) gives =
        let same : fault_line Text fault.line told ≡ words = cc in
        ap (λ (w : Said). length w.out) (sym same)

-- what `jb plan` says of a text
said-long : (text : List ℕ) (read : Result Queue QueueFault) (words : Said) → length text < 100000000 → queue_of text ≡ read → SaysPlan Text read words → length words.out ≤ 9 * length text
said-long text (Ok q) words small reads (cert, best, says) =
    let same = ap (λ (w : Said). length w.out) says in
    omega (arith, same, best-long text q cert small reads best)
said-long text (Err fault) words small reads says = omega (arith, fault-silent fault words says)

pub plans-within : PlansAreWithin
plans-within text words within says = said-long text (queue_of text) words (omega (arith, within)) refl says

pub plans-readable : PlansAreReadable
plans-readable text words within says = let nine = plans-within text words within says in omega (arith, nine, within)
