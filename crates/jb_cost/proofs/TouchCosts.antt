-- What the last touches say of a queue's handles, and what the handles cost by them.
use Rattle.std.proofs.Common.{◌≡◌, ℕ, ◌+◌, ◌-◌, ◌*◌, ◌^◌, ◌<◌, ◌≤◌, Bool, true, false, cond, not, ◌&&◌, nat_le, List, [], ◌∷◌, ◌++◌, length, take, drop, get_or, slice_range, Option, Some, None, inl, inr, refl, sym, ap, ◌∙◌, arith, length-drop, nat_cmp}
use Rattle.std.specs.Option.{option_map, option_or}
use Rattle.std.specs.BTreeMap.{BTreeMap, get}
use Rattle.std.specs.FinMap as map
use Rattle.std.specs.FinSet as set
use Rattle.std.proofs.lemmas.Bool.{cases_lt, le-leb, lt-leb}
use Rattle.std.proofs.lemmas.List.{take_more, get_or-drop}
use Rattle.jb_handle.specs.declared.word.Word.{Word}
use Rattle.jb_handle.specs.declared.stopped.Stopped.{Stopped}
use Rattle.jb_handle.specs.Size.{IsWithinSize}
use Rattle.jb_handle.specs.Word.{is_copy}
use Rattle.jb_handle.specs.Words.{word, copies, frees}
use Rattle.jb_handle.proofs.TouchedHomes.{is_of, homes_of, word-append, contains-homes_of, copies-homes_of, frees-homes_of}
use Rattle.jb_cost.specs.declared.geometry.Geometry.{Geometry}
use Rattle.jb_cost.specs.declared.owned.Touch.{Touch}
use Rattle.jb_cost.specs.declared.stretch.Stretch.{Stretch}
use Rattle.jb_cost.specs.declared.last_touches.LastTouches.{LastTouches}
use Rattle.jb_cost.specs.Cost.{blocks_of}
use Rattle.jb_cost.specs.Cut.{price, piece_cost}
use Rattle.jb_cost.specs.declared.owned.Owned.{Owned}
use Rattle.jb_cost.specs.LastTouch.{CountsLastTouches, later_touch, left_since, is_since, left_copy, copies_of, frees_of, owned_from, owned_cost}
use Rattle.jb_cost.specs.Starts.{LeastPrice, stretch_at, AreLeast, priced_of}
use Rattle.jb_cost.specs.Spans.{copies_until}
use Rattle.jb_cost.specs.LastTouches.{PartsFit, TellsQueue, homes_owned}
use Rattle.jb_cost.proofs.HandleInFront.{few, len-of_kind}
use Rattle.jb_cost.proofs.Cuts.{places-push}
use Rattle.jb_cost.proofs.PieceCosts.{piece-none, weight-part}
use Rattle.jb_cost.proofs.BestStarts.{least-one, least-as, best-as}

-- a piece that ends one handle later has this handle at its end
pub piece-right : (hs : List Stopped) (h : Stopped) (i n : ℕ) → i ≤ n → n < length hs → h ≡ get_or hs n h → slice_range hs i (n + 1) ≡ slice_range hs i n ++ h ∷ []
piece-right hs h i n before within is =
    let more : n + 1 - i ≡ n - i + 1 = omega arith in
    let at : i + (n - i) ≡ n = omega arith in
    let long : n - i < length (drop i hs) = simp length-drop (omega arith) in
    let here : get_or (drop i hs) (n - i) h ≡ h = get_or-drop i hs (n - i) h ∙ ap (λ k. get_or hs k h) at ∙ sym is in
    ap (λ k. take k (drop i hs)) more ∙ take_more (drop i hs) (n - i) h long ∙ ap (λ x. slice_range hs i n ++ x ∷ []) here

-- one handle more: at a home that it touches, and at another
left-more : (i n : ℕ) (w : Option Word) (before : Option Touch) (found : Option Word) → i ≤ n → left_since i before ≡ option_map is_copy found → left_since i (later_touch n w before) ≡ option_map is_copy (option_or w found)
left-more i n None before found early is = is
left-more i n (Some w) before found early is = rw (le-leb i n early) refl

left-none : (n : ℕ) (w : Option Word) (before : Option Touch) → ((t : Touch) → before ≡ Some t → t.handle < n) → left_since (n + 1) (later_touch n w before) ≡ None
left-none n None None below = refl
left-none n None (Some t) below = rw (lt-leb (n + 1) t.handle (let h = below t refl in omega arith)) refl
left-none n (Some w) before below = rw (lt-leb (n + 1) n (omega arith)) refl

pub follows-more : (hs : List Stopped) (h : Stopped) (n : ℕ) (last next : BTreeMap ℕ Touch) → n < length hs → h ≡ get_or hs n h → ((q : ℕ) (t : Touch) → get nat_cmp last q ≡ Some t → t.handle < n)
    → ((q : ℕ) → get nat_cmp next q ≡ later_touch n (map.get h.words q) (get nat_cmp last q))
    → ((i q : ℕ) → i ≤ n → left_since i (get nat_cmp last q) ≡ option_map is_copy (word (slice_range hs i n) q))
    → (i q : ℕ) → i ≤ n + 1 → left_since i (get nat_cmp next q) ≡ option_map is_copy (word (slice_range hs i (n + 1)) q)
follows-more hs h n last next within is below taken follows i q inside = elim (cases_lt n i) [
  | inl late ↦
      let same : i ≡ n + 1 = omega arith in
      rw same (ap (left_since (n + 1)) (taken q) ∙ left-none n (map.get h.words q) (get nat_cmp last q) (below q) ∙ ap (λ gs. option_map is_copy (word gs q)) (sym (piece-none hs (n + 1))))
  | inr early ↦
      ap (left_since i) (taken q)
      ∙ left-more i n (map.get h.words q) (get nat_cmp last q) (word (slice_range hs i n) q) early (follows i q early)
      ∙ ap (option_map is_copy) (sym (word-append (slice_range hs i n) h q))
      ∙ ap (λ gs. option_map is_copy (word gs q)) (sym (piece-right hs h i n early within is))
]

-- the stretch of one handle more is its own start alone
pub leasts-more : (ps : List (Option ℕ)) (ss : List Stretch) (n : ℕ) (start : Option ℕ) → length ss ≡ n → AreLeast ps ss n → price ps n ≡ start → AreLeast ps (ss ++ record { from = n; least = priced_of n start } ∷ []) (n + 1)
leasts-more ps ss n start long leasts is k below =
    places-push (record { from = 0; least = None }) (λ k (x : Stretch). LeastPrice ps x.from (k + 1) x.least) ss _
    (λ k less. leasts k (omega (arith, less, long))) (rw long (least-one ps n start is)) k (omega (arith, below, long))

is_of-since : (kind : Bool → Bool) (i : ℕ) (t : Option Touch) → is_of kind (left_since i t) ≡ is_of (is_since kind i) t
is_of-since kind i None = refl
is_of-since kind i (Some t) = elim (nat_le i t.handle) as (λ b. is_of kind (cond b (Some t.copy) None) ≡ (b && kind t.copy)) [ true ↦ refl | false ↦ refl ]

of-kind : (kind : Bool → Bool) (w : Option Word) → is_of (λ v. kind (is_copy v)) w ≡ is_of kind (option_map is_copy w)
of-kind kind None = refl
of-kind kind (Some w) = refl

module _ (g : Geometry) (hs : List Stopped) (n : ℕ) (ps : List (Option ℕ)) (t : LastTouches) (sound : PartsFit t) (tells : TellsQueue g hs n ps t) where
  -- the homes of a kind that the handles of a piece leave
  piece-kind : (kind : Bool → Bool) (count : Owned → ℕ) → CountsLastTouches count kind t.owned.items t.last → (i : ℕ) → i ≤ n → set.len (homes_of (λ w. kind (is_copy w)) (slice_range hs i n)) ≡ owned_from count t.owned.items i
  piece-kind kind count counts i inside =
      let hs = slice_range hs i n in
      len-of_kind (is_since kind i) t.last.entries sound.owners.ordered _ (λ q. contains-homes_of _ hs q ∙ of-kind kind (word hs q) ∙ ap (is_of kind) (sym (tells.follows i q inside)) ∙ is_of-since kind i (get nat_cmp t.last q)) ∙ sym (counts i)

  pub copies-piece : (i : ℕ) → i ≤ n → set.len (copies (slice_range hs i n)) ≡ owned_from copies_of t.owned.items i
  copies-piece i inside = ap set.len (sym (copies-homes_of (slice_range hs i n))) ∙ piece-kind left_copy copies_of sound.owners.copies i inside

  pub frees-piece : (i : ℕ) → i ≤ n → set.len (frees (slice_range hs i n)) ≡ owned_from frees_of t.owned.items i
  frees-piece i inside = ap set.len (sym (frees-homes_of (slice_range hs i n))) ∙ piece-kind not frees_of sound.owners.frees i inside

  -- what a piece that ends with the last handle costs
  pub cost-piece : (i : ℕ) → i ≤ n → piece_cost g hs i n ≡ owned_cost g t.owned.items i
  cost-piece i inside = λ k. blocks_of g (copies-piece i inside k) (frees-piece i inside k)

  -- handles within the size own no more homes
  pub homes-few : IsWithinSize hs → homes_owned t ≤ 2 ^ 62
  homes-few size = omega (arith, size, few (slice_range hs 0 n), weight-part hs 0 n (omega arith), copies-piece 0 (omega arith), frees-piece 0 (omega arith))

-- the prices of the starts that were put in are all that counts
pub tells-as : (g : Geometry) (hs : List Stopped) (n : ℕ) (ps qs : List (Option ℕ)) (t : LastTouches) → PartsFit t → ((i : ℕ) → i < n → price qs i ≡ price ps i) → TellsQueue g hs n ps t → TellsQueue g hs n qs t
tells-as g hs n ps qs t sound same tells = record {
  geometry = tells.geometry;
  number = tells.number;
  within = tells.within;
  follows = tells.follows;
  prices = record {
    leasts = λ k below. least-as ps qs (stretch_at t.shortcuts.stretches.items k).from (k + 1) (λ i before. same i (omega (arith, before, below, tells.number))) (stretch_at t.shortcuts.stretches.items k).least (tells.prices.leasts k below);
    bests = λ k s is.
        let span = sound.shortcuts.spans k s is in
        best-as (copies_until t.owned.items (8 * k + 8)) (copies_until t.owned.items (8 * k + 8)) (2 ^ 62) ps qs s.from (8 * k + 8) (λ i above below. refl) (λ i before. same i (omega (arith, before, span.within, tells.number))) s.least (tells.prices.bests k s is);
  };
}
