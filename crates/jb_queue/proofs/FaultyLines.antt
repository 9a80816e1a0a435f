-- The first wrong line of a handle is the one at which reading ends.
use Rattle.std.proofs.Common.{subst, ◌≡◌, ◌⊎◌, ◌∙◌, sym, ap, ℕ, ◌==◌, true, false, cond, if◌then◌else◌, List, [], ◌∷◌, ◌++◌, fold, refl, arith, inl, inr, Some, None, Ok, Err, ◌+◌, length, Result, codes, MatchResult, eqb-true}
use Rattle.std.specs.Option.{option_or}
use Rattle.std.specs.List.{AllZip}
use Rattle.std.proofs.lemmas.Result.{MatchResult-at_ok, MatchResult-weaker, MatchResult-at_err}
use Rattle.std.specs.Ordering.{nat_cmp, eq_by_cmp}
use Rattle.std.specs.Cmp.{nat_cmp_total}
use Rattle.std.specs.FinMap.{nat_cmp-IsAntisymmetric}
use Rattle.std.proofs.lemmas.Bool.Decides.{nat_tests}
use Rattle.std.proofs.lemmas.Slice.Zip.{AllZip-long}
use Rattle.jb_queue.specs.declared.fault.Cause.{Cause}
use Rattle.jb_queue.specs.declared.fault.Cause.TheVariants.{HandleLine, OpWord, DataWord}
use Rattle.jb_text.specs.Parts.{words, spaced}
use Rattle.jb_queue.specs.Queue.{op_of, after_ops, behind_h, handle_of, after_lines}
use Rattle.jb_queue.specs.Grammar.{HomeWord, SpellsOp, SpellsHandle, last_op}
use Rattle.jb_handle.specs.Word.{WordMap}
use Rattle.jb_handle.proofs.Options.{or-assoc, or-nothing}
use Rattle.jb_text.proofs.Grammar.{spaced-words}
use Rattle.jb_text.proofs.Joins.{Without, words-spaced}
use Rattle.jb_text.proofs.ReadSteps.{if-says, wrong-is}
use Rattle.jb_queue.specs.Faults.{HasWrongWord, FirstWrongWord, IsNoHandle, IsWrongLine, FirstWrongLine}
use Rattle.jb_queue.specs.declared.fault.QueueFault.{QueueFault}
use Rattle.jb_queue.proofs.Walks.{each-map, each-all, walk-goes, walk-says, walk-fails}
use Rattle.jb_queue.proofs.Ops.{put_op, ops-walk}
use Rattle.jb_queue.proofs.FaultyOps.{ops-fault, ops-wrong, op-is, op-from, op-clear, space-delimits}
use Rattle.jb_queue.proofs.Weights.{put_handle, put-length, lines-walk}
use Rattle.std.specs.FinMap as map

-- ---- A handle's line is read exactly where it spells its words, and else something is wrong with it

-- what a map has after an op, and after all
insert-last : (had : WordMap) (op : HomeWord) (b : ℕ) → map.get (map.insert had op.0 op.1) b ≡ option_or (if op.0 == b then Some op.1 else None) (map.get had b)
insert-last had op b =
    let order : eq_by_cmp nat_cmp b op.0 ≡ (op.0 == b) = grind (arith, nat_tests) in
    map.get-insert nat_cmp_total had op.0 op.1 b ∙ ap (λ test. cond test (Some op.1) (map.get had b)) order
    ∙ elim (op.0 == b) as (λ test. cond test (Some op.1) (map.get had b) ≡ option_or (if test then Some op.1 else None) (map.get had b)) [ true ↦ refl | false ↦ refl ]

-- what a map has after all is known by the last op on each block
put-last : (had : WordMap) (ops : List HomeWord) (b : ℕ) → map.get (fold put_op had ops) b ≡ option_or (last_op ops b) (map.get had b)
put-last had [] b = refl
put-last had (op ∷ ops) b =
    put-last (put_op had op) ops b ∙ ap (option_or (last_op ops b)) (insert-last had op b)
    ∙ or-assoc (last_op ops b) (if op.0 == b then Some op.1 else None) (map.get had b)

ops-left : (ops : List HomeWord) (b : ℕ) → map.get (fold put_op map.empty ops) b ≡ last_op ops b
ops-left ops b = put-last map.empty ops b ∙ ap (option_or (last_op ops b)) (map.get-empty nat_cmp b) ∙ or-nothing (last_op ops b)

-- the line of a handle, and what is wrong with another
abbrev pub IsFaultyLine : ℕ → List ℕ → Cause → Type 0
IsFaultyLine size line cause = (cause ≡ HandleLine) ⊎ HasWrongWord size line cause

behind-says : (size : ℕ) (rest : List ℕ) → MatchResult (after_ops size map.empty (words rest)) (SpellsHandle size (104 ∷ 32 ∷ rest)) (IsFaultyLine size (104 ∷ 32 ∷ rest))
behind-says size rest =
    MatchResult-weaker (after_ops size map.empty (words rest)) (walk-says (ops-walk size) map.empty (words rest))
    (λ now reads. record {
      texts = words rest;
      ops = reads.0.ys;
      spelled = ap (λ bs. 104 ∷ bs) (sym (spaced-words rest));
      each = each-map (λ text op. op_of size text ≡ Ok op) (SpellsOp size) (op-is size) (words rest) reads.0.ys reads.0.each;
      left = λ b. ap (λ m. map.get m b) (sym reads.1) ∙ ops-left reads.0.ys b;
    })
    (λ cause stops. inr (record { rest = rest; handle = refl; first = subst (FirstWrongWord size (words rest)) stops.1 (ops-fault size (words rest) stops.0) }))

pub handle-says : (size : ℕ) (line : List ℕ) → MatchResult (handle_of size line) (SpellsHandle size line) (IsFaultyLine size line)
handle-says size [] = inl refl
handle-says size (b ∷ []) =
    if-says _ _ (b == 104) (Ok map.empty) (Err HandleLine)
    (λ h. record { texts = []; ops = []; spelled = ap (λ first. first ∷ []) (eqb-true b 104 h); each = tt; left = map.get-empty nat_cmp })
    (λ _. inl refl)
handle-says size (b ∷ c ∷ rest) =
    if-says _ _ (b == 104) (behind_h size (c ∷ rest)) (Err HandleLine)
    (λ h. if-says _ _ (c == 32) (after_ops size map.empty (words rest)) (Err HandleLine)
    (λ space. rw (eqb-true b 104 h, eqb-true c 32 space) (behind-says size rest))
    (λ _. inl refl))
    (λ _. inl refl)

pub handle-is : (size : ℕ) (line : List ℕ) (now : WordMap) → handle_of size line ≡ Ok now → SpellsHandle size line now
handle-is size line now is = MatchResult-at_ok (SpellsHandle size line) (IsFaultyLine size line) now is (handle-says size line)

-- and back
same-words : (ops : List HomeWord) (now : WordMap) → ((b : ℕ) → map.get now b ≡ last_op ops b) → fold put_op map.empty ops ≡ now
same-words ops now left = map.same_map nat_cmp_total nat_cmp-IsAntisymmetric (fold put_op map.empty ops) now (λ b. ops-left ops b ∙ sym (left b))

pub handle-from : (size : ℕ) (line : List ℕ) (now : WordMap) → SpellsHandle size line now → handle_of size line ≡ Ok now
handle-from size line now spells = ap (handle_of size) spells.spelled ∙ from spells.texts spells.ops spells.each ∙ ap Ok (same-words spells.ops now spells.left)
  where
    from : (texts : List (List ℕ)) (ops : List HomeWord) → AllZip (SpellsOp size) texts ops → handle_of size (codes "h" ++ spaced texts) ≡ Ok (fold put_op map.empty ops)
    from [] [] each = refl
    from [] (op ∷ ops) each = absurd each
    from (text ∷ texts) ops each =
        ap (after_ops size map.empty) (words-spaced text texts (each-all (SpellsOp size) (Without 32) (op-clear size 32 space-delimits) (text ∷ texts) ops each))
        ∙ walk-goes (ops-walk size) map.empty (text ∷ texts) ops (each-map (SpellsOp size) (λ word op. op_of size word ≡ Ok op) (op-from size) (text ∷ texts) ops each)

-- ---- the first wrong line of a handle is the one at which reading ends

-- what is wrong with the words of a line is not that it is no handle's
words_clear : (size : ℕ) (texts : List (List ℕ)) → FirstWrongWord size texts HandleLine → ⊥
words_clear size texts first = elim first.wrong [
  | inl none ↦ let never : HandleLine ≡ OpWord = none.0 in cc
  | inr none ↦ let never : HandleLine ≡ DataWord = none.0 in cc
]

no-handle : (size : ℕ) (line : List ℕ) → handle_of size line ≡ Err HandleLine → IsNoHandle line
no-handle size line is = record {
  alone = λ same. let never : ◌≡◌ {A = Result WordMap Cause} (Ok map.empty) (Err HandleLine) = ap (handle_of size) (sym same) ∙ is in cc;
  words = λ rest same. let stops = MatchResult-at_err _ _ HandleLine (ap (handle_of size) (sym same) ∙ is) (walk-says (ops-walk size) map.empty (words rest)) in
      words_clear size (words rest) (subst (FirstWrongWord size (words rest)) stops.1 (ops-fault size (words rest) stops.0));
}

handle-fault : (size : ℕ) (line : List ℕ) (cause : Cause) → handle_of size line ≡ Err cause → IsWrongLine size line cause
handle-fault size line cause is = elim (MatchResult-at_err (SpellsHandle size line) (IsFaultyLine size line) cause is (handle-says size line)) [
  | inl same ↦ inl (same, no-handle size line (is ∙ ap Err same))
  | inr has ↦ inr has
]

-- and back
no-handle-spelled : (line : List ℕ) (texts : List (List ℕ)) → line ≡ codes "h" ++ spaced texts → IsNoHandle line → ⊥
no-handle-spelled line [] spelled none = none.alone spelled
no-handle-spelled line (text ∷ texts) spelled none = none.words (text ++ spaced texts) spelled

no-handle-wrong : (size : ℕ) (line : List ℕ) → IsNoHandle line → handle_of size line ≡ Err HandleLine
no-handle-wrong size line none = wrong-is (handle_of size line) HandleLine (handle-says size line) (λ now spells. no-handle-spelled line spells.texts spells.spelled none) (λ cause no. elim no [
  | inl same ↦ same
  | inr has ↦ absurd (none.words has.rest has.handle)
])

handle-wrong : (size : ℕ) (line : List ℕ) (cause : Cause) → IsWrongLine size line cause → handle_of size line ≡ Err cause
handle-wrong size line cause wrong = elim wrong [
  | inl none ↦ no-handle-wrong size line none.1 ∙ ap Err (sym none.0)
  | inr has ↦ ap (handle_of size) has.handle ∙ ops-wrong size map.empty (words has.rest) cause has.first
]

-- the lines of the handles
pub lines-fault : (size : ℕ) (left : List (List ℕ)) (fault : QueueFault) → after_lines size [] left ≡ Err fault → FirstWrongLine size 3 left fault
lines-fault size left fault fails =
    let stops = MatchResult-at_err _ _ fault fails (walk-says (lines-walk size) [] left) in
    let number = AllZip-long (λ line words. handle_of size line ≡ Ok words) stops.0.earlier stops.0.ys stops.0.each in
    record {
      earlier = stops.0.earlier;
      handles = stops.0.ys;
      line = stops.0.item;
      later = stops.0.later;
      parts = stops.0.parts;
      each = each-map (λ line words. handle_of size line ≡ Ok words) (SpellsHandle size) (handle-is size) stops.0.earlier stops.0.ys stops.0.each;
      at = omega (arith, number, put-length [] stops.0.ys, ap (λ (f : QueueFault). f.line) stops.1);
      wrong = handle-fault size stops.0.item fault.cause (stops.0.wrong ∙ ap (λ (f : QueueFault). Err f.cause) stops.1);
    }

pub lines-wrong : (size : ℕ) (left : List (List ℕ)) (fault : QueueFault) → FirstWrongLine size 3 left fault → after_lines size [] left ≡ Err fault
lines-wrong size left fault first =
    let reads = each-map (SpellsHandle size) (λ line words. handle_of size line ≡ Ok words) (handle-from size) first.earlier first.handles first.each in
    let number = AllZip-long (SpellsHandle size) first.earlier first.handles first.each in
    let here : length (fold put_handle [] first.handles) + 3 ≡ fault.line = omega (arith, first.at, number, put-length [] first.handles) in
    ap (after_lines size []) first.parts
    ∙ walk-fails (lines-walk size) [] first.earlier first.handles first.line first.later fault.cause reads (handle-wrong size first.line fault.cause first.wrong)
    ∙ ap (λ n. Err (record { line = n; cause = fault.cause })) here
