-- One handle more of a worker.
use Rattle.std.proofs.Common.{◌≡◌, ℕ, suc, ◌+◌, ◌*◌, ◌<◌, ◌≤◌, List, [], ◌∷◌, ◌++◌, length, Some, None, Ok, Err, sym, ap, subst, ◌∙◌, arith}
use Rattle.std.proofs.Math.Nat.{mul-suc}
use Rattle.std.proofs.lemmas.List.{length-append}
use Rattle.jb_handle.specs.declared.shape.Shape.{Shape}
use Rattle.jb_handle.specs.declared.stopped.Stopped.{Stopped}
use Rattle.jb_journal.specs.Notes.{Stop}
use Rattle.jb_tool.specs.Runs.{IsRun, RunsAt, StepsBy, queued_at}
use Rattle.jb_tool.specs.RefusedHandle.{IsRefusedFor}
use Rattle.jb_tool.specs.declared.loading.fault.QueueHandleFault.{QueueHandleFault}

pub length-more : {X : Type 0} (xs : List X) (x : X) → length (xs ++ x ∷ []) ≡ suc (length xs)
length-more xs x = let both = length-append xs (x ∷ []) in omega (arith, both)

-- the next place
pub place-more : (step from : ℕ) (ss : List Stop) (s : Stop) → from + step * length (ss ++ s ∷ []) ≡ from + step * length ss + step
place-more step from ss s = let one = ap (λ n. step * n) (length-more ss s) ∙ mul-suc step (length ss) in omega (arith, one)

pub steps-more : (queue : List Stopped) (step from : ℕ) (ss : List Stop) (s : Stop) → StepsBy queue step from ss → from + step * length ss < length queue → s.1 ≡ (queued_at queue (from + step * length ss)).words → StepsBy queue step from (ss ++ s ∷ [])
steps-more queue step from [] s steps there is =
    let none : from + step * 0 ≡ from = (let z = mul-suc step 0 in omega (arith, z)) in
    (omega (arith, there, none), is ∙ ap (λ n. (queued_at queue n).words) none, tt)
steps-more queue step from (x ∷ xs) s steps there is =
    let one : from + step * suc (length xs) ≡ from + step + step * length xs = (let m = mul-suc step (length xs) in omega (arith, m)) in
    (steps.0, steps.1, steps-more queue step (from + step) xs s steps.2 (omega (arith, there, one)) (is ∙ ap (λ n. (queued_at queue n).words) one))

-- what a worker's loop keeps: the first handles have stopped, up to the next one
pub record Stepped (queue : List Stopped) (step at next : ℕ) (ss : List Stop) : Type 0 where
  pub place : next ≡ at + step * length ss
  pub steps : StepsBy queue step at ss

-- no handle has stopped
pub stepped-none : (queue : List Stopped) (step at : ℕ) (ss : List Stop) → ss ≡ [] → Stepped queue step at at ss
stepped-none queue step at ss none = subst (Stepped queue step at at) (sym none) (record { place = (let z = mul-suc step 0 in omega (arith, z)); steps = tt })

module _ (shape : Shape) (queue : List Stopped) (step at next : ℕ) (ss : List Stop) (stepped : Stepped queue step at next ss) where
  -- no handle is left
  pub ran-all : length queue ≤ next → IsRun shape queue step at ss None
  ran-all none = record { steps = stepped.steps; ends = omega (arith, stepped.place, none); why = tt }

  module _ (there : next < length queue) (n : ℕ) (is : n ≡ next) (ts : List Stop) where
    -- the next handle stopped
    pub stepped-more : (ticket : ℕ) → RunsAt shape queue n ss ts (Ok ticket) → Stepped queue step at (next + step) ts
    stepped-more ticket more =
        let s : Stop = (ticket, (queued_at queue n).words) in
        subst (Stepped queue step at (next + step)) (sym more) (
        record {
          place = omega (arith, stepped.place, place-more step at ss s);
          steps = steps-more queue step at ss s stepped.steps (omega (arith, there, stepped.place)) (ap (λ k. (queued_at queue k).words) (is ∙ stepped.place));
        })

    -- the next handle was refused
    pub ran-until : (fault : QueueHandleFault) → RunsAt shape queue n ss ts (Err fault) → IsRun shape queue step at ts (Some (record { handle = next; fault = fault }))
    ran-until fault refused = record {
      steps = subst (StepsBy queue step at) (sym refused.0) stepped.steps;
      ends = (subst (λ (x : List Stop). next ≡ at + step * length x) (sym refused.0) stepped.place, omega (arith, stepped.place, there, ap (λ (x : List Stop). step * length x) refused.0));
      why = subst (λ k. IsRefusedFor shape (queued_at queue k).words fault) is refused.1;
    }
