-- Groups that join the settled ones.
use Rattle.std.proofs.Common.{◌≡◌, ℕ, ◌≤◌, ◌++◌, length, drop, take, sym, ap, ◌∙◌}
use Rattle.std.proofs.lemmas.List.{append_assoc, take-append-drop, drop-append-le}
use Rattle.jb_cost.specs.Pieces.{joined}
use Rattle.jb_cost.proofs.ListPieces.{joined-append}
use Rattle.jb_core.specs.Lives.{settled_now}
use Rattle.jb_core.specs.Machine.{Machine}

module _ (m : Machine) (lives : m.earlier ≤ length m.settled) (n : ℕ) where
  -- those of the current life with the first n taken groups
  pub more-settled : joined (drop m.earlier (m.settled ++ take n m.taken)) ≡ settled_now m ++ joined (take n m.taken)
  more-settled = ap joined (drop-append-le m.earlier m.settled (take n m.taken) lives) ∙ joined-append (drop m.earlier m.settled) (take n m.taken)

  pub parts-joined : (settled_now m ++ joined (take n m.taken)) ++ (joined (drop n m.taken) ++ m.queue) ≡ settled_now m ++ (joined m.taken ++ m.queue)
  parts-joined =
      append_assoc (settled_now m) (joined (take n m.taken)) (joined (drop n m.taken) ++ m.queue)
      ∙ ap (λ xs. settled_now m ++ xs) (sym (append_assoc (joined (take n m.taken)) (joined (drop n m.taken)) m.queue)
      ∙ ap (λ xs. xs ++ m.queue) (sym (joined-append (take n m.taken) (drop n m.taken)) ∙ ap joined (take-append-drop n m.taken)))
