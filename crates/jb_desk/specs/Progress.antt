-- How far a book has come.
use Rattle.std.specs.Prelude.{◌≡◌, false, IfSome, IfNone}
use Rattle.jb_book.specs.Account.{Account, IsOver}
use Rattle.jb_desk.specs.declared.queue_state.progress.Progress.{Progress}

-- what is settled, that nothing more can happen where that is so, and whether the journal has failed
pub record HasCome (a : Account) (p : Progress) : Type 0 where
  pub settled : p.settled ≡ a.shadow.settled
  pub over : IfSome p.over (λ o. IsOver a × (a.aborted ≡ false) × (o.settled ≡ a.shadow.settled))
  pub not_over : IfNone p.over (IsOver a → a.aborted ≡ false → ⊥)
  pub aborted : p.is_aborted ≡ a.aborted
