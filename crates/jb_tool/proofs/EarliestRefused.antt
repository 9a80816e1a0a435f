-- One worker more.
use Rattle.std.proofs.Common.{◌≡◌, List, [], ◌∷◌, ◌++◌, Option, refl}
use Rattle.jb_tool.specs.FirstRefused.{earlier_refused, first_after}
use Rattle.jb_tool.specs.declared.loading.loaded.Refused.{Refused}

-- the earliest of the refused handles, where one worker more has answered
pub first-more : (had : Option Refused) (answers : List (Option Refused)) (refused : Option Refused) → first_after had (answers ++ refused ∷ []) ≡ earlier_refused (first_after had answers) refused
first-more had [] refused = refl
first-more had (one ∷ answers) refused = first-more (earlier_refused had one) answers refused
