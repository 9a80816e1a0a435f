-- The open handles as a finite map from seats.
use Rattle.std.proofs.Common.{◌≡◌, ◌≢◌, ℕ, false, ◌==◌, ◌∙◌, arith}
use Rattle.std.proofs.lemmas.Bool.Decides.{nat_tests}
use Rattle.std.specs.Cmp.{unsigned_tied}
use Rattle.jb_handle.specs.HeldChanges.{Held}
use Rattle.jb_core.specs.Lives.{is_seat}
use Rattle.jb_core.specs.SeatLaw.{AreMap, SeatsAreMap}
use Rattle.jb_core.proofs.Seats.{set-same, set-other, change-same, change-other, drop-same, drop-other}
use Rattle.jb_core.proofs.WholeLives.{once-ran}

apart : (a b : ℕ) → a ≢ b → is_seat a b ≡ false
apart a b other = unsigned_tied a b ∙ (let test : (a == b) ≡ false = grind (arith, nat_tests, other) in test)

are-map : (V : Type 0) → AreMap V
are-map V = record {
  set_same = λ es seat v. set-same seat v es;
  set_other = λ es seat other v away. set-other seat v other es (apart other seat away);
  change_same = λ es seat v. change-same seat v es;
  change_other = λ es seat other v away. change-other seat v other es (apart other seat away);
  drop_same = λ es seat once. drop-same seat es once;
  drop_other = λ es seat other away. drop-other seat other es (apart other seat away);
}

pub seats_are_map : SeatsAreMap
seats_are_map = record { handles = are-map Held; credits = are-map ℕ; once = once-ran }
