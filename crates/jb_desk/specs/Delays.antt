-- When a committer puts a round off.
use Rattle.std.specs.Prelude.{◌≡◌, ℕ, ◌-◌, ◌<◌, Bool, false}
use Rattle.jb_book.specs.Account.{Account}

-- some handles wait to be committed, and fewer than are wanted; none waits for room, and the book is neither shut nor
-- has it failed
pub record IsPutOff (a : Account) (wanted : ℕ) (is_room_wanted : Bool) : Type 0 where
  pub some : 0 < a.shadow.next - a.shadow.taken
  pub few : a.shadow.next - a.shadow.taken < wanted
  pub room : is_room_wanted ≡ false
  pub given : a.shut ≡ false
  pub running : a.aborted ≡ false
