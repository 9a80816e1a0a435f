-- How a book is kept.
use Rattle.std.specs.Prelude.{◌≡◌, ◌+◌, ◌-◌, ◌^◌, ◌≤◌, sum, vec_len, vec_capacity}
use Rattle.std.specs.Ordering.{nat_cmp}
use Rattle.std.specs.BTreeMap.{IsOrdered}
use Rattle.std.specs.Map.{values_of}
use Rattle.jb_deck.specs.Done.{least_after}
use Rattle.jb_book.specs.Account.{Account, IsAccountSound}
use Rattle.jb_book.specs.Origin.{Begun}
use Rattle.jb_book.specs.Origin.{AreStops}
use Rattle.jb_book.specs.declared.book.Book.TheInside.{Inside}

-- the account that a book keeps
abbrev pub account_of : {H : Type 0} → Inside H → Account
account_of b = record {
  shadow =
      record {
        seats = b.seats.entries;
        queue = b.queue.items;
        credits = b.credits.items;
        settled = b.settled;
        taken = b.taken;
        next = b.next;
      };
  shape = b.shape;
  usable = b.usable;
  most = b.most;
  granted = b.granted;
  changes = b.changes;
  trail = b.trail.items;
  shut = b.shut;
  aborted = b.aborted;
}

-- the account is sound, its sums are counted, the trail has room for a group of each handle that may be settled, and
-- the handles in the queue stopped with words that a handle may stop with
pub record IsBookKept {H : Type 0} (begun : Begun) (b : Inside H) : Type 0 where
  pub sound : IsAccountSound (account_of b)
  pub open_sum : b.open_sum ≡ sum (values_of b.seats.entries)
  pub line_sum : b.line_sum ≡ sum b.credits.items
  pub least : b.least ≡ least_after 0 b.trail.items
  pub narrow : b.least ≤ 2 ^ 32
  pub room : vec_len b.trail + (b.next - b.settled) ≤ vec_capacity b.trail
  pub ordered : IsOrdered nat_cmp b.seats
  pub stops : AreStops begun b.queue.items
