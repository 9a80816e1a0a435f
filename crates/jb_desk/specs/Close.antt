-- What closing a desk gives where it is refused.
use Rattle.std.specs.Prelude.{◌≡◌, ◌≢◌}
use Rattle.std.specs.Global.{Vec}
use Rattle.jb_desk.specs.Desks.{desk_id, shape_in}
use Rattle.jb_desk.specs.declared.seat.Left.{Left}
use Rattle.jb_desk.specs.declared.queue_state.QueueState.{QueueState}
use Rattle.jb_book.specs.JournalValue.{JournalAndClock}
use Rattle.jb_book.specs.Marks.{SeesSame}
use Rattle.jb_book.specs.Origin.{Begun}
use Rattle.jb_book.specs.SinceMark.{EndsSeen}
use Rattle.jb_book.specs.declared.sights.Sights.{Sights}
use Rattle.jb_disk.specs.declared.disk.Disk.{Ghosts as Disks}
use Rattle.jb_book.specs.declared.origin.Origin.{Ghosts}
use Rattle.jb_board.specs.declared.place.Place.{Ghosts as Places}
use Rattle.jb_desk.specs.declared.desk.Desk.{Desk}
use Rattle.jb_desk.specs.declared.desk.closing.CloseFault.{CloseFault}
use Rattle.jb_desk.specs.declared.desk.closing.CloseFault.TheVariants.{SeatsOut, TrailsDiffer}

-- the same desk, all that the seats left and what was seen; or a journal that ends as a desk does whose seats are not
-- asked, and entries that are not its trail
abbrev pub IsNotClosed : {D C H : Type 0} {Q : Disks D} {O : Ghosts H} {P : Places H} → Disks D → Begun
    → Desk D C H Q O P → Vec (Left H O P) → Sights D H → CloseFault D C H Q O P → Type 0
IsNotClosed G b desk lefts seen (SeatsOut back kept sights) =
    (desk_id back ≡ desk_id desk) × (shape_in back ≡ shape_in desk) × (kept ≡ lefts) × SeesSame seen sights
IsNotClosed G b desk lefts seen (TrailsDiffer deck clock book) =
    (deck.trail ≢ book.items) × EndsSeen G b deck.disk seen.stops seen.marks

-- the journal and the book of what the locks guarded, which have settled different groups
abbrev pub DiffersAs : {D C H : Type 0} {Q : Disks D} {O : Ghosts H} {P : Places H} → Disks D → Begun
    → QueueState D H Q O P → JournalAndClock D C → Sights D H → CloseFault D C H Q O P → Type 0
DiffersAs G b queue journal seen (SeatsOut back kept sights) = ⊥
DiffersAs G b queue journal seen (TrailsDiffer deck clock book) =
    (deck ≡ journal.deck) × (clock ≡ journal.clock) × (book.items ≡ queue.register.book.trail)
    × (deck.trail ≢ book.items) × EndsSeen G b deck.disk seen.stops seen.marks
