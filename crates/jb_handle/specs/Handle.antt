-- What contracts see of an open handle: its seat, and its changes.
use Rattle.jb_handle.specs.declared.handle.Handle.{Handle}
use Rattle.jb_handle.specs.HeldChanges.{Held}

-- the seat that a handle was made for
abbrev pub holder : {S : Type 0} → Handle S → S
holder h = h.seat

-- what a handle holds
abbrev pub changes_of : {S : Type 0} → Handle S → Held
changes_of h = h.changes
