use Rattle.std.proofs.Common.{◌-◌, length}
use Rattle.jb_handle.proofs.PayloadFront.{filled-bytes}
use Rattle.jb_handle.proofs.payload.Payload.holds_bytes.Goals as goal

pub returns : goal.returns
returns c = rw (← c.self.view_is) (filled-bytes (c.self.inside.len - length c.self.inside.bytes.items) c.self.inside.bytes.items (rw c.deref.ensures.value at c.are_bytes.ensures))
