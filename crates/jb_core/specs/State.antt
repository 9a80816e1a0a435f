-- How the machine is kept.
use Rattle.std.specs.Prelude.{◌≡◌}
use Rattle.std.specs.Ordering.{nat_cmp}
use Rattle.std.specs.BTreeMap.{IsOrdered}
use Rattle.jb_core.specs.Machine.{Machine, reserved}
use Rattle.jb_core.specs.Sound.{IsMachineSound}
use Rattle.jb_core.specs.declared.state.State.TheInside.{Inside}

-- the machine that a state keeps
abbrev pub machine_of : Inside → Machine
machine_of s = record {
  shape = s.shape;
  geometry = s.geometry;
  most = s.most;
  up = s.up;
  handles = s.handles.entries;
  queue = s.stops.queue;
  taken = s.stops.taken;
  settled = s.stops.settled;
  earlier = s.earlier;
  checkpointed = s.checkpointed;
  next = s.next;
  credits = s.stops.credits;
}

-- the machine is sound, and what is reserved is counted
pub record IsMachineKept (s : Inside) : Type 0 where
  pub sound : IsMachineSound (machine_of s)
  pub counted : s.reserved ≡ reserved (machine_of s)
  pub ordered : IsOrdered nat_cmp s.handles
