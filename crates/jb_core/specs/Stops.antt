-- How the line is kept: all handles in one list, and the places where the groups end.
use Rattle.std.specs.Prelude.{◌≡◌, ◌≤◌, nat_lt, ◌&&◌, length, take, drop, vec_len, vec_capacity}
use Rattle.jb_cost.specs.Cut.{RisesTo}
use Rattle.jb_cost.specs.Pieces.{pieces_from}
use Rattle.jb_core.specs.Line.{MachineLine}
use Rattle.jb_core.specs.declared.stops.Stops.TheInside.{Inside}

-- the line of handles that the stops keep: settled, taken and queued ones, with the credits of those that wait
abbrev pub line_of_stops : Inside → MachineLine
line_of_stops s = record {
  settled = pieces_from 0 (take s.settled s.ends.items) s.handles.items;
  taken = pieces_from s.settled_end (drop s.settled s.ends.items) s.handles.items;
  queue = drop s.taken_end s.handles.items;
  credits = drop s.settled_end s.granted.items;
  room = nat_lt (vec_len s.handles) (vec_capacity s.handles) && nat_lt (vec_len s.granted) (vec_capacity s.granted);
}

-- the ends rise, those of the settled groups first, and are within the handles, each of which has its credits
pub record IsInLine (s : Inside) : Type 0 where
  pub counted : s.settled ≤ length s.ends.items
  pub settled : RisesTo s.settled_end 0 (take s.settled s.ends.items)
  pub taken : RisesTo s.taken_end s.settled_end (drop s.settled s.ends.items)
  pub inside : s.taken_end ≤ length s.handles.items
  pub paired : length s.granted.items ≡ length s.handles.items
