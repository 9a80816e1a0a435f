use Rattle.std.proofs.Common.{◌≡◌, ◌++◌, map, take}
use Rattle.jb_commands.specs.Cat.{shown_as}
use Rattle.jb_commands.proofs.streams.catting.put_shown.Given as goal

abbrev pub invariant-loop-byte : goal.invariant-loop-byte
invariant-loop-byte l = l.text.items ≡ l.fn.text.items ++ map shown_as (take l.byte-index l.row)
