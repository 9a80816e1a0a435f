use Rattle.std.proofs.Common.{◌≡◌, ℕ, map as map_list, drop}
use Rattle.std.specs.FinMap as map
use Rattle.jb_handle.specs.declared.word.Word.{Word}
use Rattle.jb_image.specs.Images.{own_home}
use Rattle.jb_tool.proofs.own_homes.own_of.Given as goal

-- those that are left have the same first one
abbrev pub invariant-loop-home : goal.invariant-loop-home
invariant-loop-home g l = own_home l.disk (map_list (λ (e : ℕ × Word). e.0) (drop l.home-index l.home-items)) ≡ own_home l.disk (map.keys l.words)
