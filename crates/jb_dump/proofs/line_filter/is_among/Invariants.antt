use Rattle.std.proofs.Common.{◌≡◌, drop, map, nat_eq}
use Rattle.std.specs.List.{list_any}
use Rattle.jb_dump.specs.Lines.{home_in}
use Rattle.jb_dump.proofs.line_filter.is_among.Given as goal

-- the home is among the copies that are not looked at yet, or among none
abbrev pub invariant-loop-copy : goal.invariant-loop-copy
invariant-loop-copy l = list_any (λ h. nat_eq h l.home) (map home_in (drop l.copy-index l.copies)) ≡ list_any (λ h. nat_eq h l.home) (map home_in l.copies)
