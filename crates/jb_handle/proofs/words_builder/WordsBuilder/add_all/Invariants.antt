use Rattle.std.proofs.Common.{◌≡◌, ℕ, take, nat_cmp}
use Rattle.std.specs.Option.{option_or}
use Rattle.std.specs.FinMap as map
use Rattle.jb_handle.proofs.words_builder.WordsBuilder.add_all.Given as goal

-- the words so far stand where there was none before
abbrev pub invariant-loop-home : goal.invariant-loop-home
invariant-loop-home l = (q : ℕ) → map.get l.self q ≡ option_or (map.get l.initial.self q) (map.find nat_cmp q (take l.home-index l.home-items))
