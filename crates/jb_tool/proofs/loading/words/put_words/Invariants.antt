use Rattle.std.proofs.Common.{◌≡◌, ◌≤◌, ℕ, take, None}
use Rattle.std.specs.Option.{option_or}
use Rattle.std.specs.Ordering.{nat_cmp}
use Rattle.std.specs.FinMap as map
use Rattle.jb_handle.specs.Handle.{holder, changes_of}
use Rattle.jb_tool.proofs.loading.words.put_words.Given as goal

-- a handle that had none has the words so far
abbrev pub invariant-loop-home : goal.invariant-loop-home
invariant-loop-home g l = record {
  seat : holder l.handle ≡ holder l.initial.handle;
  shape : (changes_of l.handle).shape ≡ (changes_of l.initial.handle).shape;
  words : (changes_of l.initial.handle).words ≡ map.empty → (q : ℕ) → map.get (changes_of l.handle).words q ≡ option_or (map.find nat_cmp q (take l.home-index l.home-items)) None;
  few : (changes_of l.initial.handle).words ≡ map.empty → map.len (changes_of l.handle).words ≤ l.home-index;
}
