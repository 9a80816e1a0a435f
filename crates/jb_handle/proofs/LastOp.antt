-- The words after a list of changes are those of the last change of each home.
use Rattle.std.proofs.Common.{◌≡◌, ℕ, List, [], ◌∷◌, refl, nat_cmp}
use Rattle.std.specs.Cmp.{nat_cmp_total, unsigned_tied}
use Rattle.std.specs.FinMap as map
use Rattle.jb_handle.specs.declared.op.Op.{Op}
use Rattle.jb_handle.specs.HeldChanges.{home_of, word_of}
use Rattle.jb_handle.specs.LastOp.{last_word, words_by}

pub word_by_last : (ops : List Op) (home : ℕ) → map.get (words_by ops) home ≡ last_word ops home
word_by_last [] home = map.get-empty nat_cmp home
word_by_last (op ∷ earlier) home =
    rw (map.get-insert nat_cmp_total (words_by earlier) (home_of op) (word_of op) home, unsigned_tied home (home_of op), word_by_last earlier home) refl
