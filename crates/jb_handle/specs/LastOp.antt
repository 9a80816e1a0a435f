-- The words of a handle by its changes: at each home that it touched, the last one counts.
use Rattle.std.specs.Prelude.{ℕ, List, [], ◌∷◌, ◌==◌, Option, Some, None, cond}
use Rattle.std.specs.FinMap as map
use Rattle.jb_handle.specs.declared.word.Word.{Word}
use Rattle.jb_handle.specs.declared.op.Op.{Op}
use Rattle.jb_handle.specs.Word.{WordMap}
use Rattle.jb_handle.specs.HeldChanges.{home_of, word_of}

-- the word that the last change of a home leaves. The newest change is first
abbrev pub last_word : List Op → ℕ → Option Word
last_word [] home = None
last_word (op ∷ earlier) home = cond (home == home_of op) (Some (word_of op)) (last_word earlier home)

-- the words after all changes, the newest of which is first
abbrev pub words_by : List Op → WordMap
words_by [] = map.empty
words_by (op ∷ earlier) = map.insert (words_by earlier) (home_of op) (word_of op)
