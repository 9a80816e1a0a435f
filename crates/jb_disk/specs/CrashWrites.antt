-- The writes since the last sync, block by block, as the code of a crash keeps them.
use Rattle.std.specs.Prelude.{ℕ, zero, suc, ◌+◌, ◌*◌, List, [], ◌∷◌, ◌++◌, take, drop, map, get_or, Vec}
use Rattle.std.proofs.Common.{Bor}
use Rattle.std.specs.declared.alloc.Global.{Global}
use Rattle.jb_disk.specs.History.{HistoryStep, Wrote, Synced}
use Rattle.jb_disk.specs.Image.{sector}
use Rattle.jb_disk.specs.Versions.{one_if_any}

-- the bytes of these writes
abbrev pub bytes_of_writes : List (Bor (List ℕ)) → List (List ℕ)
bytes_of_writes writes = map (λ w. w.now) writes

-- the writes of each block
abbrev pub table_of : List (Vec (Bor (List ℕ)) Global) → List (List (List ℕ))
table_of places = map (λ v. bytes_of_writes v.items) places

-- the writes of one block
abbrev pub writes_at : List (List (List ℕ)) → ℕ → List (List ℕ)
writes_at table place = get_or table place []

-- how many blocks below a place have any
abbrev pub any_below : List (List (List ℕ)) → ℕ → ℕ
any_below table zero = 0
any_below table (suc place) = any_below table place + one_if_any (writes_at table place)

-- no sync is among these steps
abbrev pub AreWrites : List HistoryStep → Type 0
AreWrites [] = Unit {0}
AreWrites (Wrote place bytes ∷ older) = AreWrites older
AreWrites (Synced ∷ older) = ⊥

-- a block with its k-th sector replaced by that of another
abbrev pub put_sector : ℕ → List ℕ → List ℕ → List ℕ
put_sector k from to = take (512 * k) to ++ (sector k from ++ drop (512 * k + 512) to)
