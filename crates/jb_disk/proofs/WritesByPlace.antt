-- How the writes of a list of calls are sorted by the blocks that they write.
use Rattle.std.proofs.Common.{◌≡◌, ◌≢◌, ◌<◌, ◌⊎◌, inl, inr, ℕ, ◌+◌, List, [], ◌∷◌, ◌++◌, length, get_or, set, take, drop, cond, sym, ◌∙◌, ap, subst, arith, Vec, Global, Bor, get_or-set_same, get_or-set_other, length-set, eq-eqb, ne_eqb}
use Rattle.std.proofs.lemmas.List.{length-map, get_or-map, map-set, map-append}
use Rattle.std.proofs.Math.Decide.{ℕ_discrete}
use Rattle.jb_disk.specs.Calls.{steps_of}
use Rattle.jb_disk.specs.History.{HistoryStep, Wrote, Synced}
use Rattle.jb_disk.specs.CrashWrites.{bytes_of_writes, table_of, writes_at, AreWrites}
use Rattle.jb_disk.specs.Versions.{written}
use Rattle.jb_disk.specs.declared.memory.Call.{Call}
use Rattle.jb_disk.specs.declared.memory.Call.TheVariants.{Sync}
use Rattle.jb_disk.proofs.ReplayCalls.{steps_of-more, steps_of-split}

-- the table says for each block what has been written to it
pub record IsTable (count : ℕ) (table : List (Vec (Bor (List ℕ)) Global)) (steps : List HistoryStep) : Type 0 where
  pub places : length table ≡ count
  pub writes : (p : ℕ) → p < count → writes_at (table_of table) p ≡ written steps p

-- what has been written to a block after one more write: at its place one more, elsewhere what there was
pub written-more : (older : List HistoryStep) (place : ℕ) (bytes : List ℕ) (p : ℕ)
    → ((place ≡ p) × (written (Wrote place bytes ∷ older) p ≡ written older p ++ bytes ∷ [])) ⊎ ((p ≢ place) × (written (Wrote place bytes ∷ older) p ≡ written older p))
written-more older place bytes p = elim (ℕ_discrete place p) [
  | yes here ↦ inl (here, ap (λ b. cond b (written older p ++ bytes ∷ []) (written older p)) (eq-eqb place p here))
  | no other ↦ inr (λ e. other (sym e), ap (λ b. cond b (written older p ++ bytes ∷ []) (written older p)) (ne_eqb place p other))
]

-- one write more
pub table-write : (count : ℕ) (table : List (Vec (Bor (List ℕ)) Global)) (older : List HistoryStep) (place : ℕ) (old new : Vec (Bor (List ℕ)) Global) (w : Bor (List ℕ)) → IsTable count table older
    → place < count → old ≡ get_or table place old → new.items ≡ old.items ++ w ∷ [] → IsTable count (set table place new) (Wrote place w.now ∷ older)
table-write count table older place old new w is inside here pushed =
    let within : place < length (table_of table) = omega (arith, length-map table (λ v. bytes_of_writes v.items), is.places, inside) in
    let among : place < length table = omega (arith, is.places, inside) in
    let changed : table_of (set table place new) ≡ set (table_of table) place (bytes_of_writes new.items) = map-set (λ v. bytes_of_writes v.items) table place new in
    let had : writes_at (table_of table) place ≡ bytes_of_writes old.items = get_or-map (λ v. bytes_of_writes v.items) table place old [] among ∙ ap (λ v. bytes_of_writes v.items) (sym here) in
    record {
      places = length-set table place new ∙ is.places;
      writes = λ p below. elim (written-more older place w.now p) [
        | inl (same, is_more) ↦ subst (λ q. writes_at (table_of (set table place new)) q ≡ written older q ++ w.now ∷ []) same
            (ap (λ t. writes_at t place) changed ∙ get_or-set_same (table_of table) place (bytes_of_writes new.items) [] within
            ∙ ap bytes_of_writes pushed ∙ map-append (λ v. v.now) old.items (w ∷ []) ∙ ap (λ ws. ws ++ w.now ∷ []) (sym had ∙ is.writes place inside)) ∙ sym is_more
        | inr (other, stays) ↦ ap (λ t. writes_at t p) changed ∙ get_or-set_other (table_of table) place p (bytes_of_writes new.items) [] other ∙ is.writes p below ∙ sym stays
      ];
    }

writes-older : (newer older : List HistoryStep) → AreWrites (newer ++ older) → AreWrites older
writes-older [] older are = are
writes-older (Wrote place bytes ∷ newer) older are = writes-older newer older are
writes-older (Synced ∷ newer) older are = absurd are

-- where there is no sync, no call is one
pub no_sync : (calls : List Call) (i : ℕ) (call : Call) → AreWrites (steps_of calls) → i < length calls → call ≡ get_or calls i call → call ≡ Sync → ⊥
no_sync calls i call are inside is sync =
    let part : AreWrites (steps_of (take (i + 1) calls)) = writes-older (steps_of (drop (i + 1) calls)) (steps_of (take (i + 1) calls)) (subst AreWrites (steps_of-split calls (i + 1)) are) in
    subst AreWrites (steps_of-more calls i inside is sync) part
