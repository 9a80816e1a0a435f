-- What a commit tells of its batch, whatever journal it was.
use Rattle.std.specs.Prelude.{◌≡◌, ℕ, ◌+◌, ◌<◌, ◌≤◌, length, Result, Ok, Err}
use Rattle.jb_plan.specs.Batch.{Gathered}
use Rattle.jb_plan.specs.Prepare.{Planned}
use Rattle.jb_deck.specs.Done.{Follow, first_ticket, entries_of, past_after}
use Rattle.jb_deck.specs.declared.batched.BatchFault.{BatchFault}
use Rattle.jb_deck.specs.declared.batched.BatchFault.TheVariants as batch
use Rattle.jb_deck.specs.declared.done.Done.{Done}

-- the ticket after those of a batch
abbrev pub end_of : Gathered → ℕ
end_of b = b.first + length b.handles

-- all of the batch is settled, or after a fault of the disk a prefix of it and not all; otherwise it is handed back as
-- it was
abbrev pub CommitsAs : Planned → Result Done BatchFault → Type 0
CommitsAs p (Ok done) = (first_ticket done ≡ p.batch.first) × Follow p.batch.first 0 (end_of p.batch) (entries_of done)
CommitsAs p (Err (batch.Aborted back)) = back ≡ p
CommitsAs p (Err (batch.WrongTicket back expected)) = back ≡ p
CommitsAs p (Err (batch.OtherShape back)) = back ≡ p
CommitsAs p (Err (batch.NumbersSpent back)) = back ≡ p
CommitsAs p (Err (batch.Memory back)) = back ≡ p
CommitsAs p (Err (batch.DeviceFault settled)) =
    (first_ticket settled ≡ p.batch.first) × (p.batch.first ≤ past_after p.batch.first (entries_of settled))
    × (past_after p.batch.first (entries_of settled) < end_of p.batch)
