-- The history that a desk is started with.
use Rattle.jb_board.specs.History.{HistoryId, history_id}
use Rattle.jb_desk.specs.declared.stop_ledger.StopLedger.{StopLedger}

-- the identity of the history that a desk is started with
abbrev pub history_in : StopLedger → HistoryId
history_in s = history_id s.history
