-- What contracts say of a new history.
use Rattle.atomic_table.specs.Seated.{TableId}
use Rattle.jb_board.specs.declared.history.NewHistory.{NewHistory}

-- what tells a history from every other
abbrev pub HistoryId : Type 0
HistoryId = TableId

-- the identity of a new history
abbrev pub history_id : {E : Type 0} → NewHistory E → HistoryId
history_id o = o.table.shared.table_id
