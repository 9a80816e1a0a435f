-- The lives of a machine, by its events and answers alone, and how the machine agrees with them.
use Rattle.std.specs.Prelude.{◌≡◌, ℕ, Bool, true, false, cond, List, [], ◌∷◌, ◌++◌, map, take, drop, Result, Ok, Err}
use Rattle.std.specs.Ordering.{nat_cmp}
use Rattle.std.specs.BTreeMap.{is_at}
use Rattle.jb_handle.specs.declared.op.Op.{Op}
use Rattle.jb_handle.specs.declared.stopped.Stopped.{Stopped}
use Rattle.jb_handle.specs.LastOp.{words_by}
use Rattle.jb_core.specs.declared.event.Event.{Event}
use Rattle.jb_core.specs.declared.event.Event.TheVariants.{Open, Touch, Stop, Restart}
use Rattle.jb_core.specs.declared.event.Reply.{Reply}
use Rattle.jb_core.specs.declared.event.Reply.TheVariants.{Plain, Ticket}
use Rattle.jb_core.specs.declared.event.CoreFault.{CoreFault}
use Rattle.jb_core.specs.declared.event.CoreFault.TheVariants.{Memory}
use Rattle.jb_cost.specs.Pieces.{joined}
use Rattle.jb_core.specs.Machine.{Machine}

-- what the machine answered to an event
abbrev pub MachineAnswer : Type 0
MachineAnswer = Result Reply CoreFault

-- an answer that is known: memory did not run out
abbrev pub IsKnown : MachineAnswer → Type 0
IsKnown answer = answer ≡ Err Memory → ⊥

-- events with their answers, the newest first
abbrev pub EventLog : Type 0
EventLog = List (Event × MachineAnswer)

-- events in their order, put before those that were earlier
abbrev pub log_from : EventLog → List Event → List MachineAnswer → EventLog
log_from earlier [] answers = earlier
log_from earlier (event ∷ events) [] = earlier
log_from earlier (event ∷ events) (answer ∷ answers) = log_from ((event, answer) ∷ earlier) events answers

-- whether two seats are one
abbrev pub is_seat : ℕ → ℕ → Bool
is_seat seat other = is_at (nat_cmp seat) other

-- the accepted changes of a seat since its last accepted Open, the newest first
abbrev pub ops_of : ℕ → EventLog → List Op
ops_of s [] = []
ops_of s ((event, Err fault) ∷ earlier) = ops_of s earlier
ops_of s ((Open seat credits, Ok reply) ∷ earlier) = cond (is_seat seat s) [] (ops_of s earlier)
ops_of s ((Touch seat op, Ok reply) ∷ earlier) = cond (is_seat seat s) (op ∷ ops_of s earlier) (ops_of s earlier)
ops_of s ((other, Ok reply) ∷ earlier) = ops_of s earlier

-- the ticket that a Stop was answered with
abbrev pub ticket_in : Reply → ℕ
ticket_in Plain = 0
ticket_in (Ticket ticket) = ticket

-- The stop order of the current life: its accepted Stops in their order, each with its ticket and with its handle's
-- changes. A life begins with the log, or with an accepted Restart
abbrev pub stop_order : EventLog → List (ℕ × List Op)
stop_order [] = []
stop_order ((event, Err fault) ∷ earlier) = stop_order earlier
stop_order ((Stop seat, Ok reply) ∷ earlier) = stop_order earlier ++ (ticket_in reply, ops_of seat earlier) ∷ []
stop_order ((Restart, Ok reply) ∷ earlier) = []
stop_order ((other, Ok reply) ∷ earlier) = stop_order earlier

-- the stop orders of the lives before, the newest first
abbrev pub past_orders : EventLog → List (List (ℕ × List Op))
past_orders [] = []
past_orders ((event, Err fault) ∷ earlier) = past_orders earlier
past_orders ((Restart, Ok reply) ∷ earlier) = stop_order earlier ∷ past_orders earlier
past_orders ((other, Ok reply) ∷ earlier) = past_orders earlier

-- a handle with its ticket and with the words that its changes leave
abbrev pub stopped_by : ℕ × List Op → Stopped
stopped_by entry = record { ticket = entry.0; words = words_by entry.1 }

-- the handles of a stop order
abbrev pub handles_of_order : List (ℕ × List Op) → List Stopped
handles_of_order order = map stopped_by order

-- the handles of the current life that are settled
abbrev pub settled_now : Machine → List Stopped
settled_now m = joined (drop m.earlier m.settled)

-- the settled groups, life by life: each life settled some first handles of its stop order
abbrev pub PastKept : List (List (ℕ × List Op)) → List (List Stopped) → Type 0
PastKept [] groups = groups ≡ []
PastKept (order ∷ orders) groups =
    (n : ℕ) × (rest : List Stopped) × (joined (drop n groups) ++ rest ≡ handles_of_order order)
    × PastKept orders (take n groups)

-- What a machine has kept of its lives. While it is up, the groups that this life settled, the taken groups and the
-- queue, joined in order, are the life's stop order, each handle whole and once; once it has crashed, the settled ones
-- are a prefix of it. So it was in each life before
pub record IsWhole (log : EventLog) (m : Machine) : Type 0 where
  pub up : m.up ≡ true → settled_now m ++ (joined m.taken ++ m.queue) ≡ handles_of_order (stop_order log)
  pub crashed : m.up ≡ false → (rest : List Stopped) × (settled_now m ++ rest ≡ handles_of_order (stop_order log))
  pub past : PastKept (past_orders log) (take m.earlier m.settled)
