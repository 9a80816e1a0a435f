use Rattle.std.proofs.Common.{rules}
use Rattle.jb_journal.specs.Client.{client_known}
use Rattle.proof_clients.proofs.telling.TellingWorkers.read.Goals as goal

pub returns-in-Ok-read : goal.returns-in-Ok-read
returns-in-Ok-read g c = record {
  stopped = search rules;
  before = client_known c.wait.new.self;
  number = c.in-Ok._number;
  noted = c.in-Ok.ensures.noted;
  reads = c.in-Ok-read.ensures.reads;
}
