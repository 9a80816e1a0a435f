use Rattle.std.proofs.Common.{◌≡◌, ◌+◌, Ok, Some, rules}
use Rattle.jb_journal.specs.Client.{client_stops, shape_of}
use Rattle.jb_tool.proofs.NextHandle.{ran-at, words-read}
use Rattle.jb_tool.proofs.loading.worker.run_next.Goals as goal

pub returns-in-Ok-Some-clause-ran : goal.returns-in-Ok-Some-clause-ran
returns-in-Ok-Some-clause-ran g c = λ queue at placed inside.
    let is : c.read.result ≡ Ok (Some c.in-Ok-Some.words) = search rules in
    ran-at (shape_of c.args.client.now) queue (at + c.args.passed) (client_stops c.args.client.now) (client_stops c.run_handle.new.client) c.in-Ok-Some.words c.run_handle.result
    (words-read queue (at + c.args.passed) c.read.new.self c.read.result c.in-Ok-Some.words is (c.read.ensures queue at placed))
    c.run_handle.ensures.stopped c.run_handle.ensures.refused c.run_handle.ensures.why
