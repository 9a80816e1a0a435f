use Rattle.std.proofs.Common.{◌≤◌, [], ◌∷◌, Ok, arith}
use Rattle.jb_handle.specs.Handle.{changes_of}
use Rattle.jb_book.specs.Calls.{Opened, Enqueued, CallsMake}
use Rattle.proof_clients.proofs.CutOfTwo.{begun, stand}
use Rattle.proof_clients.proofs.two.two_handles.Goals as goal

pub returns : goal.returns
returns g c =
    let small : c.from.result ≤ 2147483646 = omega (arith, c.from.ensures, c.usable.ensures.most) in
    let one = Opened 1 c.credits.result c.open-first.result in
    let two = Opened 2 c.credits-2.result c.open-second.result in
    let stopped = Enqueued 1 (changes_of c.args.first).words (Ok c.in_ok-_one._one) in
    let called : CallsMake c.shape.result c.from.result (begun c.credits.result c.credits-2.result c.open-first.result c.open-second.result (changes_of c.args.first).words (changes_of c.args.second).words c.in_ok-_one._one c.in_ok-_two._two) c.stop-two.new.book =
    c.in_ok-_two.ensures c.shape.result c.from.result (stopped ∷ two ∷ one ∷ [])
    (c.in_ok-_one.ensures c.shape.result c.from.result (two ∷ one ∷ []) (c.open-first.new.self, (c.new-book.result, c.new-book.ensures, c.open-first.ensures.does []), c.open-second.ensures.does (one ∷ []))) in
    let is =
    stand c.into_trail.result c.every_run.ensures c.shape.result c.from.result small (changes_of c.args.first).words (changes_of c.args.second).words c.credits.result c.credits-2.result c.in_ok-_one._one c.in_ok-_two._two c.open-first.result c.open-second.result
    c.stop-two.new.book c.settle.new.book c.fail.new.self c.args.deck.now.trail c.settle.new.deck.trail called c.in_ok-settle.ensures c.fail.ensures.value c.into_trail.result.items c.into_trail.ensures.value in
    record {
      told = is.0;
      stand = rw c.shape.ensures.value at is.1;
    }
