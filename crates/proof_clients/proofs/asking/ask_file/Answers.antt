use Rattle.jb_disk.specs.contracts.start.UnknownStart.TheImpl.{ghosts as unknown}
use Rattle.jb_disk.specs.declared.start.Unknown.{Unknown}
use Rattle.jb_deck.specs.Conduct.{commit_batch, checkpoint_up_to, read_home}
use Rattle.proof_clients.proofs.AskedCalls.{measured-asked, called-asked}
use Rattle.proof_clients.proofs.asking.ask_file.Goals as goal

pub returns : goal.returns
returns c =
    let ok = c.in-Ok.ensures in
    called-asked _ c.in-Ok.disk (measured-asked {S = Unknown} {start = unknown} c.in-Ok.disk ok.opened) ok.fresh.0 c.none_after.ensures
    c.in-Ok-open.deck c.commit_batch.new.self c.read_home.new.self c.checkpoint_one.new.self c.close.result c.in-Ok-open.ensures.kept
    (commit_batch _ _ _ c.commit_batch.ensures.kept c.commit_batch.ensures.answers)
    (read_home _ _ _ _ c.read_home.ensures.kept c.read_home.ensures.answers)
    (checkpoint_up_to _ _ c.checkpoint_one.ensures.kept c.checkpoint_one.ensures.answers)
    c.close.ensures.value
