use Rattle.std.proofs.Common.{[], refl, subst, sym, is_ok}
use Rattle.jb_block.specs.Size.{bytes_of}
use Rattle.jb_disk.specs.Events.{Flushed}
use Rattle.jb_disk.specs.File.{NotesCall, count_of, events_of, faults_of, size_of_blocks}
use Rattle.jb_disk.specs.Image.{ChangesNothing}
use Rattle.jb_disk.proofs.FileCalls.{tells, goes_event, kept_event, synced_from}
use Rattle.jb_disk.specs.Faults.{CountsOne}
use Rattle.jb_disk.specs.OneCall.{Syncs}
use Rattle.jb_disk.proofs.file.FileDiskDisk.sync.Goals as goal

pub returns-clause-goes : goal.returns-clause-goes
returns-clause-goes g c = λ honest.
    let f = c.args.self.now in
    goes_event (λ d. bytes_of (size_of_blocks d)) g.S.Start.content events_of ChangesNothing f _
    (Flushed (is_ok c.sync-answer.result)) refl c.sync-answer.ensures
    (λ d left. synced_from (bytes_of f.size) f.blocks g.S.Start.content f.host.log.events c.sync-answer.new.self.log.events (is_ok c.sync-answer.result) d c.sync-answer.ensures honest left)

pub returns-clause-kept : goal.returns-clause-kept
returns-clause-kept g c =
    kept_event (λ d. bytes_of (size_of_blocks d)) count_of faults_of g.S.Start.content events_of c.args.self.now _ c.settle.result (Flushed (is_ok c.sync-answer.result)) refl refl
    c.sync-answer.ensures c.settle.ensures.faults c.settle.ensures.one

pub returns-clause-own : goal.returns-clause-own
returns-clause-own g c = record {
  counted = subst (λ ok. CountsOne ok c.args.self.now.faults c.settle.new.faults) (sym c.settle.ensures.variant) c.settle.ensures.one;
  noted = subst (λ ok. NotesCall Syncs ok c.args.self.now.host.log.events c.sync-answer.new.self.log.events) (sym c.settle.ensures.variant)
      c.sync-answer.ensures;
  told = tells c.sync-answer.result _ _ _ c.settle.ensures.variant (Syncs) c.settle.ensures.told;
}
