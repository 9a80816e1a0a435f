use Rattle.std.proofs.Common.{◌≡◌, map}
use Rattle.jb_block.specs.Size.{bytes_of}
use Rattle.jb_disk.specs.History.{newest_of}
use Rattle.proof_clients.specs.Lives.{HasLives, IsAtRest}
use Rattle.proof_clients.specs.declared.lives.Life.{Life}
use Rattle.proof_clients.proofs.lives.run_lives.Given as goal

abbrev pub invariant-loop-life : goal.invariant-loop-life
invariant-loop-life l = record {
  rest : IsAtRest l.disk;
  size : bytes_of l.disk.size ≡ bytes_of l.fn.disk.size;
  count : l.disk.count ≡ l.fn.disk.count;
  lives : HasLives (bytes_of l.fn.disk.size) l.fn.disk.count (map (λ (life : Life). life.handles.items) l.yielded) l.committed.items (newest_of l.fn.disk) (newest_of l.disk);
}
