use Rattle.example_accounts.proofs.running.move_in_image.Goals as goal

pub returns : goal.returns
returns g c = record {
  opened = c.in_ok-disk.disk;
  ready = c.in_ok-disk.ensures.ready;
  conserves = c.in_ok-move_on_disk.ensures;
}
