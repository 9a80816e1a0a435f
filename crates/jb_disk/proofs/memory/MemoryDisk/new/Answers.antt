use Rattle.std.proofs.Common.{sym, ◌∙◌}
use Rattle.jb_block.specs.Size.{bytes_of}
use Rattle.jb_disk.proofs.MemoryCalls.{zeros_count, zeros_shape}
use Rattle.jb_disk.proofs.memory.MemoryDisk.new.Goals as goal

pub returns-clause-count : goal.returns-clause-count
returns-clause-count c = zeros_count c.args.blocks (bytes_of c.args.size) c.in_ok-zeros.field-0.items c.in_ok-zeros.ensures.image

pub invariant_of-result : goal.invariant_of-result
invariant_of-result c = record {
  sound = record {
    shape = zeros_shape c.args.blocks (bytes_of c.args.size) c.in_ok-zeros.field-0.items c.in_ok-zeros.ensures.image;
    whole = rw c.new.ensures.items tt;
  };
  newest = rw c.new.ensures.items (c.in_ok-zeros-2.ensures.image ∙ sym c.in_ok-zeros.ensures.image);
}

pub returns-clause-sound : goal.returns-clause-sound
returns-clause-sound c = (invariant_of-result c).sound
