use Rattle.std.proofs.Common.{length, arith, rules, sym, ◌∙◌, ap}
use Rattle.jb_disk.proofs.MemoryCalls.{kept_count, kept_size, kept_buffer}
use Rattle.jb_disk.proofs.memory.MemoryDiskDisk.read.Goals as goal

pub index-requires : goal.index-requires
index-requires c = omega (arith, kept_count c.self.invariant c.self.view_is, c.requires.place)

pub copy_from_slice-requires : goal.copy_from_slice-requires
copy_from_slice-requires c =
    let here = kept_buffer c.self.invariant c.self.view_is c.args.place c.index.result.now c.requires.place c.index.ensures in
    let size = kept_size c.self.invariant c.self.view_is c.args.place c.requires.place in
    c.requires.block ∙ sym size ∙ sym (ap length here) ∙ sym (ap length c.deref.ensures.value)

pub returns-clause-found : goal.returns-clause-found
returns-clause-found c = λ sound.
    c.copy_from_slice.ensures.after ∙ c.deref.ensures.value
    ∙ kept_buffer c.self.invariant c.self.view_is c.args.place c.index.result.now c.requires.place c.index.ensures

pub returns-clause-kept : goal.returns-clause-kept
returns-clause-kept c = search rules

pub returns-clause-spent : goal.returns-clause-spent
returns-clause-spent c = search rules

pub returns-clause-own : goal.returns-clause-own
returns-clause-own c = search rules

pub returns-clause-newest : goal.returns-clause-newest
returns-clause-newest c = search rules

pub returns-clause-goes : goal.returns-clause-goes
returns-clause-goes c = search rules
