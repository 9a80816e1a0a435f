use Rattle.std.proofs.Common.{length, arith, sym, ◌∙◌, ◌∷◌, ap, map, reverse}
use Rattle.jb_disk.proofs.MemoryCalls.{kept_count, kept_size, kept_buffer, kept_sound, kept_written, torn_written, goes_written, goes_refused}
use Rattle.jb_disk.specs.Calls.{history_step}
use Rattle.jb_disk.specs.History.{Wrote}
use Rattle.jb_disk.proofs.memory.MemoryDiskDisk.write.Goals as goal

pub index_mut-requires : goal.index_mut-requires
index_mut-requires c = omega (arith, kept_count c.self.invariant c.self.view_is, c.requires.place)

pub copy_from_slice-requires : goal.copy_from_slice-requires
copy_from_slice-requires c =
    let here = kept_buffer c.self.invariant c.self.view_is c.args.place c.index_mut.result.now c.requires.place c.index_mut.ensures.value in
    let size = kept_size c.self.invariant c.self.view_is c.args.place c.requires.place in
    c.index_mut.result.now.ok.0 ∙ ap length here ∙ size ∙ sym c.requires.block

pub invariant_of-self : goal.invariant_of-self
invariant_of-self c =
    kept_written c.self.invariant c.self.view_is c.args.place c.args.bytes.now c.copy_from_slice.new.self c.note_write.new.calls
    c.requires.place c.requires.block c.copy_from_slice.ensures.items c.in-Ok.ensures.ok

pub returns-in-Ok-clause-torn : goal.returns-in-Ok-clause-torn
returns-in-Ok-clause-torn c = λ _.
    torn_written c.args.self.now c.args.place c.args.bytes.now (kept_sound c.self.invariant c.self.view_is) c.requires.place c.requires.block
    (ap (λ h. h.first) c.self.view_is) (c.in-Ok.ensures.ok ∙ ap (λ h. Wrote c.args.place c.args.bytes.now ∷ h.steps) c.self.view_is)

pub returns-in-Ok-clause-goes : goal.returns-in-Ok-clause-goes
returns-in-Ok-clause-goes c = λ _.
    goes_written c.args.self.now _ c.args.place c.args.bytes.now
    (ap (λ h. h.first) c.self.view_is) (c.in-Ok.ensures.ok ∙ ap (λ h. Wrote c.args.place c.args.bytes.now ∷ h.steps) c.self.view_is)

pub returns-in-Err-clause-goes : goal.returns-in-Err-clause-goes
returns-in-Err-clause-goes c = λ _.
    goes_refused c.args.self.now _ c.args.place c.args.bytes.now (ap (λ h. h.first) c.self.view_is)
    (ap (λ items. reverse (map history_step items)) c.in-Err.ensures.err ∙ ap (λ h. h.steps) c.self.view_is)
