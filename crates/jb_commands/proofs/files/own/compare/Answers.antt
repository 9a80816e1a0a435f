use Rattle.std.proofs.Common.{Ok, Err, sym, ap, ◌∙◌, refl}
use Rattle.jb_image.specs.Lists.{PartsFirst, list_of}
use Rattle.jb_commands.specs.OwnPlace.{find_told}
use Rattle.jb_commands.proofs.ComparedLists.{compared-is, other-is}
use Rattle.jb_commands.proofs.files.own.compare.Goals as goal

pub returns-in-None-clause-compared : goal.returns-in-None-clause-compared
returns-in-None-clause-compared g c =
    let parts = c.into_parts-disk.ensures in
    let now = c.of-in-None.ensures in
    compared-is c.args.sums c.args.whole c.of-in-None.result c.into_parts-disk.result.0 c.find_journal.new.disk c.into_parts-disk.result.1 c.into_parts-disk.result.2 _
    parts.disk parts.extents parts.journal now.disk now.extents now.journal c.in-Ok.ensures.finds (rw c.of.ensures at (rw c.in-None.is at c.first_other.ensures))

pub returns-in-Ok-clause-shut : goal.returns-in-Ok-clause-shut
returns-in-Ok-clause-shut g c =
    let parts = c.into_parts-disk.ensures in
    other-is c.args.sums c.args.whole c.into_parts-disk.result.0 c.find_journal.new.disk c.into_parts-disk.result.1 _ _
    parts.disk parts.extents c.in-Ok.ensures.finds (c.in-Some.place, rw c.of.ensures at (rw c.in-Some.is at c.first_other.ensures), refl)

pub returns-in-None-find_told-clause-compared : goal.returns-in-None-find_told-clause-compared
returns-in-None-find_told-clause-compared g c =
    let parts = c.into_parts-disk.ensures in
    let now = c.of-in-None-find_told.ensures in
    compared-is c.args.sums c.args.whole c.of-in-None-find_told.result c.into_parts-disk.result.0 c.find_journal.new.disk c.into_parts-disk.result.1 c.into_parts-disk.result.2 (Err c.in-Err.fault)
    parts.disk parts.extents parts.journal now.disk now.extents now.journal c.in-Err.ensures.finds (sym c.find_told.ensures ∙ c.in-None-find_told.is)

pub returns-clause-shut : goal.returns-clause-shut
returns-clause-shut g c =
    let parts = c.into_parts-disk.ensures in
    other-is c.args.sums c.args.whole c.into_parts-disk.result.0 c.find_journal.new.disk c.into_parts-disk.result.1 (Err c.in-Err.fault) _
    parts.disk parts.extents c.in-Err.ensures.finds (c.in-Some-find_told.fault, sym c.find_told.ensures ∙ c.in-Some-find_told.is, c.fault_of_find.ensures)
