use Rattle.std.proofs.Common.{◌≡◌, ◌∙◌, Some, refl, rules, sym}
use Rattle.jb_image.proofs.MakingFaults.{told-device}
use Rattle.jb_image.proofs.making.fill.Goals as goal

pub returns-in-Ok-clause-made : goal.returns-in-Ok-clause-made
returns-in-Ok-clause-made g c = (c.in_ok-disk.disk, search rules)

pub returns-in-Err-DeviceFault-clause-failed : goal.returns-in-Err-DeviceFault-clause-failed
returns-in-Err-DeviceFault-clause-failed g c is =
    let kept = rw c.in-Err-DeviceFault.field-0-is at c.in-Err-DeviceFault.ensures.kept in
    (c.in_ok-disk.disk, c.format.new.disk, search (rules, kept))

pub returns-in-Err-DeviceFault-clause-told : goal.returns-in-Err-DeviceFault-clause-told
returns-in-Err-DeviceFault-clause-told g c failure is =
    let kept = rw c.in-Err-DeviceFault.field-0-is at c.in-Err-DeviceFault.ensures.kept in
    let told : c.failure.result ≡ Some failure = told-device c.failure.result failure c.device_fault.result _ c.device_fault.ensures refl is in
    (c.in_ok-disk.disk, c.format.new.disk, search (rules, kept), sym c.failure.ensures ∙ told)
