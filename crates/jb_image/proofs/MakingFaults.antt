-- Why an image was not made, of whose disk this is told.
use Rattle.std.proofs.Common.{◌≡◌, Option, None, Some, Result, Ok, Err, refl}
use Rattle.jb_disk.specs.declared.failure.Failure.{Failure}
use Rattle.jb_image.specs.Create.{device_fault_of}
use Rattle.jb_image.specs.declared.fault.MakeFault.{MakeFault}
use Rattle.jb_image.specs.declared.fault.MakeFault.TheVariants.{Device}

-- a fault that tells a failed call tells the one that the disk told
pub told-device : {T : Type 0} (told : Option Failure) (failure : Failure) (fault : MakeFault) (answer : Result T MakeFault)
    → fault ≡ device_fault_of told → answer ≡ Err fault → answer ≡ Err (Device failure) → told ≡ Some failure
told-device None failure fault answer is was err = absurd (let h : ⊥ = cc in h)
told-device (Some f) failure fault answer is was err = let same : Some f ≡ Some failure = cc in same
