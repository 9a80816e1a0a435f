-- The home blocks of a queue's handles that are the journal's own.
use Rattle.std.specs.Prelude.{ℕ, List, [], ◌∷◌, ◌++◌, Option}
use Rattle.std.specs.FinMap as map
use Rattle.jb_handle.specs.declared.stopped.Stopped.{Stopped}
use Rattle.jb_image.specs.Images.{own_home}
use Rattle.jb_image.specs.declared.image.ImageDisk.{ImageDisk}

-- the home blocks that handles touch: those of the first handle, rising, then those of the next one
abbrev pub touched_by : List Stopped → List ℕ
touched_by [] = []
touched_by (handle ∷ handles) = map.keys handle.words ++ touched_by handles

-- the first of them that is one of the journal's own
abbrev pub own_touched : {D E : Type 0} → ImageDisk D E → List Stopped → Option ℕ
own_touched disk handles = own_home disk (touched_by handles)
