-- What contracts see of a disk whose calls are known.
use Rattle.proof_clients.specs.declared.traced.TracedDisk.{TracedDisk}

-- the disk that calls are passed on to
abbrev pub traced : {D F : Type 0} → TracedDisk D F → D
traced t = t.disk
