use Rattle.std.proofs.Common.{◌≡◌, ◌++◌, drop, string_bytes}
use Rattle.jb_args.specs.Completions.{names_completed, shapes_of}
use Rattle.jb_args.proofs.completing.put_names.Given as goal

-- what is put, and then the names that are left, are all of them
abbrev pub invariant-loop-name : goal.invariant-loop-name
invariant-loop-name l =
    string_bytes l.text ++ names_completed (shapes_of (drop l.name-index l.names))
    ≡ string_bytes l.fn.text ++ names_completed (shapes_of l.names)
