use Rattle.std.proofs.Common.{◌≡◌, ◌++◌, drop, string_bytes}
use Rattle.jb_args.specs.Completions.{commands_completed, form_said, shapes_of}
use Rattle.jb_args.proofs.completing.put_commands.Given as goal

-- what is put, and then the lines of the commands that are left, are all of them
abbrev pub invariant-loop-name : goal.invariant-loop-name
invariant-loop-name l =
    string_bytes l.text ++ commands_completed (form_said l.form) (shapes_of (drop l.name-index l.names))
    ≡ string_bytes l.fn.text ++ commands_completed (form_said l.form) (shapes_of l.names)
