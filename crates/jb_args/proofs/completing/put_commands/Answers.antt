use Rattle.std.proofs.Common.{◌++◌, ◌+◌, ◌∙◌, List, ℕ, ap, append-nil, append_assoc, arith, drop, string_bytes, sym}
use Rattle.std.proofs.lemmas.List.{at_drop_all, at_drop_more}
use Rattle.jb_args.specs.Completions.{ScriptForm, command_completed, form_said, commands_completed, shapes_of}
use Rattle.jb_args.specs.declared.commands.command_name.CommandName.{CommandName}
use Rattle.jb_args.proofs.completing.put_commands.Goals as goal

abbrev of_names : ScriptForm → List CommandName → List ℕ
of_names form names = commands_completed form (shapes_of names)

pub loop-name-preserved : goal.loop-name-preserved
loop-name-preserved c =
    let names = c.args.names.now in
    let form = form_said c.args.form.now in
    let i = c.loop-name.name-index in
    let old = string_bytes c.loop-name.text in
    let rest = of_names form (drop (i + 1) names) in
    ap (λ text. text ++ rest) (c.in_ok-put_command.ensures ∙ ap (λ a. old ++ command_completed form a.top) c.row_of.ensures)
    ∙ append_assoc old _ rest
    ∙ ap (λ text. old ++ text) (sym (at_drop_more (of_names form) names i _ c.loop-name-test.true))
    ∙ c.loop-name.invariant

pub returns : goal.returns
returns c =
    let old = string_bytes c.loop-name.text in
    sym (append-nil old)
    ∙ ap (λ text. old ++ text) (sym (at_drop_all (of_names (form_said c.args.form.now)) c.args.names.now c.loop-name.name-index (omega (arith, c.loop-name-test.false))))
    ∙ c.loop-name.invariant
