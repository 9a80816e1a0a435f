use Rattle.std.proofs.Common.{◌∷◌, [], ◌++◌, ◌+◌, ◌∙◌, List, ℕ, ap, append-nil, append_assoc, arith, drop, string_bytes, sym}
use Rattle.std.proofs.lemmas.List.{at_drop_all, at_drop_more}
use Rattle.jb_args.specs.Completions.{names_completed, shapes_of}
use Rattle.jb_args.specs.declared.commands.command_name.CommandName.{CommandName}
use Rattle.jb_args.proofs.CompletedRows.{row-name}
use Rattle.jb_args.proofs.completing.put_names.Goals as goal

abbrev of_names : List CommandName → List ℕ
of_names names = names_completed (shapes_of names)

pub loop-name-preserved : goal.loop-name-preserved
loop-name-preserved c =
    let names = c.args.names.now in
    let i = c.loop-name.name-index in
    let old = string_bytes c.loop-name.text in
    let rest = of_names (drop (i + 1) names) in
    let name = sym (row-name c.row_of.result.now) ∙ ap (λ a. a.top.name) c.row_of.ensures in
    ap (λ text. text ++ rest) (c.in_ok-put_text-2.ensures ∙ ap (λ text. text ++ c.row_of.result.now.name.now) c.in_ok-put_text.ensures)
    ∙ ap (λ text. text ++ rest) (append_assoc old (32 ∷ []) c.row_of.result.now.name.now)
    ∙ append_assoc old (32 ∷ c.row_of.result.now.name.now) rest
    ∙ ap (λ text. old ++ ((32 ∷ text) ++ rest)) name
    ∙ ap (λ text. old ++ text) (sym (at_drop_more of_names names i _ c.loop-name-test.true))
    ∙ c.loop-name.invariant

pub returns : goal.returns
returns c =
    let old = string_bytes c.loop-name.text in
    sym (append-nil old)
    ∙ ap (λ text. old ++ text) (sym (at_drop_all of_names c.args.names.now c.loop-name.name-index (omega (arith, c.loop-name-test.false))))
    ∙ c.loop-name.invariant
