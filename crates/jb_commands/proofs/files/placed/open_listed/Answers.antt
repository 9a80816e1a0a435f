use Rattle.std.proofs.Common.{rules, ◌≡◌, ap, sym, ◌∙◌, None, Some}
use Rattle.std.specs.Prelude.{option_map}
use Rattle.jb_commands.specs.ListText.{IsListOf, list_file}
use Rattle.jb_commands.proofs.FoundSuper.{listed-shut}
use Rattle.jb_commands.proofs.files.placed.open_listed.Goals as goal

pub returns-in-None-clause-shut : goal.returns-in-None-clause-shut
returns-in-None-clause-shut g c =
    let none : list_file c.args.word.now ≡ None = sym c.file_of.ensures ∙ ap (option_map (λ name. name.now)) c.in-None.is in
    let is : IsListOf (g.I.Read.remaining c.args.input.now) c.args.word.now c.as_bytes.result.now = rw none c.as_bytes.ensures.value in
    listed-shut c.args.name.now c.args.word.now c.as_bytes.result.now (g.I.Read.remaining c.args.input.now) c.named_within.result is
    (c.named_within.ensures.shut c.as_bytes.result.now c.open_within.ensures.shut)

pub returns-in-Ok-clause-shut : goal.returns-in-Ok-clause-shut
returns-in-Ok-clause-shut g c =
    let some : list_file c.args.word.now ≡ Some c.in-Some.file.now = sym c.file_of.ensures ∙ ap (option_map (λ name. name.now)) c.in-Some.is in
    let is : IsListOf (g.I.Read.remaining c.args.input.now) c.args.word.now c.as_slice.result.now = rw (some, c.as_slice.ensures.value) c.in-Ok.ensures.text in
    listed-shut c.args.name.now c.args.word.now c.as_slice.result.now (g.I.Read.remaining c.args.input.now) c.named_within-in-Ok.result is
    (c.named_within-in-Ok.ensures.shut c.as_slice.result.now c.open_within-in-Ok.ensures.shut)
