use Rattle.std.proofs.Common.{ap, inl, inr, ◌∙◌}
use Rattle.std.proofs.lemmas.Result.{IfOk-weaker}
use Rattle.jb_block.specs.Size.{bytes_of}
use Rattle.jb_journal.proofs.image.open_or_create_holding.Goals as goal

pub returns-in-Ok : goal.returns-in-Ok
returns-in-Ok g c = record { size = c.in-Ok.ensures.opened.sized; ready = inl c.in-Ok.ensures.opened; refused = tt }

pub returns-in-Err-2 : goal.returns-in-Err-2
returns-in-Err-2 g c = record { size = tt; ready = tt; refused = c.in-Err.ensures.refused }

pub returns-in-Ok-create_holding : goal.returns-in-Ok-create_holding
returns-in-Ok-create_holding g c =
    let made = c.in-Ok-create_holding.ensures.made in
    record { size = made.1.formatted.kept.same_size ∙ ap bytes_of made.1.size; ready = inr made; refused = tt }

pub returns-in-Err-Exists : goal.returns-in-Err-Exists
returns-in-Err-Exists g c =
    let opened = c.open_whole-in-Err-Exists.ensures.opened in
    record {
      size = IfOk-weaker c.open_whole-in-Err-Exists.result _ _ (λ file was. was.sized) opened;
      ready = IfOk-weaker c.open_whole-in-Err-Exists.result _ _ (λ file was. inl was) opened;
      refused = c.open_whole-in-Err-Exists.ensures.refused;
    }

pub returns-in-Err-create_holding : goal.returns-in-Err-create_holding
returns-in-Err-create_holding g c = record { size = tt; ready = tt; refused = tt }
