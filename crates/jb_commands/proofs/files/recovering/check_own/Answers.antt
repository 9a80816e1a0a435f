use Rattle.std.proofs.Common.{rules, ◌≡◌, refl, sym, ap, ◌∙◌, inl, inr, Some, Ok, Err}
use Rattle.jb_image.specs.Images.{is_within, own_home}
use Rattle.jb_commands.specs.Faults.{recover_fault}
use Rattle.jb_commands.specs.Watched.{watched}
use Rattle.jb_commands.proofs.files.recovering.check_own.Goals as goal

pub returns-then-not-is_within : goal.returns-then-not-is_within
returns-then-not-is_within g c =
    let apart : is_within (watched c.args.disk.now) ≡ c.is_within.result = search rules in
    record { checks = inl (apart ∙ c.if-not-is_within.true, refl, refl) }

pub returns-in-None : goal.returns-in-None
returns-in-None g c =
    let within : is_within (watched c.args.disk.now) ≡ c.is_within.result = search rules in
    let listed : own_home (watched c.foresee_unread_watched.new.disk) c.in-Ok.told.homes.items ≡ c.first_own.result = search rules in
    record { checks = inr (within ∙ c.if-not-is_within.false, (watched c.foresee_unread_watched.new.disk, Ok c.in-Ok.told, c.in-Ok.ensures.foretells, rw (listed ∙ c.in-None.is) (refl, refl))) }

pub returns-in-Ok : goal.returns-in-Ok
returns-in-Ok g c =
    let within : is_within (watched c.args.disk.now) ≡ c.is_within.result = search rules in
    let listed : own_home (watched c.foresee_unread_watched.new.disk) c.in-Ok.told.homes.items ≡ c.first_own.result = search rules in
    record { checks = inr (within ∙ c.if-not-is_within.false, (watched c.foresee_unread_watched.new.disk, Ok c.in-Ok.told, c.in-Ok.ensures.foretells, rw (listed ∙ c.in-Some.is) c.judge_own.ensures.judges)) }

pub returns : goal.returns
returns g c =
    let within : is_within (watched c.args.disk.now) ≡ c.is_within.result = search rules in
    let told : c.of_recovery.result ≡ recover_fault (Some c.args.homes) c.in-Err.fault = search rules in
    record { checks = inr (within ∙ c.if-not-is_within.false, (watched c.foresee_unread_watched.new.disk, Err c.in-Err.fault, c.in-Err.ensures.foretells, (refl, ap Err told))) }
