use Rattle.std.proofs.Common.{◌≡◌, ◌+◌, Some, None, inl, refl, sym, ap, ◌∙◌}
use Rattle.jb_disk.specs.Image.{block}
use Rattle.jb_scan.specs.Effect.{effect}
use Rattle.jb_recover.proofs.CheckedImageLaws.{checked-is}
use Rattle.proof_clients.proofs.examples.images.checked_recovers_as.Goals as goal

pub returns-clause-meets : goal.returns-clause-meets
returns-clause-meets c size count base = record { refused = refl; image = refl; read = inl refl }

pub returns-clause-not_older : goal.returns-clause-not_older
returns-clause-not_older c size count found older newer base image apart has older_there same =
    let is = checked-is size count base found has.blocks has.taken has.not_refused in
    let there = is.home 5 has.homes ∙ ap (λ ts. effect 5 (block base (found.plain.maxlen + 5)) ts) has.found_are in
    apart (sym older_there ∙ ap (λ d. block d (found.plain.maxlen + 5)) same.image ∙ there)

pub returns-clause-not_refused : goal.returns-clause-not_refused
returns-clause-not_refused c size count fault base image none refused same =
    let both : Some fault ≡ None = sym refused ∙ same.refused ∙ none in cc
