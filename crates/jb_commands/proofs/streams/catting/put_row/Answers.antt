use Rattle.std.proofs.Common.{◌≡◌, ◌++◌, ◌∙◌, ℕ, List, ap, append_assoc}
use Rattle.hex.specs.Hex.{encode_lower}
use Rattle.jb_commands.proofs.streams.catting.put_row.Goals as goal

-- a text that began with another has grown, and so has what comes after that
grown : (old front part text : List ℕ) {new : List ℕ} → text ≡ old ++ front → new ≡ text ++ part → new ≡ old ++ (front ++ part)
grown old front part text before more = more ∙ ap (λ t. t ++ part) before ∙ append_assoc old front part

pub returns : goal.returns
returns c =
    let old = c.args.text.now.items in
    let digits = c.in_ok-put_digits.ensures ∙ ap (λ bytes. old ++ encode_lower bytes) c.to_be_bytes.ensures in
    grown old _ _ _ (grown old _ _ _ (grown old _ _ _ (grown old _ _ _ (grown old _ _ _ digits
    c.in_ok-put_bytes.ensures) c.in_ok-put_pairs.ensures) c.in_ok-put_bytes-2.ensures) c.in_ok-put_shown.ensures) c.in_ok-put_bytes-3.ensures
