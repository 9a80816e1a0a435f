use Rattle.std.proofs.Common.{◌≡◌, [], ◌++◌, ◌∙◌, List, ℕ, OnOk, Result, Ok, Err, ap, append-nil, append_assoc, map, string_bytes, sym}
use Rattle.jb_args.specs.Completions.{command_completed, form_said, options_completed}
use Rattle.jb_args.specs.Rows.{app_of_row, rule_of_word}
use Rattle.jb_args.proofs.CompletedRows.{row-name, row-rules}
use Rattle.jb_args.proofs.completing.put_command.Goals as goal

-- what is known where a call succeeds, and what follows from it
on-ok : {A E P Q : Type 0} (r : Result A E) → OnOk r P → (P → Q) → OnOk r Q
on-ok (Ok value) holds follows = follows holds
on-ok (Err fault) holds follows = tt

-- a text that has grown, and grows once more
grown : (old front part text : List ℕ) {new : List ℕ} → text ≡ old ++ front → new ≡ text ++ part → new ≡ old ++ (front ++ part)
grown old front part text before more = more ∙ ap (λ t. t ++ part) before ∙ append_assoc old front part

-- five parts one after the other, bracketed to the left, are bracketed to the right
bracketed : (a b c d e : List ℕ) → (((a ++ b) ++ c) ++ d) ++ e ≡ a ++ (b ++ (c ++ (d ++ (e ++ []))))
bracketed a b c d e = simp (append_assoc, append-nil)

pub returns : goal.returns
returns c =
    let old = string_bytes c.args.text.now in
    let form = form_said c.args.form.now in
    let row = c.args.row.now in
    let options = options_completed (map rule_of_word row.words.now) in
    let line = form.before ++ (row.name.now ++ (form.between ++ (options ++ (form.after ++ [])))) in
    let said : line ≡ command_completed form (app_of_row row).top =
    ap (λ name. form.before ++ (name ++ (form.between ++ (options ++ (form.after ++ []))))) (sym (row-name row))
    ∙ ap (λ rules. form.before ++ ((app_of_row row).top.name ++ (form.between ++ (options_completed rules ++ (form.after ++ []))))) (sym (row-rules row)) in
    on-ok c.put_text-4.result c.put_text-4.ensures (λ last.
    grown old _ _ _ (grown old _ _ _ (grown old _ _ _ (grown old form.before row.name.now _ c.in_ok-put_text.ensures
    c.in_ok-put_text-2.ensures) c.in_ok-put_text-3.ensures) c.in_ok-put_options.ensures) last
    ∙ ap (λ text. old ++ text) (bracketed form.before row.name.now form.between options form.after ∙ said))
