use Rattle.std.proofs.Common.{◌≡◌, [], ◌++◌, ◌∙◌, List, ℕ, ap, append-nil, append_assoc, string_bytes}
use Rattle.jb_args.specs.App.{commands_app}
use Rattle.jb_args.specs.Completions.{commands_completed, form_said, names_completed}
use Rattle.jb_args.proofs.CompletedRows.{commands-named}
use Rattle.jb_args.proofs.completing.completions.Goals as goal

-- a text that has grown
grown : (front part text : List ℕ) {new : List ℕ} → text ≡ front → new ≡ text ++ part → new ≡ front ++ part
grown front part text before more = more ∙ ap (λ t. t ++ part) before

-- five parts one after the other, bracketed to the left, are bracketed to the right
bracketed : (a b c d e : List ℕ) → (((a ++ b) ++ c) ++ d) ++ e ≡ a ++ (b ++ (c ++ (d ++ (e ++ []))))
bracketed a b c d e = simp (append_assoc, append-nil)

pub returns : goal.returns
returns c =
    let form = form_said c.form-form.result in
    let names = names_completed commands_app.subs in
    let lines = commands_completed form commands_app.subs in
    let named = c.in_ok-put_names.ensures ∙ ap (λ shapes. string_bytes c.in_ok-text.text ++ names_completed shapes) commands-named in
    let lined = c.in_ok-put_commands.ensures ∙ ap (λ shapes. string_bytes c.put_text.new.text ++ commands_completed form shapes) commands-named in (
      form,
      grown _ _ _ (grown _ _ _ (grown _ _ _ (grown _ _ _ c.in_ok-text.ensures.ok named) c.in_ok-put_text.ensures) lined) c.in_ok-put_text-2.ensures
          ∙ bracketed form.head names form.middle lines form.tail,
    )
