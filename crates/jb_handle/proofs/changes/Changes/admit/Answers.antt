use Rattle.std.proofs.Common.{◌<◌, ◌≤◌, Some, ap, sym, subst, ◌∙◌}
use Rattle.jb_block.specs.Size.{bytes_of}
use Rattle.jb_handle.specs.HeldChanges.{Held, IsKept, refusal_at}
use Rattle.jb_handle.specs.declared.changes.TouchFault.TheVariants.{NoCredit}
use Rattle.jb_handle.proofs.AdmittedChange.{refused-spent, refused-range, refused-length, granted-length, granted-free}
use Rattle.jb_handle.proofs.changes.Changes.admit.Goals as goal

pub returns-then-is_spent-clause-err : goal.returns-then-is_spent-clause-err
returns-then-is_spent-clause-err c =
    refused-spent c.args.self.now c.args.home c.args.len (sym c.is_spent.ensures ∙ c.if-is_spent.true) ∙ ap (λ (h : Held). Some (NoCredit h.credits)) (sym c.self.view_is)

pub returns-then-home-self-clause-err : goal.returns-then-home-self-clause-err
returns-then-home-self-clause-err c =
    let beyond = subst (λ (h : Held). h.shape.homes ≤ c.args.home) c.self.view_is c.if-home-self.true in
    refused-range c.args.self.now c.args.home (sym c.is_spent.ensures ∙ c.if-is_spent.false) c.args.len beyond

pub returns-in-Some-clause-err : goal.returns-in-Some-clause-err
returns-in-Some-clause-err c =
    let there = subst (λ (h : Held). c.args.home < h.shape.homes) c.self.view_is c.if-home-self.false in
    let size = c.bytes.ensures.value ∙ ap (λ (h : Held). bytes_of h.shape.bs) c.self.view_is in
    ap (refusal_at c.args.self.now c.args.home) c.in-Some.is
    ∙ refused-length c.args.self.now c.args.home (sym c.is_spent.ensures ∙ c.if-is_spent.false) c.in-Some.len c.bytes.result there size c.if-len-bytes.true

pub returns-in_default-clause-ok : goal.returns-in_default-clause-ok
returns-in_default-clause-ok c =
    let there = subst (λ (h : Held). c.args.home < h.shape.homes) c.self.view_is c.if-home-self.false in
    let size = c.bytes.ensures.value ∙ ap (λ (h : Held). bytes_of h.shape.bs) c.self.view_is in
    ap (refusal_at c.args.self.now c.args.home) c.in-Some.is
    ∙ granted-length c.args.self.now c.args.home (sym c.is_spent.ensures ∙ c.if-is_spent.false) c.in-Some.len c.bytes.result there size c.if-len-bytes.false

pub returns-in_default-2-clause-ok : goal.returns-in_default-2-clause-ok
returns-in_default-2-clause-ok c =
    let there = subst (λ (h : Held). c.args.home < h.shape.homes) c.self.view_is c.if-home-self.false in
    ap (refusal_at c.args.self.now c.args.home) c.in_default.is ∙ granted-free c.args.self.now c.args.home (sym c.is_spent.ensures ∙ c.if-is_spent.false) there

-- the changes are kept as ever, and none of the reasons is that memory ran out

pub returns-then-is_spent-clause-kept : goal.returns-then-is_spent-clause-kept
returns-then-is_spent-clause-kept c = subst IsKept c.self.view_is c.self.invariant

pub returns-then-home-self-clause-kept : goal.returns-then-home-self-clause-kept
returns-then-home-self-clause-kept c = subst IsKept c.self.view_is c.self.invariant

pub returns-in-Some-clause-kept : goal.returns-in-Some-clause-kept
returns-in-Some-clause-kept c = subst IsKept c.self.view_is c.self.invariant

pub returns-in_default-clause-kept : goal.returns-in_default-clause-kept
returns-in_default-clause-kept c = subst IsKept c.self.view_is c.self.invariant

pub returns-in_default-2-clause-kept : goal.returns-in_default-2-clause-kept
returns-in_default-2-clause-kept c = subst IsKept c.self.view_is c.self.invariant

pub returns-then-is_spent-clause-reason : goal.returns-then-is_spent-clause-reason
returns-then-is_spent-clause-reason c = λ same. let no : ⊥ = cc in no

pub returns-then-home-self-clause-reason : goal.returns-then-home-self-clause-reason
returns-then-home-self-clause-reason c = λ same. let no : ⊥ = cc in no

pub returns-in-Some-clause-reason : goal.returns-in-Some-clause-reason
returns-in-Some-clause-reason c = λ same. let no : ⊥ = cc in no
