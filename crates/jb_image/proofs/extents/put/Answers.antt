use Rattle.std.proofs.Common.{rules, ap, sym, ◌∙◌}
use Rattle.jb_image.specs.Lists.{is_attached}
use Rattle.jb_image.proofs.Attached.{attached-push, attached-set}
use Rattle.jb_image.proofs.extents.put.Goals as goal

pub returns-then-goes_on-clause-put : goal.returns-then-goes_on-clause-put
returns-then-goes_on-clause-put c =
    attached-set c.args.list.now.items c.len-n.result c.index_mut.result.now _ c.args.extent (search rules) c.index_mut.ensures.value
    (ap (λ es. is_attached es c.args.extent) (sym c.as_slice.ensures.value) ∙ sym c.goes_on.ensures ∙ c.if-goes_on.true)

pub returns-clause-put : goal.returns-clause-put
returns-clause-put c =
    let apart = ap (λ es. is_attached es c.args.extent) (sym c.as_slice.ensures.value) ∙ sym c.goes_on.ensures ∙ c.if-goes_on.false in
    c.in_ok-push.ensures.items ∙ sym (attached-push c.args.list.now.items c.args.extent apart)
