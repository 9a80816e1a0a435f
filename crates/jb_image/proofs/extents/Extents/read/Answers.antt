use Rattle.std.proofs.Common.{ap, ◌∙◌, rules, ◌≡◌, ◌≤◌, Err, refl}
use Rattle.std.specs.Option.{option_copied}
use Rattle.std.proofs.lemmas.List.Elements.{All-nil}
use Rattle.jb_image.specs.Lists.{listed_in}
use Rattle.jb_map.specs.declared.extent.Extent.{Extent}
use Rattle.jb_image.proofs.TakenWords.{taken-ends, taken-fails, taken-goes, taken-none}
use Rattle.jb_image.proofs.extents.Extents.read.Goals as goal

pub loop-left-init : goal.loop-left-init
loop-left-init c = rw c.new-list.ensures.items (record {
  taken = taken-none c.args.text.now;
  counted = refl;
  forward = All-nil (λ (e : Extent). e.first ≤ e.last);
})

pub loop-left-preserved : goal.loop-left-preserved
loop-left-preserved c =
    let first = ap (λ left. listed_in (option_copied left)) c.in-Some.is ∙ c.next_listed.ensures.words in
    let took = c.in_ok-blocks.ensures in
    record {
      taken = taken-goes _ _ c.loop-left.list.items c.loop-left.invariant.taken c.next_listed.result.0.now _ first _ took.takes;
      counted = took.counted;
      forward = took.forward;
    }

pub returns-in_err-blocks : goal.returns-in_err-blocks
returns-in_err-blocks c =
    let gave : c.from_residual.result ≡ Err c.in_err-blocks.field-0.0 = search rules in
    let first = ap (λ left. listed_in (option_copied left)) c.in-Some.is ∙ c.next_listed.ensures.words in
    let took = c.in_err-blocks.ensures in
    rw gave (taken-fails _ _ c.loop-left.list.items c.loop-left.invariant.taken c.next_listed.result.0.now _ first c.take_word.new.list.items _ took.takes)

pub returns : goal.returns
returns c = taken-ends _ c.loop-left.list.items c.loop-left.left c.loop-left.invariant.taken c.in_default.not-Some
