use Rattle.std.proofs.Common.{rules, ◌<◌, ◌+◌, ◌^◌, sym, ◌∙◌}
use Rattle.jb_map.specs.declared.extent.Extent.{Extent}
use Rattle.jb_image.proofs.PartedLists.{alike-more, fits-more, parts-ended, parts-first, parts-here, stands-more}
use Rattle.jb_image.proofs.parting.first_parting.Goals as goal

pub returns-then-i-one : goal.returns-then-i-one
returns-then-i-one c =
    let is = c.places.invariant in
    rw c.ended.ensures (parts-ended is.one is.other is.alike c.if-i-one.true)

pub returns-then-j-other : goal.returns-then-j-other
returns-then-j-other c =
    let is = c.places.invariant in
    parts-first is.one is.other is.alike (record { first = 0; last = 0 }) (search rules) c.if-j-other.true

pub returns-then-at : goal.returns-then-at
returns-then-at c =
    let is = c.places.invariant in
    parts-here is.one is.other is.alike (record { first = 0; last = 0 }) (record { first = 0; last = 0 }) (search rules) (search rules)
    (λ same. c.if-at.true (c.at.ensures ∙ same ∙ sym c.at-in-places.ensures))

pub overflow_add-at : goal.overflow_add-at
overflow_add-at c =
    let below : c.places.at + c.min-both.result < 2 ^ 64 = fits-more c.places.invariant.one (record { first = 0; last = 0 }) (search rules) c.min-both.result (search rules) c.requires in
    search rules

pub places-preserved : goal.places-preserved
places-preserved c =
    let is = c.places.invariant in
    let d : Extent = record { first = 0; last = 0 } in
    let both = c.min-both.result in
    record {
      one = rw (c.passed.ensures.next, c.passed.ensures.at, c.blocks-in-places.ensures) (stands-more is.one d (search rules) both (search rules));
      other = rw (c.passed-in-places.ensures.next, c.passed-in-places.ensures.at, c.blocks-in-places-2.ensures) (stands-more is.other d (search rules) both (search rules));
      alike = alike-more is.one is.other is.alike d d (search rules) (search rules) both (search rules) (search rules) (search rules);
    }
