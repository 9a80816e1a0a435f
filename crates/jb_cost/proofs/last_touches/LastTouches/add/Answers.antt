use Rattle.std.proofs.Common.{◌≡◌, ◌+◌, ◌∷◌, ◌++◌, [], length, ap, ◌∙◌, arith, nat_cmp}
use Rattle.std.specs.BTreeMap.{get}
use Rattle.std.specs.FinMap as map
use Rattle.jb_cost.specs.LastTouch.{later_touch}
use Rattle.jb_cost.specs.Starts.{priced_of}
use Rattle.jb_cost.proofs.TouchCosts.{follows-more, leasts-more}
use Rattle.jb_cost.proofs.SpanChanges.{fit-more, bests-kept}
use Rattle.jb_cost.proofs.last_touches.LastTouches.add.Goals as goal

pub returns-clause-sound : goal.returns-clause-sound
returns-clause-sound c =
    let taken = c.in_ok-take_over.ensures in
    let os = c.args.self.now.owned.items in
    let was = c.args.self.now.shortcuts in
    let pushed = c.in_ok-push.ensures in
    let at : c.len-from.result ≡ length os = omega arith in
    record {
      owners = taken.owners;
      shortcuts = fit-more os c.take_over.new.owned.items c.of-least.result was c.push.new.self c.take_over.new.spans.items c.requires.sound.shortcuts taken.number taken.less taken.spans
          (pushed.stretches ∙ ap (λ m. was.stretches.items ++ record { from = m; least = c.of-least.result } ∷ []) at) pushed.places pushed.spans;
    }

pub returns-clause-tells : goal.returns-clause-tells
returns-clause-tells c g hs n ps tells within is start =
    let sound = c.requires.sound in
    let taken = c.in_ok-take_over.ensures in
    let at : c.len-from.result ≡ n = omega (arith, tells.number) in
    let before = c.args.self.now.shortcuts.stretches.items in
    let number : length c.take_over.new.owned.items ≡ n + 1 = omega (arith, taken.number, tells.number) in
    let next = c.push.new.self in
    let least : c.of-least.result ≡ priced_of n c.args.start = c.of-least.ensures ∙ ap (λ m. priced_of m c.args.start) at in
    let items : next.stretches.items ≡ before ++ record { from = n; least = priced_of n c.args.start } ∷ [] = c.in_ok-push.ensures.stretches ∙ (λ k. before ++ record { from = at k; least = least k } ∷ []) in
    record {
      geometry = tells.geometry;
      number = number;
      within = omega (arith, within);
      follows = follows-more hs c.args.handle.now n c.args.self.now.last c.take_over.new.last within is
          (λ q t was. omega (arith, sound.owners.below q t was, tells.number))
          (λ q. taken.follows q ∙ ap (λ m. later_touch m (map.get c.args.handle.now.words q) (get nat_cmp c.args.self.now.last q)) tells.number)
          tells.follows;
      prices = record {
        leasts =
            rw (number, items) (leasts-more ps before n c.args.start (omega (arith, sound.shortcuts.number, tells.number)) (rw tells.number at tells.prices.leasts) start);
        bests = λ k s known. bests-kept _ _ _ c.take_over.new.spans.items taken.spans sound.shortcuts.spans (omega (arith, taken.number)) ps tells.prices.bests k s (c.in_ok-push.ensures.spans k s known);
      };
    }
