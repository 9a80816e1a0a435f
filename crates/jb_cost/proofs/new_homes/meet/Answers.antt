use Rattle.std.proofs.Common.{◌≡◌, ◌<◌, ◌||◌, not, is_some, vec_len, vec_capacity, T, true, false, length, sym, ap, ◌∙◌, arith, nat_cmp}
use Rattle.std.specs.BTreeSet.{contains}
use Rattle.std.specs.FinMap as map
use Rattle.std.proofs.lemmas.Bool.{not-true, not-false}
use Rattle.jb_handle.proofs.RisingHomes.{find-whole}
use Rattle.jb_cost.proofs.MeetHomes.{meets-none, meets-known, meets-new}
use Rattle.jb_block.proofs.Refusals.{on-refusal}
use Rattle.jb_cost.proofs.new_homes.meet.Goals as goal
use Rattle.jb_cost.proofs.new_homes.meet.Goals.{then-branch+then-is_copy, then-branch+else-is_copy, else-branch}

pub loop-home-init : goal.loop-home-init
loop-home-init c = record {
  meets = meets-none _ _ _ (c.in_ok-reserve.ensures.items ∙ c.clear.ensures.items);
  room = omega (arith, c.in_ok-reserve.ensures.ok, c.len.ensures, ap length c.entries-home-items.ensures, map.len-entries c.args.words.now);
}

pub loop-home-preserved : goal.loop-home-preserved
loop-home-preserved c =
    let rising : T (map.is_sorted nat_cmp c.entries-home-items.result.now) = rw c.entries-home-items.ensures (map.entries_sorted c.args.words.now) in
    let inside : c.loop-home.home-index < length c.entries-home-items.result.now = omega arith in
    let put = c.in_ok-insert.ensures.updates.0 in
    let added : c.in_ok-insert.field-0 ≡ not (contains nat_cmp c.loop-home.homes c.loop-home-item.result.0) = c.in_ok-insert.ensures.added in
    elim c.if-branch.branch [
      | then-branch+then-is_copy w ↦ record {
        meets = meets-new _ _ _ _ _ _ _ _ c.loop-home.invariant.meets rising c.loop-home-item.result c.loop-home-item.is inside put
            (not-true _ (sym added ∙ w.if-branch.true)) _ (ap (λ v. v.items) w.fresh-is ∙ w.push_reserved.ensures.items) true w.if-is_copy.ensures _ _ (omega (arith, w.copies-is)) (omega (arith, w.frees-is));
        room = omega (arith, c.loop-home.invariant.room, ap (λ v. vec_len v) w.fresh-is, ap (λ v. vec_capacity v) w.fresh-is, w.push_reserved.ensures.len, w.push_reserved.ensures.capacity);
      }
      | then-branch+else-is_copy w ↦ record {
        meets = meets-new _ _ _ _ _ _ _ _ c.loop-home.invariant.meets rising c.loop-home-item.result c.loop-home-item.is inside put
            (not-true _ (sym added ∙ w.if-branch.true)) _ (ap (λ v. v.items) w.fresh-is ∙ w.push_reserved.ensures.items) false w.if-is_copy.ensures _ _ (omega (arith, w.copies-is)) (omega (arith, w.frees-is));
        room = omega (arith, c.loop-home.invariant.room, ap (λ v. vec_len v) w.fresh-is, ap (λ v. vec_capacity v) w.fresh-is, w.push_reserved.ensures.len, w.push_reserved.ensures.capacity);
      }
      | else-branch w ↦ record {
        meets = meets-known _ _ _ _ _ _ _ _ c.loop-home.invariant.meets rising c.loop-home-item.result c.loop-home-item.is inside put
            (not-false _ (sym added ∙ w.if-branch.false)) _ (ap (λ v. v.items) w.fresh-is) _ _ w.copies-is w.frees-is;
        room = omega (arith, c.loop-home.invariant.room, ap (λ v. vec_len v) w.fresh-is, ap (λ v. vec_capacity v) w.fresh-is);
      }
    ]

pub returns-clause-homes : goal.returns-clause-homes
returns-clause-homes c q = c.loop-home.invariant.meets.homes_are q ∙ ap (λ b. contains nat_cmp c.args.homes.now q || b) (ap is_some (find-whole c.args.words.now _ c.entries-home-items.ensures c.loop-home.home-index q (omega arith)))

pub returns-clause-few : goal.returns-clause-few
returns-clause-few c = omega (arith, c.loop-home.invariant.meets.few, ap length c.entries-home-items.ensures, map.len-entries c.args.words.now)

pub returns-in_err-insert-clause-grows : goal.returns-in_err-insert-clause-grows
returns-in_err-insert-clause-grows c = on-refusal c.from_residual-in_err-insert.result (omega (arith, ap length c.entries-home-items.ensures, map.len-entries c.args.words.now))
