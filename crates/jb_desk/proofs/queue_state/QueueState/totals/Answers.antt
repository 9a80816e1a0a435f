use Rattle.std.proofs.Common.{◌≡◌, ap, sym, ◌∙◌, length, map, arith}
use Rattle.jb_cost.specs.Pieces.{joined}
use Rattle.std.specs.List.{sum_by}
use Rattle.jb_book.specs.Account.{Account, changed_by}
use Rattle.jb_book.specs.CallsToBook.{changes_in}
use Rattle.jb_desk.specs.Seats.{made_left}
use Rattle.jb_desk.proofs.SeatStops.{all-stopped, sums-joined}
use Rattle.jb_desk.proofs.queue_state.QueueState.totals.Given.{Over}
use Rattle.jb_desk.proofs.queue_state.QueueState.totals.Goals.{After-audit-2}
use Rattle.jb_desk.proofs.queue_state.QueueState.totals.Goals as goal

-- all that stopped is what the seats have left
whole : (g : Over) (c : After-audit-2 g) → (c.merged-spare_handles.result.0.amount ≡ c.args.self.register.book.shadow.next) × (length c.merged-spare_handles.result.1 ≡ length c.end-trail.result.1)
whole g c =
    let self = c.args.self in
    let parts = c.merged-spare_handles.ensures.parts in
    let left = self.handles_left in
    let all = c.requires.all in
    let known = c.requires.parts in
    let next = c.audit.ensures.whole (omega (arith, parts, left, all, known)) in
    let many = c.merged-spare_handles.ensures.many in
    let none = self.no_handles in
    let counted = self.handles_counted in
    let recorded = c.end-trail.ensures.counted in
    (omega (arith, next, counted), omega (arith, next, many, none, counted, recorded))

pub returns-clause-history : goal.returns-clause-history
returns-clause-history g c =
    let appender = c.end-trail.result.1 in
    let recorded = c.end-trail.ensures.counted in
    all-stopped appender c.audit-2.new.appender c.merged-spare_handles.result.1 (joined (map made_left c.args.lefts.items)) c.next-stops.result c.audit-2.ensures.kept c.merged-spare_handles.ensures.made
    (recorded ∙ sym (c.next-stops.ensures.value ∙ ap (λ (a : Account). a.shadow.next) c.book.ensures.value)) c.audit-2.ensures.stands
    (c.audit-2.ensures.whole (whole g (goal.at.returns-clause-history g c).After-audit-2).1)

pub returns-clause-sums : goal.returns-clause-sums
returns-clause-sums g c =
    let is = whole g (goal.at.returns-clause-sums g c).After-audit-2 in
    let stops = c.next-stops.ensures.value ∙ ap (λ (a : Account). a.shadow.next) c.book.ensures.value in
    let touched = c.changes-touched.ensures.value ∙ ap (λ (a : Account). a.changes) c.book-2.ensures.value in
    let handles = c.merged-spare_handles.ensures.handles in
    let none = c.args.self.no_handles in
    let all = is.0 in
    record {
      all_handles = omega (arith, stops, handles, none, all);
      all_touched =
          touched ∙ c.end-trail.ensures.touched ∙ ap changes_in (sym c.end-trail.ensures.parts.1) ∙ sym (c.audit-2.ensures.whole is.1 changed_by)
          ∙ ap (sum_by changed_by) c.merged-spare_handles.ensures.made ∙ sums-joined made_left changed_by c.args.lefts.items;
      few_handles = c.next-stops.ensures.few;
      few_touched = c.changes-touched.ensures.few;
    }

pub returns-clause-tiles : goal.returns-clause-tiles
returns-clause-tiles g c =
    let (past, follow, upto) = c.end-trail.ensures.tiles in
    let stops = c.next-stops.ensures.value ∙ ap (λ (a : Account). a.shadow.next) c.book.ensures.value in
    (past, follow, omega (arith, upto, stops))
