use Rattle.std.proofs.Common.{◌≡◌, refl, sym, ap, ◌∙◌, inl, inr, ⊎_elim}
use Rattle.std.proofs.lemmas.Bool.{OnTrue_from}
use Rattle.jb_deck.specs.Done.{past_after}
use Rattle.jb_desk.specs.Ends.{is_shut}
use Rattle.jb_journal.proofs.RunEnds.{settled-as}
use Rattle.jb_journal.proofs.closing.tell.Goals as goal

pub returns-in-Ok : goal.returns-in-Ok
returns-in-Ok g c =
    let all = c.are_all-are_all.ensures c.in-Ok.ensures.ok.0 in
    let told : c.settled_handles-settled.result ≡ past_after 0 c.args.closed.trail.items = c.settled_handles-settled.ensures ∙ ap (past_after 0) c.deref.ensures.value in
    let settled = settled-as c.settled_handles-settled.result c.args.closed.handles c.args.closed.trail.items told c.requires in
    record {
      told = (refl, refl, refl, refl, refl, refl, all.0, sym c.len.ensures ∙ all.1);
      ends = λ asked checked. record { follows = settled.0; within = settled.1; all = OnTrue_from (is_shut c.in-Ok.commit) (c.settled_handles-settled.result ≡ c.args.closed.handles) c.in-Ok.ensures.ok.1; checked = checked };
      faults = tt;
    }

pub returns : goal.returns
returns g c = record {
  told = tt;
  ends = tt;
  faults = record {
    same_disk = refl;
    same_answers = refl;
    why = ⊎_elim inl (λ is. let unused = c.is_unused-is_unused.ensures is.2 in inr (is.0, is.1, sym c.deref-2.ensures.value ∙ unused.0, unused.1)) c.in-Err.ensures.err;
  };
}
