use Rattle.std.proofs.Common.{◌<◌, List, [], ◌∷◌, All, length, refl, sym, subst, arith}
use Rattle.jb_handle.specs.declared.stopped.Stopped.{Stopped}
use Rattle.std.proofs.lemmas.List.Elements.{All-nil, All-cons}
use Rattle.std.proofs.lemmas.Option.{slice_get_within}
use Rattle.jb_book.specs.CallsToBook.{IsInHistory}
use Rattle.jb_log.specs.Follows.{StandsBy}
use Rattle.proof_clients.specs.Examples.{wrote}
use Rattle.proof_clients.specs.ExampleMarks.{first}
use Rattle.proof_clients.specs.ExampleNotes.{IsSure}
use Rattle.proof_clients.proofs.ExampleReads.{first-noted, first-only, none-noted, read-first}
use Rattle.proof_clients.proofs.ExampleWords.{own-copy, other-copy}
use Rattle.proof_clients.proofs.examples.notes.reads_as.Goals as goal

given_first : All (IsInHistory (first ∷ [])) (wrote [] 0 (1 ∷ []) ∷ [])
given_first = All-cons (IsInHistory (first ∷ [])) (wrote [] 0 (1 ∷ [])) [] refl (All-nil (IsInHistory (first ∷ [])))

pub returns-clause-meets : goal.returns-clause-meets
returns-clause-meets g c = record {
  given = wrote [] 0 (1 ∷ []) ∷ [];
  tickets = (refl, tt);
  are = given_first;
  sees = first-only;
  stands = λ known is_sure. subst (λ w. StandsBy w (g.H.Origin.begun.homes 1) []) (sym (own-copy [])) refl;
}

pub returns-clause-meets_early : goal.returns-clause-meets_early
returns-clause-meets_early g c = record {
  given = [];
  tickets = tt;
  are = All-nil (IsInHistory (first ∷ []));
  sees = λ ticket number is. absurd (none-noted ticket number is);
  stands = λ known is_sure. refl;
}

pub returns-clause-meets_other : goal.returns-clause-meets_other
returns-clause-meets_other g c =
    let homes = g.H.Origin.begun.homes in
    record {
      given = wrote [] 0 (1 ∷ []) ∷ [];
      tickets = (refl, tt);
      are = given_first;
      sees = first-only;
      stands = λ known is_sure. subst (λ w. StandsBy w (homes 2) (homes 2)) (sym (other-copy [])) refl;
    }

pub returns-clause-not_other_bytes : goal.returns-clause-not_other_bytes
returns-clause-not_other_bytes g c found known other reads =
    other (subst (λ w. StandsBy w (g.H.Origin.begun.homes 1) found) (own-copy []) (read-first g.H.Origin.begun IsSure known tt 1 found reads))

pub returns-clause-not_early : goal.returns-clause-not_early
returns-clause-not_early g c known other reads =
    let homes = g.H.Origin.begun.homes in
    other (subst (λ w. StandsBy w (homes 1) (homes 1)) (own-copy []) (read-first g.H.Origin.begun IsSure known tt 1 (homes 1) reads))

pub returns-clause-not_other_home : goal.returns-clause-not_other_home
returns-clause-not_other_home g c known other reads =
    let homes = g.H.Origin.begun.homes in
    other (sym (subst (λ w. StandsBy w (homes 2) []) (other-copy []) (read-first g.H.Origin.begun IsSure known tt 2 [] reads)))

pub returns-clause-not_stopped : goal.returns-clause-not_stopped
returns-clause-not_stopped g c found reads = go reads.given reads.are (reads.sees 0 7 first-noted)
  where
    go : (given : List Stopped) → All (IsInHistory []) given → 0 < length given → ⊥
    go [] are some = omega (arith, some)
    go (h ∷ given) are some = omega (arith, slice_get_within [] h.ticket h.words (are 0 h (omega arith)))
