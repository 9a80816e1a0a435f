use Rattle.std.proofs.Common.{◌<◌, leb, leb-true, leb-false, sym, subst, arith, rules}
use Rattle.std.proofs.lemmas.List.Sorted.{IsPartitionPoint-from_clause, IsPartitionedBy-leb}
use Rattle.jb_deck.specs.declared.done.Entry.{Entry}
use Rattle.jb_deck.specs.Done.{start_of}
use Rattle.jb_book.specs.Account.{IsSettledBy}
use Rattle.jb_book.proofs.TrailEntries.{pasts-rise, settled-at, none-at}
use Rattle.jb_book.proofs.follow.number_in.Goals as goal

pub returns-clause-some : goal.returns-clause-some
returns-clause-some c = λ settled is.
    let es = c.args.entries.now in
    let ticket = c.args.ticket in
    let e = c.in_ok-entry.entry.now in
    let here = c.in_ok-entry.ensures.lookup.3 in
    let there = here.0 in
    let parted = IsPartitionedBy-leb (λ (x : Entry). x.past) es ticket (pasts-rise (start_of es) 0 settled es is) in
    let point = IsPartitionPoint-from_clause (λ (x : Entry). leb x.past ticket) es _ c.partition_point-before.ensures.partitioned parted (λ a r q k. search rules) in
    subst (λ (x : Entry). IsSettledBy es ticket x.number × (ticket < settled)) (sym (here.1 e))
    (settled-at (start_of es) 0 settled ticket es c.partition_point-before.result e is c.requires there
    (λ k h. leb-true _ _ (point.0 k e (omega arith) h))
    (leb-false _ _ (point.1 c.partition_point-before.result e (omega arith) there)))

pub returns-in_err-entry-clause-none : goal.returns-in_err-entry-clause-none
returns-in_err-entry-clause-none c = rw c.from_residual.ensures (λ settled is.
    let none : Entry = record { first = 0; past = 0; number = 0; blocks = 0 } in
    let es = c.args.entries.now in
    let ticket = c.args.ticket in
    let over = c.in_err-entry.ensures.lookup.3 in
    let parted = IsPartitionedBy-leb (λ (x : Entry). x.past) es ticket (pasts-rise (start_of es) 0 settled es is) in
    let point = IsPartitionPoint-from_clause (λ (x : Entry). leb x.past ticket) es _ c.partition_point-before.ensures.partitioned parted (λ a r q k. search rules) in
    none-at (start_of es) 0 settled ticket es none is c.requires (λ k h. leb-true _ _ (point.0 k none (omega arith) (omega (arith, over, h)))))
