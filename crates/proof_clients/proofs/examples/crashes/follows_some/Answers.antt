use Rattle.std.proofs.Common.{sym, arith}
use Rattle.proof_clients.proofs.ExampleCrashes.{left-none, left-two, not-left}
use Rattle.proof_clients.proofs.examples.crashes.follows_some.Goals as goal

pub returns-clause-meets : goal.returns-clause-meets
returns-clause-meets c own next size count old new image none = left-two own next size count old new image 0 (omega arith) none

pub returns-clause-meets_settled : goal.returns-clause-meets_settled
returns-clause-meets_settled c own next size count old new image none = left-two own next size count old new image 2 (omega arith) none

pub returns-clause-meets_none : goal.returns-clause-meets_none
returns-clause-meets_none c own next size count old new image none = left-none own next size count old new image none

pub returns-clause-not_lost : goal.returns-clause-not_lost
returns-clause-not_lost c own next size count number old new image apart none left =
    not-left own next size count old new image 2 number _ none left
    (λ low is shown. absurd (omega arith))
    (λ low is shown. absurd (omega arith))
    (λ low is shown. apart (shown 2))
    (λ low is shown. apart (shown 2))

pub returns-clause-not_without_second : goal.returns-clause-not_without_second
returns-clause-not_without_second c own next size count number old new image apart none left =
    not-left own next size count old new image 0 number _ none left
    (λ low is shown. apart (sym (shown 1)))
    (λ low is shown. apart (sym (shown 4)))
    (λ low is shown. apart (shown 2))
    (λ low is shown. apart (shown 2))

pub returns-clause-not_half : goal.returns-clause-not_half
returns-clause-not_half c own next size count number old new image apart none left =
    not-left own next size count old new image 0 number _ none left
    (λ low is shown. apart (sym (shown 1)))
    (λ low is shown. apart (sym (shown 2)))
    (λ low is shown. apart (shown 3))
    (λ low is shown. apart (shown 3))

pub returns-clause-not_other_home : goal.returns-clause-not_other_home
returns-clause-not_other_home c own next size count number old new image apart none left =
    not-left own next size count old new image 0 number _ none left
    (λ low is shown. apart (sym (shown 7)))
    (λ low is shown. apart (sym (shown 7)))
    (λ low is shown. apart (sym (shown 7)))
    (λ low is shown. apart (sym (shown 7)))

pub returns-clause-not_number : goal.returns-clause-not_number
returns-clause-not_number c own next size count old new image apart none left =
    not-left own next size count old new image 0 next _ none left
    (λ low is shown. apart (sym (shown 1)))
    (λ low is shown. absurd (omega arith))
    (λ low is shown. absurd (omega arith))
    (λ low is shown. absurd (omega arith))
