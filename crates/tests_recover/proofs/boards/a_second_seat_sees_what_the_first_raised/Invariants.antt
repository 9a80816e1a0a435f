use Rattle.tests_recover.proofs.boards.a_second_seat_sees_what_the_first_raised.Given as goal

abbrev pub ghosts-seen : goal.ghosts-seen
ghosts-seen g a = record { name = a.blank.name; parts = a.blank.parts }
