use Rattle.tests_recover.proofs.boards.two_threads_raise_and_see_counts_in_order.Given as goal

abbrev pub ghosts-raced : goal.ghosts-raced
ghosts-raced g a = record { name = a.blank.name; parts = a.blank.parts }
