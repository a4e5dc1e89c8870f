use Rattle.archive_cache.proofs.tests.a_cache_of_two_asked_for_0_1_0_2_1.Given as goal

abbrev pub ghosts-counted : goal.ghosts-counted
ghosts-counted g a = record { name = a.blank.name; parts = a.blank.parts }
