use Rattle.worker_pool.proofs.tests.a_query_is_told_the_indexed_past_once.Given as goal

abbrev pub ghosts-two_pages : goal.ghosts-two_pages
ghosts-two_pages g a = record { name = a.blank.name; parts = a.blank.parts }
