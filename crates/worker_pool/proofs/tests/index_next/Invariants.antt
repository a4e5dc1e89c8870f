use Rattle.worker_pool.proofs.tests.index_next.Given as goal

abbrev pub ghosts-index_with : goal.ghosts-index_with
ghosts-index_with g a = record { name = a.blank.name; parts = a.blank.parts }
