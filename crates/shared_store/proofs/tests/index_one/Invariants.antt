use Rattle.shared_store.proofs.tests.index_one.Given as goal

abbrev pub ghosts-index_next : goal.ghosts-index_next
ghosts-index_next g a = record { name = a.blank.name; parts = a.blank.parts }
