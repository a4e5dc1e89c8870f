use Rattle.indexer.proofs.tests.two_indexed_batches_are_merged_to_one_part.Given as goal

abbrev pub ghosts-two_as_one : goal.ghosts-two_as_one
ghosts-two_as_one g a = record { name = a.blank.name; parts = a.blank.parts }
