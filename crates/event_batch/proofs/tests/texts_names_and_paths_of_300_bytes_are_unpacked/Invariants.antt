use Rattle.event_batch.proofs.tests.texts_names_and_paths_of_300_bytes_are_unpacked.Given as goal

abbrev pub ghosts-repacked : goal.ghosts-repacked
ghosts-repacked g a = record { name = a.blank.name; parts = a.blank.parts }
