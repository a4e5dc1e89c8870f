use Rattle.event_batch.proofs.tests.format_1_is_read_and_written_as_format_2.Given as goal

abbrev pub ghosts-repacked : goal.ghosts-repacked
ghosts-repacked g a = record { name = a.blank.name; parts = a.blank.parts }
