use Rattle.event_batch.proofs.tests.each_kind_has_its_bytes.Given as goal

abbrev pub ghosts-repacked : goal.ghosts-repacked
ghosts-repacked g a = record { name = a.blank.name; parts = a.blank.parts }
