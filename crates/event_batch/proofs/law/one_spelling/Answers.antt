use Rattle.std.proofs.Common.{ap}
use Rattle.event_batch.specs.declared.batch.Batch.{Batch}
use Rattle.event_batch.specs.declared.format.Format.TheVariants.{Second}
use Rattle.event_batch.specs.Contents.{Spelled, content_of}
use Rattle.event_batch.proofs.BatchLemmas.{batch_equal}
use Rattle.event_batch.proofs.ContentLemmas.{is_spellable_of}
use Rattle.event_batch.proofs.ReadingLemmas.{one_spelling}
use Rattle.event_batch.proofs.law.one_spelling.Goals as goal

pub returns-clause-spelled : goal.returns-clause-spelled
returns-clause-spelled c = one_spelling

abbrev said : Batch → Spelled
said b = record { format = Second; content = content_of b }

pub returns-clause-bytes : goal.returns-clause-bytes
returns-clause-bytes c = λ a b e. batch_equal a b (ap (λ (s : Spelled). s.content) (one_spelling (said a) (said b) (is_spellable_of a) (is_spellable_of b) e))

pub returns-clause-content : goal.returns-clause-content
returns-clause-content c = batch_equal
