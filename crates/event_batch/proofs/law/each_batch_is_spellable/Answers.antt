use Rattle.event_batch.proofs.ContentLemmas.{is_content_of, is_spellable_of}
use Rattle.event_batch.proofs.law.each_batch_is_spellable.Goals as goal

pub returns-clause-content : goal.returns-clause-content
returns-clause-content c = is_content_of

pub returns-clause-spellable : goal.returns-clause-spellable
returns-clause-spellable c = is_spellable_of
