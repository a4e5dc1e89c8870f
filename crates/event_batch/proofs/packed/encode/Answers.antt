use Rattle.std.proofs.Common.{◌≡◌, List, ℕ}
use Rattle.event_batch.specs.declared.batch.Batch.{Batch}
use Rattle.event_batch.specs.declared.format.Format.TheVariants.{Second}
use Rattle.event_batch.specs.Contents.{Spelled, content_of}
use Rattle.event_batch.specs.Spelling.{spelling, Spells}
use Rattle.event_batch.proofs.ContentLemmas.{is_spellable_of}
use Rattle.event_batch.proofs.PackingLemmas.{says, is_spelled}
use Rattle.event_batch.proofs.packed.encode.Goals as goal

abbrev said : Batch → Spelled
said b = record { format = Second; content = content_of b }

spells : (block : List ℕ) (b : Batch) → block ≡ spelling (said b) → Spells block (said b)
spells block b e = record { spelled = e; spellable = is_spellable_of b }

pub invariant_of-result : goal.invariant_of-result
invariant_of-result c = rw c.in_ok-block.ensures.ok (is_spelled _ (said c.args.batch.now) (spells _ c.args.batch.now c.in_ok-spell.ensures))

pub returns : goal.returns
returns c = rw c.in_ok-block.ensures.ok (says _ (said c.args.batch.now) (spells _ c.args.batch.now c.in_ok-spell.ensures))
