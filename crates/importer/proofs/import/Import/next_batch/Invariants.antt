-- The rows gathered are those of the batch that isn't closed yet, and nothing was given.
use Rattle.std.proofs.Common.{◌≡◌, ◌≤◌, ◌+◌, [], Option, length, is_some}
use Rattle.importer.specs.Coming.{Ended, Importing, Sourced, steps_left}
use Rattle.importer.specs.Turns.{AreHeld}
use Rattle.importer.specs.declared.ends.ImportEnd.{ImportEnd}
use Rattle.importer.proofs.TurnLemmas.{FaultsFar, SoFar}
use Rattle.importer.proofs.import.Import.next_batch.Given as goal

abbrev pub invariant-loop-layout : goal.invariant-loop-layout
invariant-loop-layout g l = record {
  goes : SoFar l.initial.self.at l.self.at l.gathered (g.S.Source.left l.initial.self.source) (g.S.Source.left l.self.source);
  held : AreHeld l.self.at l.gathered;
  stays : (end : Option ImportEnd) → l.initial.self.at.standing ≡ Ended end → (l.self ≡ l.initial.self) × (l.gathered ≡ []);
  less : length l.gathered + steps_left l.self.at.standing ≤ steps_left l.initial.self.at.standing;
  number : l.self.at.number ≡ l.initial.self.at.number;
  rows : l.self.at.rows ≡ l.initial.self.at.rows;
  tells : is_some (g.S.Source.left l.self.source) ≡ is_some (g.S.Source.left l.initial.self.source);
  faults : FaultsFar (λ (s : Sourced Importing g.row.S.Denot). s.at.standing) l.initial.self l.self (g.S.Source.faults l.initial.self.source) (g.S.Source.faults l.self.source);
}

abbrev pub decreases-loop-layout : goal.decreases-loop-layout
decreases-loop-layout g l = steps_left l.self.at.standing
