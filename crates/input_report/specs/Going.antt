-- How a report goes on from where its input stands.
use Rattle.std.specs.Prelude.{◌≡◌, ℕ, ◌<◌, List, [], ◌∷◌, Option}
use Rattle.vast_io.specs.Causes.{Rose}
use Rattle.vast_io.specs.Told.{WritesPart}
use Rattle.vast_value.specs.declared.cell.Cell.{Cell}
use Rattle.zeek_log.specs.Reader.{StepHas}
use Rattle.zeek_log.specs.Table.{LogStep}
use Rattle.importer.specs.declared.ends.ImportEnd.{ImportEnd}
use Rattle.importer.specs.Coming.{HasFaults, IsLost, IsQuiet, Standing, StepsOn, heading_at, step_at, steps_left}
use Rattle.importer.specs.Coming as coming
use Rattle.input_report.specs.declared.report.Next.{Next}
use Rattle.input_report.specs.declared.report.Next.TheVariants.{Step, Ended, Refused}
use Rattle.input_report.specs.Writing.{Sends}

-- the step is the first of what was still to come, and the input stands behind it
pub record StepsTo (old new : Standing) (before now : Option (List ℕ)) (faults faults_now : ℕ) (step : LogStep) : Type 0 where
  pub next : StepsOn old new before now (step ∷ [])
  pub counts : HasFaults old new faults faults_now
  pub has : StepHas (heading_at old) (heading_at new) step
  pub there : ¬ IsLost new
  pub less : steps_left new < steps_left old

-- nothing but this end was still to come
pub record EndsTo (old : Standing) (before now : Option (List ℕ)) (faults faults_now : ℕ) (end : Option ImportEnd) : Type 0 where
  pub next : StepsOn old (coming.Ended end) before now []
  pub counts : HasFaults old (coming.Ended end) faults faults_now
  pub quiet : IsQuiet old before now faults faults_now

-- the source is as it was
pub record StaysAt (before now : Option (List ℕ)) (faults faults_now : ℕ) : Type 0 where
  pub left : now ≡ before
  pub count : faults_now ≡ faults

abbrev pub GoesTo : Next → Standing → Standing → List Cell → Option (List ℕ) → Option (List ℕ) → ℕ → ℕ → Type 0
GoesTo (Step moved) old new row before now faults faults_now = StepsTo old new before now faults faults_now (step_at new row moved)
GoesTo (Ended end) old new row before now faults faults_now = EndsTo old before now faults faults_now end
GoesTo Refused old new row before now faults faults_now = StaysAt before now faults faults_now

-- what was written of what was held: its first part, the rest being held, and where the sink failed some of it
abbrev pub SendsAt : Next → List ℕ → List ℕ → Option (List ℕ) → Option (List ℕ) → Type 0
SendsAt (Step moved) held left before now = Sends held left before now
SendsAt (Ended end) held left before now = Sends held left before now
SendsAt Refused held left before now = WritesPart before now held

-- the sink's count of faults rose exactly where it failed
abbrev pub IsCauseAt : Next → ℕ → ℕ → Type 0
IsCauseAt (Step moved) faults faults_now = faults_now ≡ faults
IsCauseAt (Ended end) faults faults_now = faults_now ≡ faults
IsCauseAt Refused faults faults_now = Rose faults faults_now
