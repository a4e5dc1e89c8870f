-- The sources that are being read, and the sources of a script that they stand for.
use Rattle.std.specs.Prelude.{◌≡◌, ℕ, ◌≤◌, List, [], ◌∷◌, Option, IfSome, is_some}
use Rattle.importer.specs.Coming.{BatchesOn, Ended, Importing, IsLost, IsReadFault}
use Rattle.importer.specs.Laws.{starting}
use Rattle.script_desk.specs.Desks.{Desk, Plays}
use Rattle.step_script.specs.Playing.{Answer, IsAnswerOf, Source, Tally, WayIs, offer}

-- a source that is being read: its number and name, what came of its batches, its import, and the source as it is
pub record Fed (S : Type 0) : Type 0 where
  pub number : ℕ
  pub name : List ℕ
  pub tally : Tally
  pub at : Importing
  pub source : S

-- what can be said of a source of the outside: what it has left, and its count of faults
pub record Outward (S : Type 0) : Type 0 where
  pub left : S → Option (List ℕ)
  pub faults : S → ℕ

-- An import has given, of a source that had these bytes, what the script's source has given.
pub record IsHeard {S : Type 0} (out : Outward S) (bytes : Option (List ℕ)) (batch : ℕ) (x : Source) (at : Importing) (source : S) : Type 0 where
  pub number : at.number ≡ x.number
  pub rows : at.rows ≡ batch
  pub gave : BatchesOn (starting x.number batch) at bytes (out.left source) x.given
  pub there : ¬ IsLost at.standing
  pub ended : IfSome x.end (λ end. at.standing ≡ Ended end)
  pub failed : IsReadFault at.standing → 1 ≤ out.faults source
  pub sound : ¬ IsReadFault at.standing → out.faults source ≡ 0
  pub tells : is_some (out.left source) ≡ is_some bytes

-- a source that is being read stands for one of the script
pub record IsFed {S : Type 0} (out : Outward S) (told : List ℕ → Option (List ℕ)) (batch : ℕ) (x : Source) (f : Fed S) : Type 0 where
  pub number : f.number ≡ x.number
  pub name : f.name ≡ x.name
  pub tally : f.tally ≡ x.tally
  pub way : WayIs x.end x.tally
  pub heard : IsHeard out (told x.name) batch x f.at f.source

-- the same of each of some, in order
abbrev pub AreFed : {S : Type 0} → Outward S → (List ℕ → Option (List ℕ)) → ℕ → List Source → List (Fed S) → Type 0
AreFed out told batch [] [] = Unit {0}
AreFed out told batch (x ∷ xs) [] = ⊥
AreFed out told batch [] (f ∷ fs) = ⊥
AreFed out told batch (x ∷ xs) (f ∷ fs) = IsFed out told batch x f × AreFed out told batch xs fs

abbrev pub fed_tally : {S : Type 0} → Fed S → Tally → Fed S
fed_tally f tally = record { number = f.number; name = f.name; tally = tally; at = f.at; source = f.source }

-- an accept by what the source answered, if it was asked
pub record Accepts {S : Type 0} (out : Outward S) (told : List ℕ → Option (List ℕ)) (batch : ℕ) (x : Source) (f : Fed S) (desk now : Desk) (text text_now : List ℕ) : Type 0 where
  pub answer : Option Answer
  pub asked : IsAnswerOf x.tally.refused x answer
  pub fed : IsFed out told batch (offer answer x desk).source f
  pub plays : Plays (offer answer x desk).played now text text_now
