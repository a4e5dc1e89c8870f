-- Scripts played line by line.
use Rattle.std.specs.Prelude.{◌≡◌, ℕ, ◌+◌, ◌≤◌, List, [], ◌∷◌, ◌++◌, Option, Result, Ok, Err}
use Rattle.std.specs.Io.KnownBytes.{append_known}
use Rattle.vast_io.specs.Causes.{Rose}
use Rattle.vast_io.specs.Told.{WritesPart}
use Rattle.script_desk.specs.Desks.{Desk}
use Rattle.script_lines.specs.Lines.{Asked, Source as SourceLine}
use Rattle.step_script.specs.declared.player.Stop.{Stop}
use Rattle.step_script.specs.declared.player.Stop.TheVariants.{Unopened, Unwritten, Memory}
use Rattle.step_script.specs.Feeds.{AreFed, Fed, Outward}
use Rattle.step_script.specs.Playing.{Answer, IsAnswered, Playing, play, reads_by}

-- Lines are played in order, each with what its source answers, if it asks one.
abbrev pub Runs : List Asked → Playing → Playing → Type 0
Runs [] p q = q ≡ p
Runs (line ∷ lines) p q = (answer : Option Answer) × (IsAnswered line p answer × Runs lines (play line answer p) q)

-- what a player holds
pub record Held (S : Type 0) : Type 0 where
  pub batch : ℕ
  pub desk : Desk
  pub feeds : List (Fed S)
  pub text : List ℕ

-- A player stands where a script does: what was written of the text and what is held of it are the text.
pub record Stands {S : Type 0} (out : Outward S) (told : List ℕ → Option (List ℕ)) (sent : List ℕ) (p : Playing) (held : Held S) : Type 0 where
  pub batch : held.batch ≡ p.batch
  pub desk : held.desk ≡ p.desk
  pub feeds : AreFed out told p.batch p.sources held.feeds
  pub text : p.text ≡ sent ++ held.text

-- a line was played
pub record PlaysOn {S : Type 0} (out : Outward S) (told : List ℕ → Option (List ℕ)) (sent : List ℕ) (line : Asked) (p : Playing) (held : Held S) : Type 0 where
  pub answer : Option Answer
  pub answered : IsAnswered line p answer
  pub stands : Stands out told sent (play line answer p) held

-- a line was played, or why it wasn't
abbrev pub LineEnds : {U S : Type 0} → Outward S → Result U Stop → (List ℕ → Option (List ℕ)) → List ℕ → Asked → Playing → Held S → Type 0
LineEnds out (Ok done) told sent line p held = PlaysOn out told sent line p held
LineEnds out (Err (Unopened name)) told sent line p held = Stands out told sent p held × (line ≡ SourceLine name.now)
LineEnds out (Err Unwritten) told sent line p held = ⊥
LineEnds out (Err Memory) told sent line p held = Unit {0}

-- the sink did not fail
abbrev pub IsUnsent : {U : Type 0} → Result U Stop → Type 0
IsUnsent (Err Unwritten) = ⊥
IsUnsent other = Unit {0}

-- the opener's count rose exactly where a name was not opened
abbrev pub Opens : {U : Type 0} → Result U Stop → ℕ → ℕ → Type 0
Opens (Err (Unopened name)) faults faults_now = Rose faults faults_now
Opens result faults faults_now = faults_now ≡ faults

-- the sink's count rose exactly where it failed
abbrev pub Writes : {U : Type 0} → Result U Stop → ℕ → ℕ → Type 0
Writes (Err Unwritten) faults faults_now = Rose faults faults_now
Writes result faults faults_now = faults_now ≡ faults

-- the first part of what is held of the text was written, and all else is held as before
pub record SendsSome {S : Type 0} (old new : Held S) (before now : Option (List ℕ)) : Type 0 where
  pub sent : List ℕ
  pub split : old.text ≡ sent ++ new.text
  pub written : now ≡ append_known before sent
  pub batch : new.batch ≡ old.batch
  pub desk : new.desk ≡ old.desk
  pub feeds : new.feeds ≡ old.feeds

-- all but the text is held as before
pub record Keeps {S : Type 0} (old new : Held S) : Type 0 where
  pub batch : new.batch ≡ old.batch
  pub desk : new.desk ≡ old.desk
  pub feeds : new.feeds ≡ old.feeds

-- how many batches the next line may decode
abbrev pub reads_next : List Asked → Desk → ℕ
reads_next [] d = 0
reads_next (line ∷ lines) d = reads_by line d

-- Some lines were played and the player stands behind them.
pub record Goes {S : Type 0} (out : Outward S) (told : List ℕ → Option (List ℕ)) (played : List Asked) (p : Playing) (held : Held S) (before now : Option (List ℕ)) (steps steps_now : ℕ) : Type 0 where
  pub at : Playing
  pub runs : Runs played p at
  pub sent : List ℕ
  pub stands : Stands out told sent at held
  pub written : now ≡ append_known before sent
  pub reads : steps_now + p.reads ≤ steps + at.reads

-- Some lines were played, and of their text a part was written.
pub record Breaks (played rest : List Asked) (p : Playing) (before now : Option (List ℕ)) (steps steps_now : ℕ) : Type 0 where
  pub at : Playing
  pub runs : Runs played p at
  pub written : WritesPart before now at.text
  pub reads : steps_now + p.reads ≤ steps + (at.reads + reads_next rest at.desk)

-- Some lines were played, of their text a part was written, and all else stands as they made it.
pub record Cuts {S : Type 0} (out : Outward S) (told : List ℕ → Option (List ℕ)) (played rest : List Asked) (p : Playing) (held : Held S) (before now : Option (List ℕ)) (steps steps_now : ℕ) : Type 0 where
  pub at : Playing
  pub runs : Runs played p at
  pub desk : held.desk ≡ at.desk
  pub feeds : AreFed out told at.batch at.sources held.feeds
  pub written : WritesPart before now at.text
  pub reads : steps_now + p.reads ≤ steps + (at.reads + reads_next rest at.desk)

-- All lines were played, or why they were not: the next one's name was not opened, the sink failed, or memory was wanting.
abbrev pub RunEnds : {U S : Type 0} → Outward S → Result U Stop → (List ℕ → Option (List ℕ)) → List Asked → Playing → Held S → Option (List ℕ) → Option (List ℕ) → ℕ → ℕ → Type 0
RunEnds out (Ok done) told lines p held before now steps steps_now = Goes out told lines p held before now steps steps_now
RunEnds out (Err (Unopened name)) told lines p held before now steps steps_now =
    (played : List Asked) × ((rest : List Asked) × ((lines ≡ played ++ SourceLine name.now ∷ rest) × Goes out told played p held before now steps steps_now))
RunEnds out (Err Unwritten) told lines p held before now steps steps_now =
    (played : List Asked) × ((rest : List Asked) × ((lines ≡ played ++ rest) × Cuts out told played rest p held before now steps steps_now))
RunEnds out (Err Memory) told lines p held before now steps steps_now =
    (played : List Asked) × ((rest : List Asked) × ((lines ≡ played ++ rest) × Breaks played rest p before now steps steps_now))

-- what is known of the bytes that names have
abbrev pub Agree : (List ℕ → Option (List ℕ)) → (List ℕ → Option (List ℕ)) → Type 0
Agree f g = (any : List ℕ) → f any ≡ g any
