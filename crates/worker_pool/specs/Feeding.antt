-- What comes of reading a batch of a source, and accepting it.
use Rattle.std.specs.Prelude.{◌≡◌, ℕ, ◌+◌, ◌<◌, List, [], ◌∷◌, ◌++◌, Option, None, Some, Result, Ok, Err, All, length, ◌⊎◌}
use Rattle.std.specs.declared.alloc.AllocError.{AllocError}
use Rattle.event_batch.specs.Contents.{Content}
use Rattle.event_history.specs.declared.entry.Deed.{Deed}
use Rattle.event_history.specs.declared.entry.Deed.TheVariants as deed
use Rattle.event_history.specs.Histories.{event_count, past}
use Rattle.importer.specs.declared.ends.How.{How}
use Rattle.importer.specs.declared.ends.How.TheVariants as how
use Rattle.importer.specs.declared.ends.ImportEnd.{ImportEnd}
use Rattle.importer.specs.declared.ends.ImportEnd.TheVariants.{Fault, ReadFault, TooLong}
use Rattle.importer.specs.Coming.{Importing}
use Rattle.importer.specs.Ending.{how_ended}
use Rattle.shared_store.specs.Given.{Sees}
use Rattle.shared_store.specs.Turns.{Stands}
use Rattle.step_script.specs.Feeds.{IsHeard, Outward}
use Rattle.step_script.specs.Playing.{Source, packed_of, untouched}
use Rattle.worker_pool.specs.declared.feeding.Feed.{Feed}
use Rattle.worker_pool.specs.Deeds.{Went}

-- A batch was accepted, or would have passed the limit; or the source's end was met; or memory was wanting.
pub data Feeding : Type 0 where
  Accepted : (content : Content) → Feeding
  Refused : (content : Content) (have limit : ℕ) → Feeding
  Met : (end : Option ImportEnd) → Feeding
  Wanting : Feeding

-- the batch that was accepted, if one was
abbrev pub contents_of : Feeding → List Content
contents_of (Accepted content) = content ∷ []
contents_of (Refused content have limit) = []
contents_of (Met end) = []
contents_of Wanting = []

abbrev pub feeding_deeds : Feeding → List Deed
feeding_deeds (Accepted content) = deed.Accept (packed_of content) ∷ []
feeding_deeds (Refused content have limit) = []
feeding_deeds (Met end) = []
feeding_deeds Wanting = []

abbrev pub how_fed : Feeding → How
how_fed (Accepted content) = how.Unread
how_fed (Refused content have limit) = how.Full have limit
how_fed (Met end) = how_ended end
how_fed Wanting = how.Memory

abbrev pub rows_fed : Feeding → ℕ
rows_fed (Accepted content) = length content.rows
rows_fed (Refused content have limit) = 0
rows_fed (Met end) = 0
rows_fed Wanting = 0

-- a batch is refused exactly for passing the limit of rows, and an error is want of memory
abbrev pub EndsFeeding : Result (Unit {0}) AllocError → Feeding → Stands → Type 0
EndsFeeding (Ok u) (Accepted content) s = Unit {0}
EndsFeeding (Ok u) (Refused content have limit) s =
    (have ≡ event_count (past s.seen)) × Sees (λ limits before. (limit ≡ limits.rows) × (limits.rows < have + length content.rows)) s
EndsFeeding (Ok u) (Met end) s = Unit {0}
EndsFeeding (Err e) Wanting s = Unit {0}
EndsFeeding (Ok u) Wanting s = ⊥
EndsFeeding (Err e) other s = ⊥

-- a source by its number, what it gave, and its end once that was met
abbrev pub gives : ℕ → List Content → Option (Option ImportEnd) → Source
gives number given end = record { number = number; name = []; tally = untouched; given = given; end = end }

-- Of a source that had these bytes the batches were accepted, in order, by how it went: all that it gave so far, or all
-- that it gives up to its end; all but the last one, where that was refused; or all that it gave before memory was wanting.
abbrev pub HasGiven : {S : Type 0} → Outward S → Option (List ℕ) → ℕ → List Content → ℕ → Importing → S → How → Type 0
HasGiven out bytes batch accepted number at source how.Unread = IsHeard out bytes batch (gives number accepted None) at source
HasGiven out bytes batch accepted number at source how.Done = IsHeard out bytes batch (gives number accepted (Some None)) at source
HasGiven out bytes batch accepted number at source (how.Fault fault) = IsHeard out bytes batch (gives number accepted (Some (Some (Fault fault)))) at source
HasGiven out bytes batch accepted number at source how.ReadFault = IsHeard out bytes batch (gives number accepted (Some (Some ReadFault))) at source
HasGiven out bytes batch accepted number at source how.TooLong = IsHeard out bytes batch (gives number accepted (Some (Some TooLong))) at source
HasGiven out bytes batch accepted number at source (how.Full have limit) =
    (refused : Content) × IsHeard out bytes batch (gives number (accepted ++ refused ∷ []) None) at source
HasGiven {S} out bytes batch accepted number at source how.Memory =
    (was : Importing) × (source_was : S) × IsHeard out bytes batch (gives number accepted None) was source_was

abbrev pub IsRead : {S : Type 0} → Outward S → Option (List ℕ) → ℕ → List Content → Feed S → Type 0
IsRead out bytes batch accepted f = HasGiven out bytes batch accepted f.number f.import.at f.import.source f.how

-- A source whose end was not met was read. Of the own entries just the accept came, if the batch was accepted.
pub record Feeds {S : Type 0} (out : Outward S) (result : Result (Unit {0}) AllocError) (old new : Feed S) (before after : Stands) : Type 0 where
  pub did : Feeding
  pub went : Went before after (feeding_deeds did)
  pub ends : EndsFeeding result did after
  pub number : (new.number ≡ old.number) × (new.import.at.number ≡ old.import.at.number)
  pub how : new.how ≡ how_fed did
  pub rows : new.rows ≡ old.rows + rows_fed did
  pub of_it : (content : Content) → contents_of did ≡ content ∷ [] → content.source ≡ old.import.at.number
  pub read : (bytes : Option (List ℕ)) (batch : ℕ) (accepted : List Content) → IsRead out bytes batch accepted old → IsRead out bytes batch (accepted ++ contents_of did) new

-- what may come of offering a batch
abbrev pub IsOffer : Content → Feeding → Type 0
IsOffer content (Accepted c) = c ≡ content
IsOffer content (Refused c have limit) = c ≡ content
IsOffer content (Met end) = ⊥
IsOffer content Wanting = Unit {0}

-- A batch that a source gave was offered.
pub record Offers {S : Type 0} (result : Result (Unit {0}) AllocError) (content : Content) (old new : Feed S) (before after : Stands) : Type 0 where
  pub did : Feeding
  pub of : IsOffer content did
  pub went : Went before after (feeding_deeds did)
  pub ends : EndsFeeding result did after
  pub same : (new.number ≡ old.number) × (new.import ≡ old.import)
  pub how : new.how ≡ how_fed did
  pub rows : new.rows ≡ old.rows + rows_fed did

abbrev pub HasEnded : {S : Type 0} → Feed S → Type 0
HasEnded f = ¬ (f.how ≡ how.Unread)

-- One source was read. Those before it have ended, and all others are as they were.
pub record ReadsOne {S : Type 0} (out : Outward S) (result : Result (Unit {0}) AllocError) (olds news : List (Feed S)) (before after : Stands) : Type 0 where
  pub ended : List (Feed S)
  pub behind : List (Feed S)
  pub old : Feed S
  pub new : Feed S
  pub olds_are : olds ≡ ended ++ old ∷ behind
  pub news_are : news ≡ ended ++ new ∷ behind
  pub met : All HasEnded ended
  pub unread : old.how ≡ how.Unread
  pub feeds : Feeds out result old new before after

-- All have ended, and nothing was done.
pub record ReadsNone {S : Type 0} (result : Result (Unit {0}) AllocError) (olds news : List (Feed S)) (before after : Stands) : Type 0 where
  pub ok : result ≡ Ok tt
  pub met : All HasEnded olds
  pub same : news ≡ olds
  pub stays : after ≡ before

-- the first source is read that has not ended
abbrev pub Reads : {S : Type 0} → Outward S → Result (Unit {0}) AllocError → List (Feed S) → List (Feed S) → Stands → Stands → Type 0
Reads out result olds news before after = ReadsOne out result olds news before after ⊎ ReadsNone result olds news before after
