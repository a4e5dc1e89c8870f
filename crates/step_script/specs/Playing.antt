-- What a script's lines make of a store and its sources, and what they reply.
use Rattle.std.specs.Prelude.{◌≡◌, ℕ, zero, suc, ◌+◌, ◌-◌, List, [], ◌∷◌, ◌++◌, Option, None, Some, IsSome, codes, length, slice_get, slice_set}
use Rattle.event_batch.specs.Contents.{Content, Spelled}
use Rattle.event_batch.specs.declared.format.Format.TheVariants.{Second}
use Rattle.event_history.specs.Steps as s
use Rattle.importer.specs.declared.ends.How.{How}
use Rattle.importer.specs.declared.ends.How.TheVariants as how
use Rattle.importer.specs.declared.ends.ImportEnd.{ImportEnd}
use Rattle.importer.specs.Ending.{how_ended}
use Rattle.script_desk.specs.Desks.{Desk, Played, drain_reads, held_of_query, play_accept, play_claim, play_drain, play_group, play_index, play_leave, play_lose, play_page, play_query, play_rows, play_seal, play_take, play_unclaim, reads_of, refused_by, replied, step_at, take_of}
use Rattle.script_desk.specs.Texts.{told}
use Rattle.script_lines.specs.Lines.{Accept, Asked, Claim, Drain, Group, Index, Leave, Limit, Lose, Page, Query, Rows, Seal, Source as SourceLine, Take, Unclaim}
use Rattle.step_script.specs.declared.settings.Settings.{Settings}
use Rattle.input_report.specs.Texts.{end_text}

-- what a source answered that was asked for its next batch
pub data Answer : Type 0 where
  Gave : Content → Answer
  Ended : Option ImportEnd → Answer

-- what came of a source's batches: how many of its rows were accepted, how it went, and the batch that was refused last
pub record Tally : Type 0 where
  pub rows : ℕ
  pub how : How
  pub refused : Option Spelled

-- A source that a script opened: its number and name, what came of its batches, and what it gave so far, with its end once
-- that was met.
pub record Source : Type 0 where
  pub number : ℕ
  pub name : List ℕ
  pub tally : Tally
  pub given : List Content
  pub end : Option (Option ImportEnd)

-- its end was not met, and its last batch, if one was offered, was taken or refused
abbrev pub IsOpen : How → Type 0
IsOpen how.Unread = Unit {0}
IsOpen (how.Full have limit) = Unit {0}
IsOpen other = ⊥

-- how a source went, by whether its end was met: then no batch of it is refused
abbrev pub WayIs : Option (Option ImportEnd) → Tally → Type 0
WayIs None tally = IsOpen tally.how
WayIs (Some end) tally = (tally.how ≡ how_ended end) × (tally.refused ≡ None)

-- A script being played: the rows that close a batch, the store with what is held, the sources, the text, and how many
-- batches may have been decoded.
pub record Playing : Type 0 where
  pub batch : ℕ
  pub desk : Desk
  pub sources : List Source
  pub text : List ℕ
  pub reads : ℕ

-- before the first line
abbrev pub starting : Settings → Playing
starting s = record {
  batch = s.batch;
  desk = record { limits = s.limits; history = []; claims = []; groups = []; queries = [] };
  sources = [];
  text = [];
  reads = 0;
}

-- Lines that speak of the store alone.

abbrev pub played_by : Asked → Desk → Played
played_by Claim d = play_claim d
played_by (Unclaim b) d = play_unclaim b d
played_by (Lose b) d = play_lose b d
played_by (Index b) d = play_index b d
played_by Group d = play_group d
played_by Seal d = play_seal d
played_by (Query mode text) d = play_query mode text d
played_by (Take q) d = play_take q d
played_by (Page q) d = play_page q d
played_by (Drain q) d = play_drain q d
played_by (Leave q) d = play_leave q d
played_by Rows d = play_rows d
played_by (Limit q n) d = replied d []
played_by (SourceLine name) d = replied d []
played_by (Accept n) d = replied d []

-- how many batches a line may decode: one to index it, and for a page those that it touches
abbrev pub reads_by : Asked → Desk → ℕ
reads_by (Index b) d = 1
reads_by (Page q) d = reads_of (take_of q d)
reads_by (Drain q) d = drain_reads q d (held_of_query d.queries q)
reads_by line d = 0

abbrev pub at_desk : Played → ℕ → Playing → Playing
at_desk x reads p = record { batch = p.batch; desk = x.desk; sources = p.sources; text = p.text ++ (x.reply ++ 10 ∷ []); reads = p.reads + reads }

-- `source NAME`, once it was opened: sources count from 1.

abbrev pub untouched : Tally
untouched = record { rows = 0; how = how.Unread; refused = None }

abbrev pub opened : ℕ → List ℕ → Source
opened number name = record { number = number; name = name; tally = untouched; given = []; end = None }

abbrev pub open_source : List ℕ → Playing → Playing
open_source name p = record {
  batch = p.batch;
  desk = p.desk;
  sources = p.sources ++ opened (length p.sources + 1) name ∷ [];
  text = p.text ++ (told (codes "source ") (length p.sources + 1) ++ 10 ∷ []);
  reads = p.reads;
}

-- `accept S`.

-- what an accept makes of a source, and of the store
pub record Offer : Type 0 where
  pub source : Source
  pub played : Played

-- how a source went whose last batch the store answered so
abbrev pub how_offered : s.Reply → How
how_offered (s.Full have limit) = how.Full have limit
how_offered reply = how.Unread

abbrev pub rows_taken : Spelled → Option Spelled → ℕ
rows_taken packed None = length packed.content.rows
rows_taken packed (Some refused) = 0

abbrev pub after_offer : Spelled → s.Reply → Tally → Tally
after_offer packed reply x = record { rows = x.rows + rows_taken packed (refused_by packed reply); how = how_offered reply; refused = refused_by packed reply }

abbrev pub with_tally : Tally → Source → Source
with_tally tally x = record { number = x.number; name = x.name; tally = tally; given = x.given; end = x.end }

-- a batch is offered to the store, and is kept where it is refused
abbrev pub offered : Spelled → Source → Desk → Offer
offered packed x d = record { source = with_tally (after_offer packed (step_at d (s.Accept packed)).reply x.tally) x; played = play_accept packed d }

abbrev pub packed_of : Content → Spelled
packed_of content = record { format = Second; content = content }

abbrev pub with_given : Content → Source → Source
with_given content x = record { number = x.number; name = x.name; tally = x.tally; given = x.given ++ content ∷ []; end = x.end }

abbrev pub ended_tally : Option ImportEnd → Tally → Tally
ended_tally end x = record { rows = x.rows; how = how_ended end; refused = x.refused }

abbrev pub with_end : Option ImportEnd → Source → Source
with_end end x = record { number = x.number; name = x.name; tally = ended_tally end x.tally; given = x.given; end = Some end }

abbrev pub end_reply : ℕ → Option ImportEnd → List ℕ
end_reply number end = told (codes "end ") number ++ (32 ∷ end_text end)

abbrev pub offer_next : Option Answer → Source → Desk → Offer
offer_next (Some (Gave content)) x d = offered (packed_of content) (with_given content x) d
offer_next (Some (Ended end)) x d = record { source = with_end end x; played = replied d (end_reply x.number end) }
offer_next None x d = record { source = x; played = replied d [] }

-- the batch that was refused last, or what the source answers
abbrev pub offer_by : Option Spelled → Option Answer → Source → Desk → Offer
offer_by (Some packed) answer x d = offered packed x d
offer_by None answer x d = offer_next answer x d

abbrev pub offer : Option Answer → Source → Desk → Offer
offer answer x d = offer_by x.tally.refused answer x d

abbrev pub source_at : ℕ → List Source → Option Source
source_at zero sources = None
source_at (suc i) sources = slice_get sources i

abbrev pub with_offer : ℕ → Offer → Playing → Playing
with_offer at x p = record { batch = p.batch; desk = x.played.desk; sources = slice_set p.sources at x.source; text = p.text ++ (x.played.reply ++ 10 ∷ []); reads = p.reads }

abbrev pub accept_by : ℕ → Option Answer → Playing → Option Source → Playing
accept_by n answer p None = at_desk (replied p.desk (told (codes "no source ") n)) 0 p
accept_by n answer p (Some x) = with_offer (n - 1) (offer answer x p.desk) p

-- A line is played. `accept` alone asks a source, and plays by its answer.
abbrev pub play : Asked → Option Answer → Playing → Playing
play (SourceLine name) answer p = open_source name p
play (Accept n) answer p = accept_by n answer p (source_at n p.sources)
play line answer p = at_desk (played_by line p.desk) (reads_by line p.desk) p

-- once its end was met, a source answers that end
abbrev pub IsNext : Option (Option ImportEnd) → Option Answer → Type 0
IsNext None answer = IsSome answer
IsNext (Some end) answer = answer ≡ Some (Ended end)

-- a source is asked where no batch of it was refused last
abbrev pub IsAnswerOf : Option Spelled → Source → Option Answer → Type 0
IsAnswerOf (Some packed) x answer = answer ≡ None
IsAnswerOf None x answer = IsNext x.end answer

abbrev pub IsAnswerAt : Option Source → Option Answer → Type 0
IsAnswerAt None answer = answer ≡ None
IsAnswerAt (Some x) answer = IsAnswerOf x.tally.refused x answer

-- a line has an answer exactly where it asks a source
abbrev pub IsAnswered : Asked → Playing → Option Answer → Type 0
IsAnswered (Accept n) p answer = IsAnswerAt (source_at n p.sources) answer
IsAnswered line p answer = answer ≡ None
