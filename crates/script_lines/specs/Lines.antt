-- The grammar of a script's lines.
use Rattle.std.specs.Prelude.{◌≡◌, ℕ, Bool, true, false, ◌&&◌, ◌||◌, ◌==◌, ◌-◌, ◌^◌, if◌then◌else◌, List, [], ◌∷◌, Option, None, Some, codes, length, nat_le, nat_lt}
use Rattle.std.specs.List.{after_first, before_first, position_or_len, slice_split}
use Rattle.std.specs.Option.{option_map}
use Rattle.std.specs.Str.{bytes_eq}
use Rattle.event_history.specs.declared.entry.Mode.{Mode}
use Rattle.event_history.specs.declared.entry.Mode.TheVariants.{Past, Coming, Both, Since}
use Rattle.value_reading.specs.Numbers.{number_up_to}
use Rattle.script_lines.specs.declared.line.Line.{Line}
use Rattle.script_lines.specs.declared.line.Line.TheVariants as line
use Rattle.script_lines.specs.declared.line.Quantity.{Quantity}
use Rattle.script_lines.specs.declared.line.Quantity.TheVariants as quantity

-- what a line asks for, names and texts being bytes
pub data Asked : Type 0 where
  Limit : (quantity : Quantity) (number : ℕ) → Asked
  Source : (name : List ℕ) → Asked
  Accept : (source : ℕ) → Asked
  Claim : Asked
  Unclaim : (batch : ℕ) → Asked
  Lose : (batch : ℕ) → Asked
  Index : (batch : ℕ) → Asked
  Group : Asked
  Seal : Asked
  Query : (mode : Mode) (text : List ℕ) → Asked
  Take : (query : ℕ) → Asked
  Page : (query : ℕ) → Asked
  Drain : (query : ℕ) → Asked
  Leave : (query : ℕ) → Asked
  Rows : Asked

-- a line as the program has it
abbrev pub asked_by : Line → Asked
asked_by (line.Limit q n) = Limit q n
asked_by (line.Source name) = Source name.now
asked_by (line.Accept s) = Accept s
asked_by line.Claim = Claim
asked_by (line.Unclaim b) = Unclaim b
asked_by (line.Lose b) = Lose b
asked_by (line.Index b) = Index b
asked_by line.Group = Group
asked_by line.Seal = Seal
asked_by (line.Query mode text) = Query mode text.now
asked_by (line.Take q) = Take q
asked_by (line.Page q) = Page q
asked_by (line.Drain q) = Drain q
asked_by (line.Leave q) = Leave q
asked_by line.Rows = Rows

-- Words.
abbrev pub is_space : ℕ → Bool
is_space b = b == 32

-- the first word and what stands behind the space after it, where there is a space
abbrev pub cut : List ℕ → Option (List ℕ × List ℕ)
cut text = if nat_lt (position_or_len is_space text) (length text) then Some (before_first is_space text, after_first is_space text) else None

-- one or more digits, at most 2^64 - 1
abbrev pub number : List ℕ → Option ℕ
number text = number_up_to (2 ^ 64 - 1) text

-- Numbers of things.
abbrev pub of_source : List ℕ → ℕ → Option Asked
of_source word n = if bytes_eq word (codes "accept") then Some (Accept n) else None

abbrev pub of_batch : List ℕ → ℕ → Option Asked
of_batch word n =
    if bytes_eq word (codes "index") then Some (Index n)
    else (if bytes_eq word (codes "unclaim") then Some (Unclaim n)
    else (if bytes_eq word (codes "lose") then Some (Lose n) else of_source word n))

abbrev pub of_query : List ℕ → ℕ → Option Asked
of_query word n =
    if bytes_eq word (codes "drain") then Some (Drain n)
    else (if bytes_eq word (codes "take") then Some (Take n)
    else (if bytes_eq word (codes "page") then Some (Page n)
    else (if bytes_eq word (codes "leave") then Some (Leave n) else of_batch word n)))

abbrev pub of_number : List ℕ → Option ℕ → Option Asked
of_number word None = None
of_number word (Some n) = of_query word n

-- Limits.
abbrev pub quantity_of : List ℕ → Option Quantity
quantity_of word =
    if bytes_eq word (codes "rows") then Some quantity.Rows
    else (if bytes_eq word (codes "batch") then Some quantity.Batch
    else (if bytes_eq word (codes "group") then Some quantity.Group
    else (if bytes_eq word (codes "cache") then Some quantity.Cache
    else (if bytes_eq word (codes "queries") then Some quantity.Queries
    else (if bytes_eq word (codes "inbox") then Some quantity.Inbox else None)))))

-- the most of it; the least is 1
abbrev pub most_of : Quantity → ℕ
most_of quantity.Rows = 2 ^ 32
most_of quantity.Batch = 4096
most_of quantity.Group = 256
most_of quantity.Cache = 1024
most_of quantity.Queries = 256
most_of quantity.Inbox = 1024

abbrev pub is_in_range : Quantity → ℕ → Bool
is_in_range q n = nat_le 1 n && nat_le n (most_of q)

-- a limit is in its range
abbrev pub Fits : Asked → Type 0
Fits (Limit q n) = is_in_range q n ≡ true
Fits other = Unit {0}

abbrev pub limit_to : Option Quantity → Option ℕ → Option Asked
limit_to (Some q) (Some n) = if is_in_range q n then Some (Limit q n) else None
limit_to _ _ = None

abbrev pub limit_by : Option (List ℕ × List ℕ) → Option Asked
limit_by None = None
limit_by (Some words) = limit_to (quantity_of words.0) (number words.1)

-- Queries.
abbrev pub since : Option ℕ → List ℕ → Option Asked
since None text = None
since (Some id) text = Some (Query (Since id) text)

abbrev pub since_by : Option (List ℕ × List ℕ) → Option Asked
since_by None = None
since_by (Some words) = since (number words.0) words.1

abbrev pub query_in : List ℕ → List ℕ → Option Asked
query_in mode text =
    if bytes_eq mode (codes "past") then Some (Query Past text)
    else (if bytes_eq mode (codes "coming") then Some (Query Coming text)
    else (if bytes_eq mode (codes "both") then Some (Query Both text)
    else (if bytes_eq mode (codes "since") then since_by (cut text) else None)))

abbrev pub query_by : Option (List ℕ × List ℕ) → Option Asked
query_by None = None
query_by (Some words) = query_in words.0 words.1

-- a source has a name
abbrev pub source_by : List ℕ → Option Asked
source_by [] = None
source_by name = Some (Source name)

-- A line of one word.
abbrev pub bare : List ℕ → Option Asked
bare word =
    if bytes_eq word (codes "claim") then Some Claim
    else (if bytes_eq word (codes "group") then Some Group
    else (if bytes_eq word (codes "seal") then Some Seal
    else (if bytes_eq word (codes "rows") then Some Rows else None)))

-- A line whose first word has something behind it.
abbrev pub with_more : List ℕ → List ℕ → Option Asked
with_more word more =
    if bytes_eq word (codes "source") then source_by more
    else (if bytes_eq word (codes "query") then query_by (cut more)
    else (if bytes_eq word (codes "limit") then limit_by (cut more)
    else of_number word (number more)))

abbrev pub by_words : List ℕ → Option (List ℕ × List ℕ) → Option Asked
by_words text None = bare text
by_words text (Some words) = with_more words.0 words.1

-- What a line asks for, if it is one: a text that is UTF-8.
abbrev pub asked : List ℕ → Option Asked
asked text = by_words text (cut text)

-- a line without bytes, or whose first one is `#`
abbrev pub is_skipped : List ℕ → Bool
is_skipped [] = true
is_skipped (b ∷ rest) = b == 35

-- The lines of a script: byte 10 ends one, and the last one may lack it.
abbrev pub lines_of : List ℕ → List (List ℕ)
lines_of script = slice_split (λ b. b == 10) script
