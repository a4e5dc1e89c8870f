-- Values that the definitions have on small desks, computed by the prover. Each is false where its definition is wrong.
use Rattle.std.proofs.Common.{◌≡◌, ℕ, Bool, true, false, List, [], ◌∷◌, Option, None, Some, Ok, Err, codes, is_some, length, map, refl}
use Rattle.std.specs.Fmt.{digits}
use Rattle.value_text.specs.Writing.{cell_text, value_text}
use Rattle.vast_value.specs.declared.cell.Cell.{Cell}
use Rattle.vast_value.specs.declared.cell.Cell.TheVariants.{Unset, One as OneCell}
use Rattle.vast_value.specs.declared.value.Value.TheVariants.{Count}
use Rattle.vast_value.specs.Headings.{Heading}
use Rattle.query_meaning.specs.declared.expr.Expr.{Expr}
use Rattle.query_parse.specs.declared.fault.QueryWhat.TheVariants as query
use Rattle.event_batch.specs.declared.format.Format.TheVariants.{Second}
use Rattle.event_batch.specs.Contents.{Spelled}
use Rattle.event_history.specs.declared.entry.Deed.{Deed}
use Rattle.event_history.specs.declared.entry.Deed.TheVariants.{Accept, Register}
use Rattle.event_history.specs.declared.entry.Entry.{Entry}
use Rattle.event_history.specs.declared.entry.Mode.TheVariants.{Both}
use Rattle.history_core.specs.Snapshots.{Snapshot}
use Rattle.script_desk.specs.Desks.{Desk, play_accept, play_claim, play_drain, play_group, play_index, play_leave, play_lose, play_page, play_parsed, play_rows, play_seal, play_take, play_unclaim, refused_by, step_at, take_of}
use Rattle.script_desk.specs.Texts.{found_text, page_text, what_text}
use Rattle.event_history.specs.Steps as s

abbrev heading : Heading
heading = record { path = codes "t"; fields = [] }

-- one event
abbrev one : Spelled
one = record { format = Second; content = record { source = 1; heading = heading; rows = [] ∷ [] } }

abbrev did : Deed → Entry
did deed = record { seat = 0; deed = deed }

-- an event is told with its id, its path and its cells
found : found_text (4, record { heading = heading; row = Unset ∷ OneCell (Count 3) ∷ [] }) ≡ 10 ∷ 52 ∷ 9 ∷ 116 ∷ 9 ∷ 45 ∷ 9 ∷ 51 ∷ []
unfolding cell_text value_text digits
found = refl

whats : map what_text (query.Unexpected ∷ query.BadLiteral ∷ query.KindClash ∷ query.TooDeep ∷ query.TooLong ∷ [])
    ≡ codes " Unexpected" ∷ codes " BadLiteral" ∷ codes " KindClash" ∷ codes " TooDeep" ∷ codes " TooLong" ∷ []
whats = refl

module _ (expr : Expr) where
  abbrev nothing : Snapshot
  nothing = record {
    taking = record { expr = expr; past_from = 1; past_to = 3; live_from = 5; live_to = 6; again = Some 2 };
    parts = [];
    past_batches = [];
    live_batches = [];
  }

  page : page_text 9 nothing ≡ codes "page 9 past 3 live 6 found 0 checked 0 touched 0 again 2"
  unfolding digits
  page = refl

  -- One event and a query of both parts; claims are held twice on batch 0, and a take of a second query.
  abbrev desk : Desk
  desk = record {
    limits = record { rows = 2; queries = 3; group = 1; inbox = 8 };
    history = did (Accept one) ∷ did (Register 1 Both expr) ∷ did (Register 2 Both expr) ∷ [];
    claims = 0 ∷ 7 ∷ 0 ∷ [];
    groups = 5 ∷ 6 ∷ [];
    queries = None ∷ Some nothing ∷ [];
  }

  claims : ((play_claim desk).reply ∷ (play_lose 0 desk).reply ∷ (play_lose 1 desk).reply ∷ (play_unclaim 7 desk).reply ∷ (play_unclaim 1 desk).reply ∷ [])
      ≡ codes "claim 0" ∷ codes "lost 0" ∷ codes "no claim 1" ∷ codes "unclaimed 7" ∷ codes "no claim 1" ∷ []
  unfolding digits
  claims = refl

  claims_left : ((play_claim desk).desk.claims ∷ (play_lose 0 desk).desk.claims ∷ (play_index 0 desk).desk.claims ∷ (play_unclaim 7 desk).desk.claims ∷ [])
      ≡ (0 ∷ 7 ∷ 0 ∷ 0 ∷ []) ∷ (7 ∷ 0 ∷ []) ∷ (7 ∷ 0 ∷ []) ∷ (0 ∷ 0 ∷ []) ∷ []
  claims_left = refl

  entries : map (λ (d : Desk). length d.history) ((play_claim desk).desk ∷ (play_lose 0 desk).desk ∷ (play_index 0 desk).desk ∷ (play_take 1 desk).desk ∷ (play_page 2 desk).desk ∷ []) ≡ 4 ∷ 3 ∷ 4 ∷ 4 ∷ 3 ∷ []
  entries = refl

  batches : ((play_index 0 desk).reply ∷ (play_index 1 desk).reply ∷ (play_rows desk).reply ∷ (play_accept one desk).reply ∷ [])
      ≡ codes "indexed 0" ∷ codes "no batch 1" ∷ codes "rows 1" ∷ codes "batch 1 first 1 rows 1" ∷ []
  unfolding digits
  batches = refl

  groups : ((play_group desk).reply ∷ (play_seal desk).reply ∷ []) ≡ codes "group none" ∷ codes "sealed 5" ∷ []
  unfolding digits
  groups = refl

  groups_left : (play_seal desk).desk.groups ≡ 6 ∷ []
  groups_left = refl

  takes : map (λ q. is_some (take_of q desk)) (0 ∷ 1 ∷ 2 ∷ 3 ∷ []) ≡ false ∷ false ∷ true ∷ false ∷ []
  takes = refl

  queries : ((play_take 1 desk).reply ∷ (play_take 2 desk).reply ∷ (play_page 1 desk).reply ∷ (play_drain 2 desk).reply ∷ (play_leave 1 desk).reply ∷ (play_leave 3 desk).reply ∷ [])
      ≡ codes "taken 1" ∷ codes "no session 2" ∷ codes "no page 1" ∷ codes "no session 2" ∷ codes "left 1" ∷ codes "no query 3" ∷ []
  unfolding digits
  queries = refl

  pages : ((play_page 2 desk).reply ∷ (play_drain 1 desk).reply ∷ [])
      ≡ codes "page 2 past 3 live 6 found 0 checked 0 touched 0 again 2" ∷ codes "page 1 past 0 live 1 found 0 checked 0 touched 0 again 0" ∷ []
  unfolding digits
  pages = refl

  -- a take is held until its page is printed
  held : map (λ (d : Desk). map (λ o. is_some o) d.queries) ((play_take 1 desk).desk ∷ (play_page 2 desk).desk ∷ (play_drain 1 desk).desk ∷ [])
      ≡ (true ∷ true ∷ []) ∷ (false ∷ false ∷ []) ∷ (false ∷ true ∷ []) ∷ []
  held = refl

  registered : ((play_parsed Both (Ok expr) desk).reply ∷ (play_parsed Both (Err (record { at = 4; what = query.KindClash })) desk).reply ∷ [])
      ≡ codes "query 3 from 1" ∷ codes "query refused 4 KindClash" ∷ []
  unfolding digits
  registered = refl

  refused : (refused_by one (s.Full 2 2) ∷ refused_by one (s.Accepted 0 0) ∷ []) ≡ Some one ∷ None ∷ []
  refused = refl
