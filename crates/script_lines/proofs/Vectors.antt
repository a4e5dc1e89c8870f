-- Lines with what they ask for, computed by the prover. Each is false where the grammar is wrong.
use Rattle.std.proofs.Common.{◌≡◌, ℕ, true, false, List, [], ◌∷◌, Option, None, Some, codes, map, refl, nat_eq}
use Rattle.event_history.specs.declared.entry.Mode.TheVariants.{Past, Coming, Both, Since}
use Rattle.script_lines.specs.declared.line.Quantity.TheVariants as quantity
use Rattle.script_lines.specs.Lines.{Accept, Asked, Claim, Drain, Group, Index, Leave, Limit, Lose, Page, Query, Rows, Seal, Source, Take, Unclaim, asked, bare, by_words, cut, is_in_range, is_skipped, is_space, limit_by, limit_to, lines_of, most_of, number, of_batch, of_number, of_query, of_source, quantity_of, query_by, query_in, since, since_by, source_by, with_more}

one_word : map asked (codes "claim" ∷ codes "group" ∷ codes "seal" ∷ codes "rows" ∷ codes "claims" ∷ codes "" ∷ [])
    ≡ Some Claim ∷ Some Group ∷ Some Seal ∷ Some Rows ∷ None ∷ None ∷ []
one_word = refl

with_number : map asked (codes "accept 1" ∷ codes "unclaim 02" ∷ codes "lose 3" ∷ codes "index 4" ∷ codes "take 5" ∷ codes "page 6" ∷ codes "drain 7" ∷ codes "leave 8" ∷ [])
    ≡ Some (Accept 1) ∷ Some (Unclaim 2) ∷ Some (Lose 3) ∷ Some (Index 4) ∷ Some (Take 5) ∷ Some (Page 6) ∷ Some (Drain 7) ∷ Some (Leave 8) ∷ []
with_number = refl

without_number : map asked (codes "accept" ∷ codes "accept " ∷ codes "accept x" ∷ codes "accept  1" ∷ codes "accept 1 " ∷ codes " accept 1" ∷ codes "claim " ∷ codes "claim 1" ∷ [])
    ≡ None ∷ None ∷ None ∷ None ∷ None ∷ None ∷ None ∷ None ∷ []
without_number = refl

limits : map asked (codes "limit rows 9" ∷ codes "limit batch 4096" ∷ codes "limit group 256" ∷ codes "limit cache 1024" ∷ codes "limit queries 256" ∷ codes "limit inbox 1024" ∷ [])
    ≡ Some (Limit quantity.Rows 9) ∷ Some (Limit quantity.Batch 4096) ∷ Some (Limit quantity.Group 256) ∷ Some (Limit quantity.Cache 1024) ∷ Some (Limit quantity.Queries 256) ∷ Some (Limit quantity.Inbox 1024) ∷ []
limits = refl

out_of_range : map asked (codes "limit rows 0" ∷ codes "limit rows 4294967297" ∷ codes "limit batch 4097" ∷ codes "limit group 257" ∷ codes "limit cache 1025" ∷ codes "limit queries 257" ∷ codes "limit inbox 1025" ∷ codes "limit row 1" ∷ codes "limit rows" ∷ [])
    ≡ None ∷ None ∷ None ∷ None ∷ None ∷ None ∷ None ∷ None ∷ None ∷ []
out_of_range = refl

most_rows : asked (codes "limit rows 4294967296") ≡ Some (Limit quantity.Rows 4294967296)
most_rows = refl

rest_of_line : map asked (codes "source a b " ∷ codes "source " ∷ codes "source" ∷ codes "query past a == 1" ∷ codes "query coming " ∷ codes "query both x" ∷ codes "query since 7 a == 1" ∷ [])
    ≡ Some (Source (codes "a b ")) ∷ None ∷ None ∷ Some (Query Past (codes "a == 1")) ∷ Some (Query Coming []) ∷ Some (Query Both (codes "x"))
    ∷ Some (Query (Since 7) (codes "a == 1")) ∷ []
rest_of_line = refl

no_mode : map asked (codes "query past" ∷ codes "query since 7" ∷ codes "query since x a" ∷ codes "query then a" ∷ [])
    ≡ None ∷ None ∷ None ∷ None ∷ []
no_mode = refl

skipped : map is_skipped (codes "" ∷ codes "# rows" ∷ codes " " ∷ codes "rows" ∷ []) ≡ true ∷ true ∷ false ∷ false ∷ []
skipped = refl

cut_into_lines : lines_of (114 ∷ 10 ∷ 10 ∷ 115 ∷ []) ≡ (114 ∷ []) ∷ [] ∷ (115 ∷ []) ∷ []
cut_into_lines = refl
