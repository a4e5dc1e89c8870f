-- What a store keeps when a query is registered, is told, or leaves.
use Rattle.std.proofs.Common.{◌≡◌, ◌≢◌, ℕ, ◌+◌, ◌<◌, ◌≤◌, Bool, true, false, ◌||◌, ◌==◌, if◌then◌else◌, List, [], ◌∷◌, ◌++◌, Option, None, Some, is_some, length, slice_index_or, refl, ap, sym, ◌∙◌, subst, arith, inl, inr}
use Rattle.std.proofs.Math.ListN.{set, length-set}
use Rattle.std.proofs.lemmas.List.{length-append}
use Rattle.std.proofs.lemmas.Bool.Decides.{nat_tests}
use Rattle.query_meaning.specs.declared.expr.Expr.{Expr}
use Rattle.event_history.specs.declared.entry.Deed.{Deed}
use Rattle.event_history.specs.declared.entry.Deed.TheVariants.{Accept, Claim, Unclaim, Index, Seal, Register, Take, Leave}
use Rattle.event_history.specs.declared.entry.Entry.{Entry}
use Rattle.event_history.specs.declared.entry.Limits.{Limits}
use Rattle.event_history.specs.declared.entry.Mode.{Mode}
use Rattle.event_history.specs.Histories.{event_count}
use Rattle.event_history.specs.Legal.{Allowed, Legal}
use Rattle.event_history.specs.Modes.{past_begin}
use Rattle.event_history.specs.Queries.{Registration, has_left, position, query_count, registration}
use Rattle.event_history.proofs.TellingLemmas.{registered_within}
use Rattle.history_core.specs.declared.kept.Kept.{Kept}
use Rattle.history_core.specs.declared.kept.Query.{Query}
use Rattle.history_core.specs.Stores.{IsQuery, Keeps, expr_at, expr_in, registered_as}
use Rattle.history_core.proofs.CarryLemmas.{expr_more}
use Rattle.history_core.proofs.ClaimLemmas.{entry}
use Rattle.history_core.proofs.LegalLemmas.{other}
use Rattle.partition.proofs.ListLemmas.{get_next, read_more, read_set}

itself : (n : ℕ) → (n == n) ≡ true
itself n = grind (arith, nat_tests)

-- A query that isn't registered hasn't left.
some_of : (o : Option Registration) → is_some o ≡ true → (g : Registration) × (o ≡ Some g)
some_of None e = absurd cc
some_of (Some g) e = (g, refl)

beyond_by : (limits : Limits) (before : List Entry) (d : Deed) (q : ℕ) → Legal limits before → Allowed limits before d → query_count before < q → has_left q before ≡ false
    → has_left q (record { seat = 0; deed = d } ∷ before) ≡ false
beyond_by limits before (Accept packed) q legal a h e = e
beyond_by limits before (Claim b) q legal a h e = e
beyond_by limits before (Unclaim b) q legal a h e = e
beyond_by limits before (Index b) q legal a h e = e
beyond_by limits before (Seal k) q legal a h e = e
beyond_by limits before (Register r mode expr) q legal a h e = e
beyond_by limits before (Take r past_to live_to) q legal a h e = e
beyond_by limits before (Leave r) q legal a h e =
    let found = some_of (registration r before) a.1 in
    let known : r ≤ query_count before = registered_within limits before r found.0 legal found.1 in
    ap (λ (b : Bool). b || has_left q before) (other r q (λ same. omega arith)) ∙ e

count_less : (d : Deed) (before : List Entry) (q : ℕ) → query_count (record { seat = 0; deed = d } ∷ before) < q → query_count before < q
count_less (Accept packed) before q h = h
count_less (Claim b) before q h = h
count_less (Unclaim b) before q h = h
count_less (Index b) before q h = h
count_less (Seal k) before q h = h
count_less (Register r mode expr) before q h = omega (arith, h)
count_less (Take r past_to live_to) before q h = h
count_less (Leave r) before q h = h

pub beyond : (limits : Limits) (before : List Entry) (q : ℕ) → Legal limits before → query_count before < q → has_left q before ≡ false
beyond limits [] q legal h = refl
beyond limits (e ∷ before) q legal h =
    beyond_by limits before e.deed q legal.0 legal.1 (count_less e.deed before q h) (beyond limits before q legal.0 (count_less e.deed before q h))

-- Registering.
module _ (history before : List Entry) (seat r : ℕ) (mode : Mode) (expr : Expr) where
  old_query : (n : ℕ) (q : Query) → n ≢ r → IsQuery history before n q → IsQuery (history ++ entry seat (Register r mode expr) ∷ []) (entry seat (Register r mode expr) ∷ before) n q
  old_query n q h is =
      let same : expr_at (history ++ entry seat (Register r mode expr) ∷ []) q.place ≡ expr_at history q.place = expr_more history (entry seat (Register r mode expr)) q.place is.0 in
      let not_it : (r == n) ≡ false = other r n (λ e. h (sym e)) in (
        ap (λ (o : Option Expr). is_some o) same ∙ is.0,
        ap (λ (b : Bool). if b then Some (record { mode = mode; expr = expr; from = event_count before }) else registration n before) not_it ∙ is.1
            ∙ sym (ap (λ (o : Option Expr). registered_as q o) same),
        ap (λ (b : Bool). if b then (past_begin mode (event_count before), event_count before) else position n before) not_it ∙ is.2,
        is.3,
      )

  new_query : (rows place : ℕ) → rows ≡ event_count before → place ≡ length history → has_left r before ≡ false
      → IsQuery (history ++ entry seat (Register r mode expr) ∷ []) (entry seat (Register r mode expr) ∷ before) r
      (record { place = place; mode = mode; registered = rows; past_to = past_begin mode rows; live_to = rows; left = false })
  new_query rows place count there stays =
      let e : Entry = entry seat (Register r mode expr) in
      let found : expr_at (history ++ e ∷ []) place ≡ Some expr = ap (λ (o : Option Entry). expr_in o) (get_next history [] e place there) in
      let it : (r == r) ≡ true = itself r in
      let q : Query = record { place = place; mode = mode; registered = rows; past_to = past_begin mode rows; live_to = rows; left = false } in (
        ap (λ (o : Option Expr). is_some o) found,
        ap (λ (b : Bool). if b then Some (record { mode = mode; expr = expr; from = event_count before }) else registration r before) it
            ∙ ap (λ (n : ℕ). Some (record { mode = mode; expr = expr; from = n })) (sym count)
            ∙ sym (ap (λ (o : Option Expr). registered_as q o) found),
        ap (λ (b : Bool). if b then (past_begin mode (event_count before), event_count before) else position r before) it
            ∙ ap (λ (n : ℕ). (past_begin mode n, n)) (sym count),
        sym stays,
      )

pub register_keeps : (limits : Limits) (history before : List Entry) (seat : ℕ) (mode : Mode) (expr : Expr) (rows : ℕ) (kept : List Kept) (low : ℕ) (queries : List Query) (place : ℕ)
    → Keeps limits history before rows kept low queries → length queries + 1 ≤ limits.queries → past_begin mode rows ≤ rows → place ≡ length history
    → Keeps limits (history ++ entry seat (Register (length queries + 1) mode expr) ∷ []) (entry seat (Register (length queries + 1) mode expr) ∷ before) rows kept low
    (queries ++ record { place = place; mode = mode; registered = rows; past_to = past_begin mode rows; live_to = rows; left = false } ∷ [])
register_keeps limits history before seat mode expr rows kept low queries place k room begins there =
    let r : ℕ = length queries + 1 in
    let e : Entry = entry seat (Register r mode expr) in
    let new : Query = record { place = place; mode = mode; registered = rows; past_to = past_begin mode rows; live_to = rows; left = false } in
    record {
      legal = (k.legal, (ap (λ (n : ℕ). n + 1) k.queries_are, room, subst (λ (n : ℕ). past_begin mode n ≤ n) k.rows_are begins));
      rows_are = k.rows_are;
      fits = k.fits;
      count = k.count;
      each = k.each;
      low_in = k.low_in;
      busy = k.busy;
      queries_are = length-append queries (new ∷ []) ∙ ap (λ (n : ℕ). n + 1) k.queries_are;
      each_query = λ i q h is.
          elim (read_more queries new q i h is) as (λ _. IsQuery (history ++ e ∷ []) (e ∷ before) (i + 1) q) [
            | inl f ↦ old_query history before seat r mode expr (i + 1) q (λ same. omega (arith, f.0)) (k.each_query i q f.0 f.1)
            | inr f ↦
                subst (λ (x : Query). IsQuery (history ++ e ∷ []) (e ∷ before) (i + 1) x) (sym f.1)
                (subst (λ (n : ℕ). IsQuery (history ++ e ∷ []) (e ∷ before) n new) (sym (ap (λ (n : ℕ). n + 1) f.0))
                (new_query history before seat r mode expr rows place k.rows_are there (beyond limits before r k.legal (omega (arith, k.queries_are)))))
          ];
    }

-- Leaving.
module _ (history before : List Entry) (seat r : ℕ) where
  other_stays : (n : ℕ) (q : Query) → n ≢ r → IsQuery history before n q → IsQuery (history ++ entry seat (Leave r) ∷ []) (entry seat (Leave r) ∷ before) n q
  other_stays n q h is =
      let same : expr_at (history ++ entry seat (Leave r) ∷ []) q.place ≡ expr_at history q.place = expr_more history (entry seat (Leave r)) q.place is.0 in (
        ap (λ (o : Option Expr). is_some o) same ∙ is.0,
        is.1 ∙ sym (ap (λ (o : Option Expr). registered_as q o) same),
        is.2,
        is.3 ∙ sym (ap (λ (b : Bool). b || has_left n before) (other r n (λ e. h (sym e)))),
      )

  it_left : (q : Query) → IsQuery history before r q → IsQuery (history ++ entry seat (Leave r) ∷ []) (entry seat (Leave r) ∷ before) r (record q { left = true })
  it_left q is =
      let same : expr_at (history ++ entry seat (Leave r) ∷ []) q.place ≡ expr_at history q.place = expr_more history (entry seat (Leave r)) q.place is.0 in (
        ap (λ (o : Option Expr). is_some o) same ∙ is.0,
        is.1 ∙ sym (ap (λ (o : Option Expr). registered_as q o) same),
        is.2,
        sym (ap (λ (b : Bool). b || has_left r before) (itself r)),
      )

registered_some : (q : Query) (o : Option Expr) → is_some o ≡ true → is_some (registered_as q o) ≡ true
registered_some q None e = absurd cc
registered_some q (Some expr) e = refl

pub leave_keeps : (limits : Limits) (history before : List Entry) (seat r : ℕ) (rows : ℕ) (kept : List Kept) (low at : ℕ) (queries : List Query) (old : Query)
    → Keeps limits history before rows kept low queries → at < length queries → old ≡ slice_index_or queries at old → old.left ≡ false → r ≡ at + 1
    → Keeps limits (history ++ entry seat (Leave r) ∷ []) (entry seat (Leave r) ∷ before) rows kept low (set queries at (record old { left = true }))
leave_keeps limits history before seat r rows kept low at queries old k there found stays is =
    let e : Entry = entry seat (Leave r) in
    let one : IsQuery history before r old = subst (λ (n : ℕ). IsQuery history before n old) (sym is) (k.each_query at old there found) in
    record {
      legal = (k.legal, (sym one.3 ∙ stays, ap (λ (o : Option Registration). is_some o) one.1 ∙ registered_some old (expr_at history old.place) one.0));
      rows_are = k.rows_are;
      fits = k.fits;
      count = k.count;
      each = k.each;
      low_in = k.low_in;
      busy = k.busy;
      queries_are = length-set queries at (record old { left = true }) ∙ k.queries_are;
      each_query = λ i q h f.
          elim (read_set queries at (record old { left = true }) q i h f) as (λ _. IsQuery (history ++ e ∷ []) (e ∷ before) (i + 1) q) [
            | inl g ↦
                subst (λ (x : Query). IsQuery (history ++ e ∷ []) (e ∷ before) (i + 1) x) (sym g.1)
                (subst (λ (n : ℕ). IsQuery (history ++ e ∷ []) (e ∷ before) n (record old { left = true })) (is ∙ sym (ap (λ (n : ℕ). n + 1) g.0))
                (it_left history before seat r old one))
            | inr g ↦ other_stays history before seat r (i + 1) q (λ same. g.0 (omega (arith, is))) (k.each_query i q g.1 g.2)
          ];
    }
