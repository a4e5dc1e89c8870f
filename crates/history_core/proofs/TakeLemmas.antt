-- What a store keeps when a query is told.
use Rattle.std.proofs.Common.{◌||◌, ◌≤◌, refl, slice_get, ◌&&◌, nat_le, nat_lt, ◌≡◌, ◌≢◌, ℕ, ◌+◌, ◌<◌, Bool, true, false, ◌==◌, if◌then◌else◌, List, [], ◌∷◌, ◌++◌, Option, None, Some, is_some, length, slice_index_or, ap, sym, ◌∙◌, subst, arith, inl, inr}
use Rattle.std.proofs.Math.ListN.{set, length-set}
use Rattle.std.proofs.lemmas.Bool.Decides.{leb_tells, nat_tests}
use Rattle.query_meaning.specs.declared.expr.Expr.{Expr}
use Rattle.event_history.specs.declared.entry.Deed.TheVariants.{Take}
use Rattle.event_history.specs.declared.entry.Entry.{Entry}
use Rattle.event_history.specs.declared.entry.Limits.{Limits}
use Rattle.event_history.specs.Legal.{GoesTo, Legal}
use Rattle.event_history.specs.Queries.{Registration, has_left, position, registration}
use Rattle.history_core.specs.declared.kept.Kept.{Kept}
use Rattle.history_core.specs.declared.kept.Query.{Query}
use Rattle.history_core.specs.Stores.{IsQuery, Keeps, expr_at, registered_as}
use Rattle.history_core.proofs.CarryLemmas.{expr_more}
use Rattle.history_core.proofs.ClaimLemmas.{entry}
use Rattle.history_core.proofs.LegalLemmas.{other}
use Rattle.partition.proofs.ListLemmas.{read_set}
use Rattle.event_history.specs.Choices.{Taking, stop_at}
use Rattle.event_history.specs.Events.{matches}
use Rattle.event_history.specs.Histories.{event_count, events}
use Rattle.event_history.specs.Modes.{live_end, past_begin}
use Rattle.event_history.specs.Laws.{TellsOnce, is_due, told_as}
use Rattle.event_history.proofs.AnswerLemmas.{le_false, le_true, lt_false, lt_true}
use Rattle.event_history.proofs.TellingLemmas.{exactly, standing_of}
use Rattle.history_core.specs.Telling.{TellsSpan, TellsUpTo}
use Rattle.history_core.specs.Snapshots.{IsSnapshot, Snapshot}

itself : (n : ℕ) → (n == n) ≡ true
itself n = grind (arith, nat_tests)

module _ (history before : List Entry) (seat r past_to live_to : ℕ) where
  other_stays : (n : ℕ) (q : Query) → n ≢ r → IsQuery history before n q
      → IsQuery (history ++ entry seat (Take r past_to live_to) ∷ []) (entry seat (Take r past_to live_to) ∷ before) n q
  other_stays n q h is =
      let same : expr_at (history ++ entry seat (Take r past_to live_to) ∷ []) q.place ≡ expr_at history q.place = expr_more history (entry seat (Take r past_to live_to)) q.place is.0 in (
        ap (λ (o : Option Expr). is_some o) same ∙ is.0,
        is.1 ∙ sym (ap (λ (o : Option Expr). registered_as q o) same),
        ap (λ (b : Bool). if b then (past_to, live_to) else position n before) (other r n (λ e. h (sym e))) ∙ is.2,
        is.3,
      )

  it_moves : (q : Query) → IsQuery history before r q
      → IsQuery (history ++ entry seat (Take r past_to live_to) ∷ []) (entry seat (Take r past_to live_to) ∷ before) r (record q { past_to = past_to; live_to = live_to })
  it_moves q is =
      let same : expr_at (history ++ entry seat (Take r past_to live_to) ∷ []) q.place ≡ expr_at history q.place = expr_more history (entry seat (Take r past_to live_to)) q.place is.0 in (
        ap (λ (o : Option Expr). is_some o) same ∙ is.0,
        is.1 ∙ sym (ap (λ (o : Option Expr). registered_as q o) same),
        ap (λ (b : Bool). if b then (past_to, live_to) else position r before) (itself r),
        is.3,
      )

pub take_keeps : (limits : Limits) (history before : List Entry) (seat r past_to live_to : ℕ) (rows : ℕ) (kept : List Kept) (low at : ℕ) (queries : List Query) (old : Query)
    → Keeps limits history before rows kept low queries → at < length queries → old ≡ slice_index_or queries at old → old.left ≡ false → r ≡ at + 1
    → GoesTo before r past_to live_to (registration r before)
    → Keeps limits (history ++ entry seat (Take r past_to live_to) ∷ []) (entry seat (Take r past_to live_to) ∷ before) rows kept low
    (set queries at (record old { past_to = past_to; live_to = live_to }))
take_keeps limits history before seat r past_to live_to rows kept low at queries old k there found stays is goes =
    let e : Entry = entry seat (Take r past_to live_to) in
    let new : Query = record old { past_to = past_to; live_to = live_to } in
    let one : IsQuery history before r old = subst (λ (n : ℕ). IsQuery history before n old) (sym is) (k.each_query at old there found) in
    record {
      legal = (k.legal, (sym one.3 ∙ stays, goes));
      rows_are = k.rows_are;
      fits = k.fits;
      count = k.count;
      each = k.each;
      low_in = k.low_in;
      busy = k.busy;
      queries_are = length-set queries at new ∙ k.queries_are;
      each_query = λ i q h f.
          elim (read_set queries at new q i h f) as (λ _. IsQuery (history ++ e ∷ []) (e ∷ before) (i + 1) q) [
            | inl g ↦
                subst (λ (x : Query). IsQuery (history ++ e ∷ []) (e ∷ before) (i + 1) x) (sym g.1)
                (subst (λ (n : ℕ). IsQuery (history ++ e ∷ []) (e ∷ before) n new) (is ∙ sym (ap (λ (n : ℕ). n + 1) g.0))
                (it_moves history before seat r past_to live_to old one))
            | inr g ↦ other_stays history before seat r past_to live_to (i + 1) q (λ same. g.0 (omega (arith, is))) (k.each_query i q g.1 g.2)
          ];
    }

-- a take goes where its snapshot says
pub snapshot_goes : (size : ℕ) (before : List Entry) (q : ℕ) (x : Snapshot) (o : Option Registration) → IsSnapshot size before q x o
    → GoesTo before q x.taking.past_to x.taking.live_to o
snapshot_goes size before q x None is = is
snapshot_goes size before q x (Some g) is = (ap (λ (t : Taking). t.past_to) is.0, ap (λ (t : Taking). t.live_to) is.0)

-- What the query was told then.
or_nothing : (b : Bool) → ((b && true) || false) ≡ (b && true)
or_nothing true = refl
or_nothing false = refl

due_span : (a r f id : ℕ) → a ≤ r → r ≤ f → ((nat_le a id && nat_lt id r) || (nat_le r id && nat_lt id f)) ≡ (nat_le a id && nat_lt id f)
due_span a r f id h k =
    elim (leb_tells r id) as (λ _. ((nat_le a id && nat_lt id r) || (nat_le r id && nat_lt id f)) ≡ (nat_le a id && nat_lt id f)) [
      | inl e ↦
          ap (λ (b : Bool). (nat_le a id && b) || (nat_le r id && nat_lt id f)) (lt_false id r e.1)
          ∙ ap (λ (b : Bool). (nat_le a id && false) || (b && nat_lt id f)) (le_true r id e.1)
          ∙ ap (λ (b : Bool). (b && false) || nat_lt id f) (le_true a id (omega (arith, h, e.1)))
          ∙ sym (ap (λ (b : Bool). b && nat_lt id f) (le_true a id (omega (arith, h, e.1))))
      | inr e ↦
          ap (λ (b : Bool). (nat_le a id && b) || (nat_le r id && nat_lt id f)) (lt_true id r e.1)
          ∙ ap (λ (b : Bool). (nat_le a id && true) || (b && nat_lt id f)) (le_false r id e.1)
          ∙ or_nothing (nat_le a id)
          ∙ sym (ap (λ (b : Bool). nat_le a id && b) (lt_true id f (omega (arith, k, e.1))))
    ]

module _ (law : ((limits : Limits) (before : List Entry) (q : ℕ) → TellsOnce limits before q)) (limits : Limits) (before : List Entry) (seat q : ℕ) (x : Snapshot) (g : Registration)
    (is : registration q before ≡ Some g) (snap : IsSnapshot limits.group before q x (Some g)) (legal : Legal limits before) (stays : has_left q before ≡ false) where
  legal_then : Legal limits (entry seat (Take q x.taking.past_to x.taking.live_to) ∷ before)
  legal_then = (legal, (stays, subst (λ (o : Option Registration). GoesTo before q x.taking.past_to x.taking.live_to o) (sym is) (snapshot_goes limits.group before q x (Some g) snap)))

  at_then : position q (entry seat (Take q x.taking.past_to x.taking.live_to) ∷ before) ≡ (x.taking.past_to, x.taking.live_to)
  at_then = ap (λ (b : Bool). if b then (x.taking.past_to, x.taking.live_to) else position q before) (itself q)

  live_then : x.taking.live_to ≡ live_end g.mode g.from (event_count before)
  live_then = ap (λ (t : Taking). t.live_to) snap.0

  past_then : x.taking.again ≡ None → x.taking.past_to ≡ g.from
  past_then none =
      ap (λ (t : Taking). t.past_to) snap.0
      ∙ ap (λ (o : Option ℕ). stop_at (position q before).0 g.from before o) (sym (ap (λ (t : Taking). t.again) snap.0) ∙ none)

  spans_then : x.taking.again ≡ None → TellsSpan (entry seat (Take q x.taking.past_to x.taking.live_to) ∷ before) q g
  spans_then none id =
      let after : List Entry = entry seat (Take q x.taking.past_to x.taking.live_to) ∷ before in
      let s = standing_of limits after q g legal_then is in
      let at : position q after ≡ (g.from, live_end g.mode g.from (event_count before)) =
      at_then ∙ ap (λ (n : ℕ). (n, x.taking.live_to)) (past_then none) ∙ ap (λ (n : ℕ). (g.from, n)) live_then in
      let low : past_begin g.mode g.from ≤ g.from = omega (arith, s.begins, s.within) in
      let high : g.from ≤ live_end g.mode g.from (event_count before) =
      subst (λ (p : ℕ × ℕ). g.from ≤ p.1) at s.live_from in
      law limits after q legal_then g is id
      ∙ ap (λ (p : ℕ × ℕ). if is_due g p id then told_as (matches g.expr) id (slice_get (events before) id) else []) at
      ∙ ap (λ (b : Bool). if b then told_as (matches g.expr) id (slice_get (events before) id) else [])
      (due_span (past_begin g.mode g.from) g.from (live_end g.mode g.from (event_count before)) id low high)

  tells_some : TellsUpTo (entry seat (Take q x.taking.past_to x.taking.live_to) ∷ before) q x.taking (Some g)
  tells_some =
      (exactly limits (entry seat (Take q x.taking.past_to x.taking.live_to) ∷ before) q legal_then g is, at_then, live_then, spans_then)

tells_by : ((limits : Limits) (before : List Entry) (q : ℕ) → TellsOnce limits before q) → (limits : Limits) (before : List Entry) (seat q : ℕ) (x : Snapshot) (o : Option Registration) → registration q before ≡ o → IsSnapshot limits.group before q x o
    → Legal limits before → has_left q before ≡ false → TellsUpTo (entry seat (Take q x.taking.past_to x.taking.live_to) ∷ before) q x.taking o
tells_by law limits before seat q x None is snap legal stays = absurd snap
tells_by law limits before seat q x (Some g) is snap legal stays = tells_some law limits before seat q x g is snap legal stays

pub tells_then : ((limits : Limits) (before : List Entry) (q : ℕ) → TellsOnce limits before q) → (limits : Limits) (before : List Entry) (seat q : ℕ) (x : Snapshot) → IsSnapshot limits.group before q x (registration q before)
    → Legal limits before → has_left q before ≡ false
    → TellsUpTo (entry seat (Take q x.taking.past_to x.taking.live_to) ∷ before) q x.taking (registration q before)
tells_then law limits before seat q x snap legal stays = tells_by law limits before seat q x (registration q before) refl snap legal stays
