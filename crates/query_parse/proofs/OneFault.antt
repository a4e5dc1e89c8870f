-- A text has at most one fault, and none where its tokens are a query. What stops a reader is the first token that makes
-- what was read no query's beginning, or a clashing test whole.
use Rattle.std.proofs.Common.{◌≡◌, ℕ, ◌≤◌, ◌<◌, Bool, true, false, if◌then◌else◌, List, [], ◌∷◌, ◌++◌, Option, None, Some, Result, Ok, Err, length, refl, ap, sym, ◌∙◌, subst, append_assoc, length-append, arith, ◌⊎◌, inl, inr, nat_lt}
use Rattle.std.specs.Option.{option_and_then}
use Rattle.std.proofs.lemmas.List.{append-nil}
use Rattle.std.proofs.lemmas.Bool.{lt-ltb, le-ltb, ltb-true, ltb-false}
use Rattle.query_meaning.specs.declared.expr.Expr.{Expr}
use Rattle.query_parse.specs.declared.fault.QueryFault.{QueryFault}
use Rattle.query_parse.specs.declared.fault.QueryWhat.{QueryWhat}
use Rattle.query_parse.specs.declared.fault.QueryWhat.TheVariants.{Unexpected, BadLiteral, KindClash, TooDeep, TooLong}
use Rattle.query_parse.specs.declared.lexeme.Lexeme.{Lexeme}
use Rattle.query_parse.specs.declared.lexeme.Lexeme.TheVariants as lexeme
use Rattle.query_parse.specs.Faults.{Begins, Clean, kinds_of, IsOpening, Stops, IsUnexpected, IsBad, IsTooDeep, literal_at, Clashes, FaultIn, most_bytes, IsFault}
use Rattle.query_parse.specs.Grammar.{most_open, Reads}
use Rattle.query_parse.specs.Parsing.{run, start, parsed}
use Rattle.query_parse.specs.Tokens.{Token, tokens_of, lexemes_of}
use Rattle.query_parse.specs.Laws.{ParsedReads, ParsedFaults, OneFault}
use Rattle.query_parse.proofs.Passing.{reading_passes}
use Rattle.query_parse.proofs.Shapes.{Place, AtUnit, AtRel, AtLiteral, AtTurnedRel, AtPick, Behind, AtEnd, Shape, shape, start_shape, move, limited, run_by, run_parts, begins_runs}
use Rattle.query_parse.proofs.Judging.{verdict, fault_is}
use Rattle.query_parse.proofs.Stepping.{Verdict}

kinds_append : (xs ys : List Token) → kinds_of (xs ++ ys) ≡ kinds_of xs ++ kinds_of ys
kinds_append [] ys = refl
kinds_append (t ∷ xs) ys = ap (λ (l : List Lexeme). t.lexeme ∷ l) (kinds_append xs ys)

begins_front : (most : ℕ) (xs ys : List Lexeme) → Begins most (xs ++ ys) → Begins most xs
begins_front most xs ys b = record { query = b.query; more = ys ++ b.more; spells = b.spells ∙ append_assoc xs ys b.more; within = b.within }

clean_front : (xs ys : List Lexeme) → Clean (xs ++ ys) → Clean xs
clean_front xs ys clean = λ front a b c after test is whole.
    clean front a b c (after ++ ys) test (ap (λ (t : List Lexeme). t ++ ys) is ∙ append_assoc front (a ∷ (b ∷ (c ∷ after))) ys) whole

-- where a reader stops: what is before goes on well, and with the token it doesn't
record Edge (tokens : List Token) : Type 0 where
  pub before : List Token
  pub token : Token
  pub after : List Token
  pub split : tokens ≡ before ++ token ∷ after
  pub good : Begins most_open (kinds_of before)
  pub clean : Clean (kinds_of before)
  pub last : Begins most_open (kinds_of (before ++ token ∷ [])) → Clean (kinds_of (before ++ token ∷ [])) → ⊥

not_beyond : (tokens : List Token) (e : Edge tokens) (longer more : List Token) → longer ≡ (e.before ++ e.token ∷ []) ++ more → Begins most_open (kinds_of longer) → Clean (kinds_of longer) → ⊥
not_beyond tokens e longer more is good clean =
    let first : List Lexeme = kinds_of (e.before ++ e.token ∷ []) in
    let parts : kinds_of longer ≡ first ++ kinds_of more = ap kinds_of is ∙ kinds_append (e.before ++ e.token ∷ []) more in
    e.last (begins_front most_open first (kinds_of more) (subst (Begins most_open) parts good)) (clean_front first (kinds_of more) (subst Clean parts clean))

-- two cuts of a list at a token

data Compared (b c : List Token) (t u : Token) : Type 0 where
  same : b ≡ c → t ≡ u → Compared b c t u
  longer : (more : List Token) → c ≡ (b ++ t ∷ []) ++ more → Compared b c t u
  shorter : (more : List Token) → b ≡ (c ++ u ∷ []) ++ more → Compared b c t u

compare_more : (x y : Token) (b c : List Token) (t u : Token) → x ≡ y → Compared b c t u → Compared (x ∷ b) (y ∷ c) t u
compare_more x y b c t u e (same p q) = same (ap (λ (k : Token). k ∷ b) e ∙ ap (λ (l : List Token). y ∷ l) p) q
compare_more x y b c t u e (longer more p) = longer more (ap (λ (k : Token). k ∷ c) (sym e) ∙ ap (λ (l : List Token). x ∷ l) p)
compare_more x y b c t u e (shorter more p) = shorter more (ap (λ (k : Token). k ∷ b) e ∙ ap (λ (l : List Token). y ∷ l) p)

compared : (b c : List Token) (t u : Token) (d e : List Token) → b ++ t ∷ d ≡ c ++ u ∷ e → Compared b c t u
compared [] [] t u d e is = same refl cc
compared [] (y ∷ c) t u d e is = let first : y ≡ t = cc in longer c (ap (λ (k : Token). k ∷ c) first)
compared (x ∷ b) [] t u d e is = let first : x ≡ u = cc in shorter b (ap (λ (k : Token). k ∷ b) first)
compared (x ∷ b) (y ∷ c) t u d e is =
    let first : x ≡ y = cc in
    let rest : b ++ t ∷ d ≡ c ++ u ∷ e = cc in
    compare_more x y b c t u first (compared b c t u d e rest)

by_compared : (tokens : List Token) (e f : Edge tokens) → Compared e.before f.before e.token f.token → (e.before ≡ f.before) × (e.token ≡ f.token)
by_compared tokens e f (same p q) = (p, q)
by_compared tokens e f (longer more p) = absurd (not_beyond tokens e f.before more p f.good f.clean)
by_compared tokens e f (shorter more p) = absurd (not_beyond tokens f e.before more p e.good e.clean)

-- a reader stops at one place
one_edge : (tokens : List Token) (e f : Edge tokens) → (e.before ≡ f.before) × (e.token ≡ f.token)
one_edge tokens e f = by_compared tokens e f (compared e.before f.before e.token f.token e.after f.after (sym e.split ∙ f.split))

-- Each fault stops a reader

abbrev Barred : (List Lexeme → Lexeme → Type 0) → Type 0
Barred P = (before : List Lexeme) (token : Lexeme) → P before token → Begins most_open (before ++ token ∷ []) → ⊥

abbrev stop_edge : (tokens : List Token) (at : ℕ) (P : List Lexeme → Lexeme → Type 0) → Barred P → Stops tokens at P → Edge tokens
stop_edge tokens at P bars s = record {
  before = s.before;
  token = s.token;
  after = s.after;
  split = s.split;
  good = s.good;
  clean = s.clean;
  last = λ begins clean. bars (kinds_of s.before) s.token.lexeme s.is (subst (Begins most_open) (kinds_append s.before (s.token ∷ [])) begins);
}

unexpected_bars : Barred IsUnexpected
unexpected_bars before token is begins = is.1 (record { query = begins.query; more = begins.more; spells = begins.spells })

too_deep_bars : Barred IsTooDeep
too_deep_bars before token is begins = is.2 begins

no_bad_move : (o : List ℕ) (n : ℕ) (place : Place) → move (shape o n place) lexeme.Bad ≡ None
no_bad_move o n AtUnit = refl
no_bad_move o n AtRel = refl
no_bad_move o n AtLiteral = refl
no_bad_move o n AtTurnedRel = refl
no_bad_move o n AtPick = refl
no_bad_move o n Behind = refl
no_bad_move o n AtEnd = refl

no_bad_run : (r : Option Shape) (e : Shape) → option_and_then (λ t. run_by (limited most_open) t (lexeme.Bad ∷ [])) r ≡ Some e → ⊥
no_bad_run None e is = cc
no_bad_run (Some t) e is =
    let stops : option_and_then (λ u. run_by (limited most_open) u []) (move t lexeme.Bad) ≡ None = ap (option_and_then (λ u. run_by (limited most_open) u [])) (no_bad_move t.outer t.nots t.place) in
    let none : None ≡ Some e = sym stops ∙ is in
    cc

bad_bars : Barred IsBad
bad_bars before token is begins =
    let bad : Begins most_open (before ++ lexeme.Bad ∷ []) = subst (λ (x : Lexeme). Begins most_open (before ++ x ∷ [])) is begins in
    let runs = begins_runs most_open (before ++ lexeme.Bad ∷ []) bad in
    no_bad_run (run_by (limited most_open) start_shape before) runs.to (sym (run_parts (limited most_open) before (lexeme.Bad ∷ []) start_shape) ∙ runs.is)

abbrev clash_edge : (tokens : List Token) (at : ℕ) → Clashes tokens at → Edge tokens
clash_edge tokens at c =
    let front : List Token = c.before ++ (c.first ∷ (c.second ∷ [])) in
    let three : c.before ++ (c.first ∷ (c.second ∷ (c.third ∷ []))) ≡ front ++ c.third ∷ [] = sym (append_assoc c.before (c.first ∷ (c.second ∷ [])) (c.third ∷ [])) in
    record {
      before = front;
      token = c.third;
      after = c.after;
      split = c.split ∙ sym (append_assoc c.before (c.first ∷ (c.second ∷ [])) (c.third ∷ c.after));
      good = begins_front most_open (kinds_of front) (c.third.lexeme ∷ []) (subst (Begins most_open) (ap kinds_of three ∙ kinds_append front (c.third ∷ [])) c.good);
      clean = c.clean;
      last = λ begins clean.
          let agrees_whole = clean (kinds_of c.before) c.first.lexeme c.second.lexeme c.third.lexeme [] c.test (ap kinds_of (sym three) ∙ kinds_append c.before (c.first ∷ (c.second ∷ (c.third ∷ [])))) c.whole in
          let clashes = c.clash in
          absurd (cc (agrees_whole, clashes));
    }

-- Two faults are one

stops_twice : (tokens : List Token) (a b : ℕ) (P Q : List Lexeme → Lexeme → Type 0) → Barred P → Barred Q → (s : Stops tokens a P) → Stops tokens b Q → (a ≡ b) × Q (kinds_of s.before) s.token.lexeme
stops_twice tokens a b P Q bar_p bar_q s t =
    let one = one_edge tokens (stop_edge tokens a P bar_p s) (stop_edge tokens b Q bar_q t) in
    let at_before : Q (kinds_of s.before) t.token.lexeme = subst (λ (l : List Token). Q (kinds_of l) t.token.lexeme) (sym one.0) t.is in
    (sym s.place ∙ (ap (λ (k : Token). k.at) one.1 ∙ t.place), subst (λ (k : Token). Q (kinds_of s.before) k.lexeme) (sym one.1) at_before)

stops_clashes : (tokens : List Token) (a b : ℕ) (P : List Lexeme → Lexeme → Type 0) → Barred P → Stops tokens a P → Clashes tokens b → ⊥
stops_clashes tokens a b P bars s c =
    let front : List Token = c.before ++ (c.first ∷ (c.second ∷ [])) in
    let one = one_edge tokens (stop_edge tokens a P bars s) (clash_edge tokens b c) in
    let three : c.before ++ (c.first ∷ (c.second ∷ (c.third ∷ []))) ≡ front ++ c.third ∷ [] = sym (append_assoc c.before (c.first ∷ (c.second ∷ [])) (c.third ∷ [])) in
    let begins : Begins most_open (kinds_of front ++ c.third.lexeme ∷ []) = subst (Begins most_open) (ap kinds_of three ∙ kinds_append front (c.third ∷ [])) c.good in
    let at_before : Begins most_open (kinds_of s.before ++ c.third.lexeme ∷ []) = subst (λ (l : List Token). Begins most_open (kinds_of l ++ c.third.lexeme ∷ [])) (sym one.0) begins in
    bars (kinds_of s.before) s.token.lexeme s.is (subst (λ (k : Token). Begins most_open (kinds_of s.before ++ k.lexeme ∷ [])) (sym one.1) at_before)

-- the tokens before the last
second_last : (xs ys : List Token) (a b c d : Token) → xs ++ (a ∷ (b ∷ [])) ≡ ys ++ (c ∷ (d ∷ [])) → Compared xs ys a c → a ≡ c
second_last xs ys a b c d is (same p q) = q
second_last xs ys a b c d is (longer more p) =
    absurd (omega (arith, ap length is, ap length p, length-append xs (a ∷ (b ∷ [])), length-append ys (c ∷ (d ∷ [])), length-append xs (a ∷ []), length-append (xs ++ a ∷ []) more))
second_last xs ys a b c d is (shorter more p) =
    absurd (omega (arith, ap length is, ap length p, length-append xs (a ∷ (b ∷ [])), length-append ys (c ∷ (d ∷ [])), length-append ys (c ∷ []), length-append (ys ++ c ∷ []) more))

clashes_twice : (tokens : List Token) (a b : ℕ) → Clashes tokens a → Clashes tokens b → a ≡ b
clashes_twice tokens a b c d =
    let one = one_edge tokens (clash_edge tokens a c) (clash_edge tokens b d) in
    let first : c.first ≡ d.first = second_last c.before d.before c.first c.second d.first d.second one.0 (compared c.before d.before c.first d.first (c.second ∷ []) (d.second ∷ []) one.0) in
    sym c.place ∙ (ap (λ (k : Token). literal_at k c.third) first ∙ (ap (λ (k : Token). literal_at d.first k) one.1 ∙ d.place))

not_opening : (x : Lexeme) → x ≡ lexeme.Bad → IsOpening x → ⊥
not_opening x is opening = subst IsOpening is opening

pub one_fault_in : (tokens : List Token) (a b : ℕ) (what other : QueryWhat) → FaultIn tokens a what → FaultIn tokens b other → (a ≡ b) × (what ≡ other)
one_fault_in tokens a b Unexpected Unexpected s t = ((stops_twice tokens a b IsUnexpected IsUnexpected unexpected_bars unexpected_bars s t).0, refl)
one_fault_in tokens a b Unexpected BadLiteral s t = absurd (s.is.0 (stops_twice tokens a b IsUnexpected IsBad unexpected_bars bad_bars s t).1)
one_fault_in tokens a b Unexpected TooDeep s t = absurd (s.is.1 (stops_twice tokens a b IsUnexpected IsTooDeep unexpected_bars too_deep_bars s t).1.1)
one_fault_in tokens a b BadLiteral Unexpected s t = absurd ((stops_twice tokens a b IsBad IsUnexpected bad_bars unexpected_bars s t).1.0 s.is)
one_fault_in tokens a b BadLiteral BadLiteral s t = ((stops_twice tokens a b IsBad IsBad bad_bars bad_bars s t).0, refl)
one_fault_in tokens a b BadLiteral TooDeep s t = absurd (not_opening s.token.lexeme s.is (stops_twice tokens a b IsBad IsTooDeep bad_bars too_deep_bars s t).1.0)
one_fault_in tokens a b TooDeep Unexpected s t = absurd ((stops_twice tokens a b IsTooDeep IsUnexpected too_deep_bars unexpected_bars s t).1.1 s.is.1)
one_fault_in tokens a b TooDeep BadLiteral s t = absurd (not_opening s.token.lexeme (stops_twice tokens a b IsTooDeep IsBad too_deep_bars bad_bars s t).1 s.is.0)
one_fault_in tokens a b TooDeep TooDeep s t = ((stops_twice tokens a b IsTooDeep IsTooDeep too_deep_bars too_deep_bars s t).0, refl)
one_fault_in tokens a b Unexpected KindClash s c = absurd (stops_clashes tokens a b IsUnexpected unexpected_bars s c)
one_fault_in tokens a b BadLiteral KindClash s c = absurd (stops_clashes tokens a b IsBad bad_bars s c)
one_fault_in tokens a b TooDeep KindClash s c = absurd (stops_clashes tokens a b IsTooDeep too_deep_bars s c)
one_fault_in tokens a b KindClash Unexpected c s = absurd (stops_clashes tokens b a IsUnexpected unexpected_bars s c)
one_fault_in tokens a b KindClash BadLiteral c s = absurd (stops_clashes tokens b a IsBad bad_bars s c)
one_fault_in tokens a b KindClash TooDeep c s = absurd (stops_clashes tokens b a IsTooDeep too_deep_bars s c)
one_fault_in tokens a b KindClash KindClash c d = (clashes_twice tokens a b c d, refl)
one_fault_in tokens a b TooLong other s t = absurd s
one_fault_in tokens a b what TooLong s t = absurd t

-- A query has none

edge_of : (tokens : List Token) (at : ℕ) (what : QueryWhat) → FaultIn tokens at what → Edge tokens
edge_of tokens at Unexpected s = stop_edge tokens at IsUnexpected unexpected_bars s
edge_of tokens at BadLiteral s = stop_edge tokens at IsBad bad_bars s
edge_of tokens at TooDeep s = stop_edge tokens at IsTooDeep too_deep_bars s
edge_of tokens at KindClash c = clash_edge tokens at c
edge_of tokens at TooLong s = absurd s

no_fault : (tokens : List Token) (e : Expr) (at : ℕ) (what : QueryWhat) → Reads (kinds_of tokens) e → Clean (kinds_of tokens) → FaultIn tokens at what → ⊥
no_fault tokens e at what reads clean fault =
    let edge = edge_of tokens at what fault in
    let begins : Begins most_open (kinds_of tokens) = record { query = reads.query; more = []; spells = sym reads.spells ∙ sym (append-nil (kinds_of tokens)); within = reads.shallow } in
    not_beyond tokens edge tokens edge.after (edge.split ∙ sym (append_assoc edge.before (edge.token ∷ []) edge.after)) begins clean

abbrev fault : ℕ → QueryWhat → Result Expr QueryFault
fault at what = Err (record { at = at; what = what })

reading_is : (tokens : List Token) (r : Result Expr QueryFault) (at : ℕ) (what : QueryWhat) → Verdict tokens r → FaultIn tokens at what → r ≡ fault at what
reading_is tokens (Ok e) at what v f = absurd (no_fault tokens e at what v.0 v.1 f)
reading_is tokens (Err g) at what v f =
    let one = one_fault_in tokens g.at at g.what what v f in
    ap (λ (a : ℕ). fault a g.what) one.0 ∙ ap (λ (w : QueryWhat). fault at w) one.1

short_parsed : (text : List ℕ) → length text ≤ most_bytes → parsed text ≡ run start (tokens_of text)
unfolding parsed
short_parsed text short = rw (le-ltb most_bytes (length text) short) refl

pub fault_parsed : (text : List ℕ) (at : ℕ) (what : QueryWhat) → IsFault text at what → parsed text ≡ fault at what
unfolding parsed
fault_parsed text at TooLong f = rw (lt-ltb most_bytes (length text) f.0, f.1) refl
fault_parsed text at Unexpected f = short_parsed text f.0 ∙ reading_is (tokens_of text) (run start (tokens_of text)) at Unexpected (verdict text (run start (tokens_of text)) refl) f.1
fault_parsed text at BadLiteral f = short_parsed text f.0 ∙ reading_is (tokens_of text) (run start (tokens_of text)) at BadLiteral (verdict text (run start (tokens_of text)) refl) f.1
fault_parsed text at KindClash f = short_parsed text f.0 ∙ reading_is (tokens_of text) (run start (tokens_of text)) at KindClash (verdict text (run start (tokens_of text)) refl) f.1
fault_parsed text at TooDeep f = short_parsed text f.0 ∙ reading_is (tokens_of text) (run start (tokens_of text)) at TooDeep (verdict text (run start (tokens_of text)) refl) f.1

-- What a text parses to is the grammar

abbrev Parts : List ℕ → Result Expr QueryFault → Type 0
Parts text r = ((length text ≤ most_bytes) × (run start (tokens_of text) ≡ r)) ⊎ ((most_bytes < length text) × (fault most_bytes TooLong ≡ r))

parsed_by : (text : List ℕ) (r : Result Expr QueryFault) (long : Bool) → nat_lt most_bytes (length text) ≡ long → (if long then fault most_bytes TooLong else run start (tokens_of text)) ≡ r → Parts text r
parsed_by text r true test is = inr (ltb-true most_bytes (length text) test, is)
parsed_by text r false test is = inl (ltb-false most_bytes (length text) test, is)

parsed_parts : (text : List ℕ) (r : Result Expr QueryFault) → parsed text ≡ r → Parts text r
unfolding parsed
parsed_parts text r is = parsed_by text r (nat_lt most_bytes (length text)) refl is

ok_parts : (text : List ℕ) (e : Expr) → Parts text (Ok e) → (length text ≤ most_bytes) × Reads (lexemes_of text) e
ok_parts text e (inl h) = (h.0, (verdict text (Ok e) h.1).0)
ok_parts text e (inr h) = let no = h.1 in absurd (cc (no))

pub parsed_reads : ParsedReads
parsed_reads text e = (
  λ is. ok_parts text e (parsed_parts text (Ok e) is),
  λ reads. short_parsed text reads.0 ∙ reading_passes (tokens_of text) e reads.1,
)

err_parts : (text : List ℕ) (f : QueryFault) → Parts text (Err f) → IsFault text f.at f.what
err_parts text f (inl h) = fault_is text f.at f.what h.0 (verdict text (Err f) h.1)
err_parts text f (inr h) =
    let no : fault most_bytes TooLong ≡ Err f = h.1 in
    let same : record { at = most_bytes; what = TooLong } ≡ f = cc in
    subst (λ (g : QueryFault). IsFault text g.at g.what) same (h.0, refl)

pub parsed_faults : ParsedFaults
parsed_faults text f = (λ is. err_parts text f (parsed_parts text (Err f) is), λ is. fault_parsed text f.at f.what is)

err_is : (x y : QueryFault) → ◌≡◌ {A = Result Expr QueryFault} (Err x) (Err y) → x ≡ y
err_is x y h = cc

pub one_fault : OneFault
one_fault text a b what other f g =
    let x : QueryFault = record { at = a; what = what } in
    let y : QueryFault = record { at = b; what = other } in
    let both : fault a what ≡ fault b other = sym (fault_parsed text a what f) ∙ fault_parsed text b other g in
    let same : x ≡ y = err_is x y both in
    (ap (λ (k : QueryFault). k.at) same, ap (λ (k : QueryFault). k.what) same)
