-- What a parser that read some tokens stands for.
use Rattle.std.proofs.Common.{◌≡◌, ◌≢◌, ℕ, ◌+◌, ◌≤◌, Bool, true, false, if◌then◌else◌, nat_lt, List, [], ◌∷◌, ◌++◌, Option, None, Some, Result, Ok, Err, IsTrue, refl, ap, sym, ◌∙◌, subst, append_assoc, arith, ⊎_elim}
use Rattle.std.specs.Option.{option_and_then}
use Rattle.std.proofs.lemmas.Bool.{cases_Bool, ltb-true}
use Rattle.query_meaning.specs.declared.expr.Test.{Test}
use Rattle.query_meaning.specs.declared.expr.Pick.{Pick}
use Rattle.query_meaning.specs.declared.expr.Rel.{Rel}
use Rattle.query_meaning.specs.declared.expr.Literal.{Literal}
use Rattle.query_meaning.specs.Agreement.{agrees}
use Rattle.query_parse.specs.declared.fault.QueryFault.{QueryFault}
use Rattle.query_parse.specs.declared.fault.QueryWhat.TheVariants.{Unexpected}
use Rattle.query_parse.specs.declared.lexeme.Lexeme.{Lexeme}
use Rattle.query_parse.specs.declared.lexeme.Lexeme.TheVariants as lexeme
use Rattle.query_parse.specs.declared.parser.Group.{Group as Read}
use Rattle.query_parse.specs.declared.parser.Parser.{Parser}
use Rattle.query_parse.specs.declared.parser.Phase.{Phase}
use Rattle.query_parse.specs.declared.parser.Phase.TheVariants.{Start, Picked, Related, Valued, Reversed, Whole}
use Rattle.query_parse.specs.Faults.{Begins, Continues, Clean, test_in, kinds_of, Stops, IsUnexpected, IsBad, FaultIn}
use Rattle.query_parse.specs.Grammar.{UnitTree, AndTree, unit_spelled, most_open}
use Rattle.query_parse.specs.Parsing.{refused}
use Rattle.query_parse.specs.Tokens.{Token}
use Rattle.query_parse.proofs.Halves.{Half, front, outer_front, ors_front, ands_front, nots_of, read_half, read_whole, FineOuter, FineHalf, FineAnds, FineUnits, FineUnit}
use Rattle.query_parse.proofs.Shapes.{Place, AtUnit, AtRel, AtLiteral, AtTurnedRel, AtPick, Behind, AtEnd, Shape, shape, start_shape, opened, depth_at, move, limited, run_by, run_parts, run_free, begins_runs, continues_runs}

abbrev pub tok : ℕ → Lexeme → Token
tok at x = record { at = at; lexeme = x }

abbrev pub outers : List Half → List Read
outers [] = []
outers (h ∷ hs) = outers hs ++ read_half h ∷ []

-- a parser before a unit is whole, and behind a whole one
abbrev pub parser_at : List Half → Half → Phase → Parser
parser_at hs h phase = record { outer = outers hs; group = read_half h; depth = opened (nots_of hs) + h.nots; phase = phase }

abbrev pub parser_behind : List Half → List AndTree → List UnitTree → UnitTree → Parser
parser_behind hs ors us last = record { outer = outers hs; group = read_whole ors us last; depth = opened (nots_of hs); phase = Whole }

abbrev pub before : List Half → Half → List Lexeme
before hs h = outer_front hs ++ front h

abbrev pub behind_front : List Half → List AndTree → List UnitTree → UnitTree → List Lexeme
behind_front hs ors us last = outer_front hs ++ (ors_front ors ++ (ands_front us ++ unit_spelled last))

-- the tokens read so far are these; some query begins with them, and no whole test among them clashes
pub record Ready (done : List Token) (ls : List Lexeme) (s : Shape) : Type 0 where
  pub is : kinds_of done ≡ ls
  pub runs : run_by move start_shape ls ≡ Some s
  pub clean : Clean ls

pub data Stands : Parser → List Token → Type 0 where
  at_unit : (hs : List Half) (h : Half) (done : List Token) → FineOuter hs → FineHalf (opened (nots_of hs)) h
      → Ready done (before hs h) (shape (nots_of hs) h.nots AtUnit) → Stands (parser_at hs h Start) done
  at_rel : (hs : List Half) (h : Half) (base : List Token) (a : ℕ) (pick : Pick) → FineOuter hs → FineHalf (opened (nots_of hs)) h
      → Ready (base ++ tok a (lexeme.Pick pick) ∷ []) (before hs h ++ lexeme.Pick pick ∷ []) (shape (nots_of hs) h.nots AtRel)
      → kinds_of base ≡ before hs h
      → Stands (parser_at hs h (Picked pick)) (base ++ tok a (lexeme.Pick pick) ∷ [])
  at_literal : (hs : List Half) (h : Half) (base : List Token) (a b : ℕ) (pick : Pick) (rel : Rel) → FineOuter hs → FineHalf (opened (nots_of hs)) h
      → Ready (base ++ (tok a (lexeme.Pick pick) ∷ (tok b (lexeme.Rel rel) ∷ []))) (before hs h ++ (lexeme.Pick pick ∷ (lexeme.Rel rel ∷ []))) (shape (nots_of hs) h.nots AtLiteral)
      → kinds_of base ≡ before hs h
      → Stands (parser_at hs h (Related pick rel)) (base ++ (tok a (lexeme.Pick pick) ∷ (tok b (lexeme.Rel rel) ∷ [])))
  at_turned : (hs : List Half) (h : Half) (base : List Token) (a : ℕ) (literal : Literal) → FineOuter hs → FineHalf (opened (nots_of hs)) h
      → Ready (base ++ tok a (lexeme.Literal literal) ∷ []) (before hs h ++ lexeme.Literal literal ∷ []) (shape (nots_of hs) h.nots AtTurnedRel)
      → kinds_of base ≡ before hs h
      → Stands (parser_at hs h (Valued literal a)) (base ++ tok a (lexeme.Literal literal) ∷ [])
  at_pick : (hs : List Half) (h : Half) (base : List Token) (a b : ℕ) (literal : Literal) (rel : Rel) → FineOuter hs → FineHalf (opened (nots_of hs)) h
      → Ready (base ++ (tok a (lexeme.Literal literal) ∷ (tok b (lexeme.Rel rel) ∷ []))) (before hs h ++ (lexeme.Literal literal ∷ (lexeme.Rel rel ∷ []))) (shape (nots_of hs) h.nots AtPick)
      → kinds_of base ≡ before hs h
      → Stands (parser_at hs h (Reversed literal a rel)) (base ++ (tok a (lexeme.Literal literal) ∷ (tok b (lexeme.Rel rel) ∷ [])))
  behind : (hs : List Half) (ors : List AndTree) (us : List UnitTree) (last : UnitTree) (done : List Token) → FineOuter hs
      → FineAnds (opened (nots_of hs)) ors → FineUnits (opened (nots_of hs)) us → FineUnit (opened (nots_of hs)) last
      → Ready done (behind_front hs ors us last) (shape (nots_of hs) 0 Behind) → Stands (parser_behind hs ors us last) done

-- what the next token makes: a parser that stands again, or the leftmost fault, whatever follows
abbrev pub Steps : List Token → ℕ → Lexeme → Result Parser QueryFault → Type 0
Steps done at x (Ok q) = Stands q (done ++ tok at x ∷ [])
Steps done at x (Err f) = (after : List Token) → FaultIn (done ++ tok at x ∷ after) f.at f.what

-- ---- one token more

pub kinds_more : (done : List Token) (at : ℕ) (x : Lexeme) (ls : List Lexeme) → kinds_of done ≡ ls → kinds_of (done ++ tok at x ∷ []) ≡ ls ++ x ∷ []
kinds_more [] at x ls is = ap (λ (t : List Lexeme). t ++ x ∷ []) is
kinds_more (t ∷ ts) at x ls is = ap (λ (l : List Lexeme). t.lexeme ∷ l) (kinds_more ts at x (kinds_of ts) refl) ∙ ap (λ (l : List Lexeme). l ++ x ∷ []) is

one : (m : Option Shape) → option_and_then (λ t. Some t) m ≡ m
one None = refl
one (Some t) = refl

pub runs_more : (ls : List Lexeme) (s : Shape) (x : Lexeme) (r : Option Shape) → run_by move start_shape ls ≡ Some s → move s x ≡ r → run_by move start_shape (ls ++ x ∷ []) ≡ r
runs_more ls s x r runs moves =
    run_parts move ls (x ∷ []) start_shape ∙ ap (λ (o : Option Shape). option_and_then (λ t. run_by move t (x ∷ [])) o) runs
    ∙ one (move s x) ∙ moves

pub ready_more : (done : List Token) (ls : List Lexeme) (s : Shape) (at : ℕ) (x : Lexeme) (next_s : Shape) (next_ls : List Lexeme) → Ready done ls s
    → move s x ≡ Some next_s → Clean (ls ++ x ∷ []) → ls ++ x ∷ [] ≡ next_ls → Ready (done ++ tok at x ∷ []) next_ls next_s
ready_more done ls s at x next_s next_ls ready moves clean same = record {
  is = kinds_more done at x ls ready.is ∙ same;
  runs = subst (λ (l : List Lexeme). run_by move start_shape l ≡ Some next_s) same (runs_more ls s x (Some next_s) ready.runs moves);
  clean = subst Clean same clean;
}

-- ---- no whole test clashes

pub record Snoc (xs : List Lexeme) (x : Lexeme) (ys : List Lexeme) (y : Lexeme) : Type 0 where
  pub front : xs ≡ ys
  pub last : x ≡ y

abbrev head_or : List Lexeme → Lexeme
head_or [] = lexeme.End
head_or (x ∷ xs) = x

abbrev tail_or : List Lexeme → List Lexeme
tail_or [] = []
tail_or (x ∷ xs) = xs

no_cons : (x : Lexeme) (xs : List Lexeme) → ◌≡◌ {A = List Lexeme} (x ∷ xs) [] → ⊥
no_cons x xs e = cc

no_snoc : (xs : List Lexeme) (x : Lexeme) → ◌≡◌ {A = List Lexeme} (xs ++ x ∷ []) [] → ⊥
no_snoc [] x e = no_cons x [] e
no_snoc (y ∷ ys) x e = no_cons y (ys ++ x ∷ []) e

pub snoc_is : (xs : List Lexeme) (x : Lexeme) (ys : List Lexeme) (y : Lexeme) → xs ++ x ∷ [] ≡ ys ++ y ∷ [] → Snoc xs x ys y
snoc_is [] x [] y e = record { front = refl; last = ap head_or e }
snoc_is [] x (z ∷ ys) y e = absurd (no_snoc ys y (sym (ap tail_or e)))
snoc_is (z ∷ xs) x [] y e = absurd (no_snoc xs x (ap tail_or e))
snoc_is (z ∷ xs) x (w ∷ ys) y e =
    let more = snoc_is xs x ys y (ap tail_or e) in
    record { front = ap (λ (h : Lexeme). h ∷ xs) (ap head_or e) ∙ ap (λ (t : List Lexeme). w ∷ t) more.front; last = more.last }

-- the last of a list that isn't empty
pub record Ended (xs : List Lexeme) : Type 0 where
  pub init : List Lexeme
  pub last : Lexeme
  pub is : xs ≡ init ++ last ∷ []

pub ended_list : (x : Lexeme) (xs : List Lexeme) → Ended (x ∷ xs)
ended_list x [] = record { init = []; last = x; is = refl }
ended_list x (y ∷ ys) =
    let more = ended_list y ys in
    record { init = x ∷ more.init; last = more.last; is = ap (λ (t : List Lexeme). x ∷ t) more.is }

-- tests that end with the new token agree, and so do those before it
pub clean_more : (ls : List Lexeme) (x : Lexeme) → Clean ls
    → ((front : List Lexeme) (a b : Lexeme) (test : Test) → ls ≡ front ++ (a ∷ (b ∷ [])) → test_in a b x ≡ Some test → IsTrue (agrees test)) → Clean (ls ++ x ∷ [])
clean_more ls x clean last front a b c [] test is whole =
    let parts = snoc_is ls x (front ++ (a ∷ (b ∷ []))) c (is ∙ sym (append_assoc front (a ∷ (b ∷ [])) (c ∷ []))) in
    last front a b test parts.front (ap (test_in a b) parts.last ∙ whole)
clean_more ls x clean last front a b c (d ∷ after) test is whole =
    let end = ended_list d after in
    let split : ls ++ x ∷ [] ≡ (front ++ (a ∷ (b ∷ (c ∷ end.init)))) ++ end.last ∷ [] =
    is ∙ ap (λ (t : List Lexeme). front ++ (a ∷ (b ∷ (c ∷ t)))) end.is ∙ sym (append_assoc front (a ∷ (b ∷ (c ∷ end.init))) (end.last ∷ [])) in
    clean front a b c end.init test (snoc_is ls x (front ++ (a ∷ (b ∷ (c ∷ end.init)))) end.last split).front whole

-- the second token of a test is a relation
abbrev is_rel : Lexeme → Bool
is_rel (lexeme.Rel rel) = true
is_rel x = false

second_is_rel : (a b x : Lexeme) (test : Test) → test_in a b x ≡ Some test → is_rel b ≡ true
second_is_rel (lexeme.Pick pick) (lexeme.Rel rel) (lexeme.Literal literal) test whole = refl
second_is_rel (lexeme.Literal literal) (lexeme.Rel rel) (lexeme.Pick pick) test whole = refl
second_is_rel a b x test whole = absurd cc

-- behind a relation only a literal or a pick may come
abbrev is_behind_rel : Place → Bool
is_behind_rel AtLiteral = true
is_behind_rel AtPick = true
is_behind_rel place = false

abbrev place_or : Option Shape → Bool
place_or None = false
place_or (Some s) = is_behind_rel s.place

rel_moves : (o : List ℕ) (n : ℕ) (place : Place) (rel : Rel) (s : Shape) → move (shape o n place) (lexeme.Rel rel) ≡ Some s → is_behind_rel s.place ≡ true
rel_moves o n AtRel rel s moves = sym (ap (λ (m : Option Shape). place_or m) moves)
rel_moves o n AtTurnedRel rel s moves = sym (ap (λ (m : Option Shape). place_or m) moves)
rel_moves o n AtUnit rel s moves = absurd cc
rel_moves o n AtLiteral rel s moves = absurd cc
rel_moves o n AtPick rel s moves = absurd cc
rel_moves o n Behind rel s moves = absurd cc
rel_moves o n AtEnd rel s moves = absurd cc

moves_rel : (s : Shape) (b : Lexeme) (t : Shape) → is_rel b ≡ true → move s b ≡ Some t → is_behind_rel t.place ≡ true
moves_rel s (lexeme.Rel rel) t is moves = rel_moves s.outer s.nots s.place rel t moves
moves_rel s b t is moves = absurd cc

last_move : (r : Option Shape) (b : Lexeme) (t : Shape) → is_rel b ≡ true → option_and_then (λ u. run_by move u (b ∷ [])) r ≡ Some t → is_behind_rel t.place ≡ true
last_move None b t is moves = absurd cc
last_move (Some s) b t is moves = moves_rel s b t is (sym (one (move s b)) ∙ moves)

-- where no relation came last, any token leaves the tests clean
pub clean_any : (done : List Token) (ls : List Lexeme) (s : Shape) (x : Lexeme) → Ready done ls s → is_behind_rel s.place ≡ false → Clean (ls ++ x ∷ [])
clean_any done ls s x ready other = clean_more ls x ready.clean (λ front a b test is whole.
    let runs : run_by move start_shape ((front ++ a ∷ []) ++ b ∷ []) ≡ Some s =
    ap (run_by move start_shape) (append_assoc front (a ∷ []) (b ∷ []) ∙ sym is) ∙ ready.runs in
    let rel : is_behind_rel s.place ≡ true =
    last_move (run_by move start_shape (front ++ a ∷ [])) b s (second_is_rel a b x test whole) (sym (run_parts move (front ++ a ∷ []) (b ∷ []) start_shape) ∙ runs) in
    absurd (cc (rel, other)))

-- ---- refusals

-- a token that may not follow is unexpected
pub stops_here : (done : List Token) (ls : List Lexeme) (s : Shape) (at : ℕ) (x : Lexeme) (after : List Token) → Ready done ls s → Begins most_open ls
    → (P : List Lexeme → Lexeme → Type 0) → P ls x → Stops (done ++ tok at x ∷ after) at P
stops_here done ls s at x after ready begins P is = record {
  before = done;
  token = tok at x;
  after = after;
  split = refl;
  place = refl;
  good = subst (Begins most_open) (sym ready.is) begins;
  clean = subst Clean (sym ready.is) ready.clean;
  is = subst (λ (l : List Lexeme). P l x) (sym ready.is) is;
}

goes_nowhere : (ls : List Lexeme) (s : Shape) (x : Lexeme) → run_by move start_shape ls ≡ Some s → move s x ≡ None → ¬ Continues (ls ++ x ∷ [])
goes_nowhere ls s x runs stops continues =
    let comes = continues_runs (ls ++ x ∷ []) continues in
    let none : run_by move start_shape (ls ++ x ∷ []) ≡ None = runs_more ls s x None runs stops in
    absurd (cc (comes.is, none))

unexpected_here : (done : List Token) (ls : List Lexeme) (s : Shape) (at : ℕ) (x : Lexeme) → Ready done ls s → Begins most_open ls → move s x ≡ None → x ≢ lexeme.Bad
    → (after : List Token) → FaultIn (done ++ tok at x ∷ after) at Unexpected
unexpected_here done ls s at x ready begins stops other after =
    stops_here done ls s at x after ready begins IsUnexpected (other, goes_nowhere ls s x ready.runs stops)

pub refuse : (done : List Token) (ls : List Lexeme) (s : Shape) (at : ℕ) (x : Lexeme) → Ready done ls s → Begins most_open ls → move s x ≡ None → Steps done at x (refused at x)
refuse done ls s at lexeme.Bad ready begins stops = λ after. stops_here done ls s at lexeme.Bad after ready begins IsBad refl
refuse done ls s at (lexeme.Pick pick) ready begins stops = unexpected_here done ls s at (lexeme.Pick pick) ready begins stops (λ e. cc)
refuse done ls s at (lexeme.Rel rel) ready begins stops = unexpected_here done ls s at (lexeme.Rel rel) ready begins stops (λ e. cc)
refuse done ls s at (lexeme.Literal literal) ready begins stops = unexpected_here done ls s at (lexeme.Literal literal) ready begins stops (λ e. cc)
refuse done ls s at lexeme.And ready begins stops = unexpected_here done ls s at lexeme.And ready begins stops (λ e. cc)
refuse done ls s at lexeme.Or ready begins stops = unexpected_here done ls s at lexeme.Or ready begins stops (λ e. cc)
refuse done ls s at lexeme.Not ready begins stops = unexpected_here done ls s at lexeme.Not ready begins stops (λ e. cc)
refuse done ls s at lexeme.Open ready begins stops = unexpected_here done ls s at lexeme.Open ready begins stops (λ e. cc)
refuse done ls s at lexeme.Close ready begins stops = unexpected_here done ls s at lexeme.Close ready begins stops (λ e. cc)
refuse done ls s at lexeme.Unknown ready begins stops = unexpected_here done ls s at lexeme.Unknown ready begins stops (λ e. cc)
refuse done ls s at lexeme.End ready begins stops = unexpected_here done ls s at lexeme.End ready begins stops (λ e. cc)

closed_limit : (d : ℕ) (m : Option Shape) → most_open ≤ d → (if nat_lt d most_open then m else None) ≡ None
closed_limit d m deep = ⊎_elim (λ less. absurd (omega (arith, deep, ltb-true d most_open less))) (λ same. ap (λ (c : Bool). if c then m else None) same) (cases_Bool (nat_lt d most_open))

too_deep_at : (ls : List Lexeme) (s : Shape) (x : Lexeme) (to : Shape) (r : Option Shape) → run_by (limited most_open) start_shape ls ≡ r
    → run_by move start_shape ls ≡ Some s → most_open ≤ depth_at s → ((most : ℕ) → limited most s x ≡ (if nat_lt (depth_at s) most then move s x else None))
    → option_and_then (λ t. run_by (limited most_open) t (x ∷ [])) r ≡ Some to → ⊥
too_deep_at ls s x to None is runs deep limits parts = absurd cc
too_deep_at ls s x to (Some t) is runs deep limits parts =
    let same : ◌≡◌ {A = Option Shape} (Some t) (Some s) = sym (run_free most_open ls start_shape t is) ∙ runs in
    let shut : limited most_open s x ≡ None = limits most_open ∙ closed_limit (depth_at s) (move s x) deep in
    let none : option_and_then (λ t. run_by (limited most_open) t (x ∷ [])) (Some s) ≡ None =
    ap (λ (m : Option Shape). option_and_then (λ u. Some u) m) shut in
    let open_ : option_and_then (λ t. run_by (limited most_open) t (x ∷ [])) (Some s) ≡ Some to =
    ap (λ (o : Option Shape). option_and_then (λ t. run_by (limited most_open) t (x ∷ [])) o) (sym same) ∙ parts in
    cc (none, open_)

-- within 64 no construct may be opened where 64 are
pub too_deep : (ls : List Lexeme) (s : Shape) (x : Lexeme) → run_by move start_shape ls ≡ Some s → most_open ≤ depth_at s → ((most : ℕ) → limited most s x ≡ (if nat_lt (depth_at s) most then move s x else None))
    → ¬ Begins most_open (ls ++ x ∷ [])
too_deep ls s x runs deep limits begins =
    let whole = begins_runs most_open (ls ++ x ∷ []) begins in
    let parts : option_and_then (λ t. run_by (limited most_open) t (x ∷ [])) (run_by (limited most_open) start_shape ls) ≡ Some whole.to =
    sym (run_parts (limited most_open) ls (x ∷ []) start_shape) ∙ whole.is in
    too_deep_at ls s x whole.to (run_by (limited most_open) start_shape ls) refl runs deep limits parts
