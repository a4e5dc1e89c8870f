-- Each token leads a parser that stands to one that stands, or to the leftmost fault.
use Rattle.std.proofs.Common.{◌≡◌, ◌≢◌, ℕ, ◌+◌, ◌-◌, ◌<◌, ◌≤◌, Bool, true, false, ◌&&◌, if◌then◌else◌, nat_lt, List, [], ◌∷◌, ◌++◌, Option, None, Some, Result, Ok, Err, map, IsTrue, refl, ap, sym, ◌∙◌, subst, append_assoc, append-nil, arith}
use Rattle.std.proofs.lemmas.Bool.{ltb-true, lt-ltb}
use Rattle.std.proofs.lemmas.List.{map-append}
use Rattle.query_meaning.specs.declared.expr.Expr.{Expr, roll-Expr}
use Rattle.query_meaning.specs.declared.expr.Expr.TheOpen as level
use Rattle.query_meaning.specs.declared.expr.Test.{Test}
use Rattle.query_meaning.specs.declared.expr.Pick.{Pick}
use Rattle.query_meaning.specs.declared.expr.Rel.{Rel}
use Rattle.query_meaning.specs.declared.expr.Literal.{Literal}
use Rattle.query_meaning.specs.declared.expr.Literal.TheVariants.{Nil}
use Rattle.query_meaning.specs.declared.expr.Rel.TheVariants.{Eq}
use Rattle.query_meaning.specs.declared.expr.Pick.TheVariants.{TypeName}
use Rattle.query_meaning.specs.Agreement.{agrees}
use Rattle.query_parse.specs.declared.fault.QueryFault.{QueryFault}
use Rattle.query_parse.specs.declared.fault.QueryWhat.TheVariants.{TooDeep}
use Rattle.query_parse.specs.declared.lexeme.Lexeme.{Lexeme}
use Rattle.query_parse.specs.declared.lexeme.Lexeme.TheVariants as lexeme
use Rattle.query_parse.specs.declared.parser.Group.{Group as Read}
use Rattle.query_parse.specs.declared.parser.Parser.{Parser}
use Rattle.query_parse.specs.declared.parser.Phase.{Phase}
use Rattle.query_parse.specs.declared.parser.Phase.TheVariants.{Start, Picked, Related, Valued, Reversed, Whole}
use Rattle.query_parse.specs.Faults.{Begins, Continues, Clean, test_in, kinds_of, IsOpening, IsTooDeep, literal_at, FaultIn}
use Rattle.query_parse.specs.Grammar.{UnitTree, AndTree, Plain, Turned, Negated, Group, unit_spelled, and_spelled, unit_depth, unit_expr, unit_agrees, test_of, turned, most_open, joined_and, Reads}
use Rattle.query_parse.specs.Parsing.{refused, may_open, not_opened, group_opened, unit_next, relation_next, literal_next, turned_next, pick_next, whole_next, with_test, behind_unit, negated, closed, split_last, group_expr, next, run, and_then, is_end, finished, finished_in, end_fault, start}
use Rattle.query_parse.specs.Tokens.{Token}
use Rattle.query_parse.proofs.Halves.{Half, half, front, outer_front, ors_front, ands_front, nots_front, nots_of, nots_more, read_half, read_whole, FineOuter, FineHalf, FineAnds, FineUnits, FineUnit, FineOr, begins_start, begins_unit, begins_behind, continues_unit, any_test, wrap, wrap_expr, wrap_spelled, fine_wrap, fine_units_more, fine_ands_more, fine_and_of, fine_or_of, and_of, or_of, and_expr, whole_spelled, whole_expr, ands_more, ors_more, and_of_spelled, and_of_members}
use Rattle.query_parse.proofs.Ends.{EndsOnce}
use Rattle.query_parse.proofs.ParsingLemmas.{last_group}
use Rattle.query_parse.proofs.Shapes.{Place, AtUnit, AtRel, AtLiteral, AtTurnedRel, AtPick, Behind, Shape, shape, opened, move, limited}
use Rattle.query_parse.proofs.Standing.{tok, outers, parser_at, parser_behind, before, behind_front, Ready, Stands, at_unit, at_rel, at_literal, at_turned, at_pick, behind, Steps, ready_more, kinds_more, clean_any, clean_more, snoc_is, refuse, stops_here, too_deep}

-- ---- the beginning of a unit

regroup_last : (a b c d : List Lexeme) (x : Lexeme) → (a ++ (b ++ (c ++ d))) ++ x ∷ [] ≡ a ++ (b ++ (c ++ (d ++ x ∷ [])))
regroup_last a b c d x = simp append_assoc refl

regroup_open : (a b : List Lexeme) → (a ++ b) ++ lexeme.Open ∷ [] ≡ (a ++ (b ++ lexeme.Open ∷ [])) ++ []
regroup_open a b = simp (append_assoc, append-nil) refl

negated_ls : (hs : List Half) (h : Half) → before hs h ++ lexeme.Not ∷ [] ≡ before hs (half h.ors h.ands (h.nots + 1))
negated_ls hs h =
    regroup_last (outer_front hs) (ors_front h.ors) (ands_front h.ands) (nots_front h.nots) lexeme.Not
    ∙ ap (λ (t : List Lexeme). outer_front hs ++ (ors_front h.ors ++ (ands_front h.ands ++ t))) (sym (nots_more h.nots))

opened_ls : (hs : List Half) (h : Half) → before hs h ++ lexeme.Open ∷ [] ≡ before (h ∷ hs) (half [] [] 0)
opened_ls hs h = regroup_open (outer_front hs) (front h)

parser_depth : (outer : List Read) (group : Read) (phase : Phase) (a b : ℕ) → a ≡ b
    → ◌≡◌ {A = Parser} (record { outer = outer; group = group; depth = a; phase = phase }) (record { outer = outer; group = group; depth = b; phase = phase })
parser_depth outer group phase a b same = ap (λ (d : ℕ). record { outer = outer; group = group; depth = d; phase = phase }) same

-- where no more may be opened, 64 are open
full : (depth nots : ℕ) → nots ≤ depth → (nat_lt depth 64 && nat_lt nots 64) ≡ false → 64 ≤ depth
full depth nots within shut = grind (arith, within, shut, lt-ltb depth 64, lt-ltb nots 64)

room : (depth nots : ℕ) → (nat_lt depth 64 && nat_lt nots 64) ≡ true → depth < 64
room depth nots open_ = grind (arith, open_, ltb-true depth 64)

module _ (hs : List Half) (h : Half) (done : List Token) (outer : FineOuter hs) (fine : FineHalf (opened (nots_of hs)) h)
    (ready : Ready done (before hs h) (shape (nots_of hs) h.nots AtUnit)) where
  begins : Begins most_open (before hs h)
  begins = begins_start hs h outer fine

  clean_with : (x : Lexeme) → Clean (before hs h ++ x ∷ [])
  clean_with x = clean_any done (before hs h) (shape (nots_of hs) h.nots AtUnit) x ready refl

  deep_fault : (at : ℕ) (x : Lexeme) → IsOpening x → Continues (before hs h ++ x ∷ [])
      → ((most : ℕ) → limited most (shape (nots_of hs) h.nots AtUnit) x ≡ (if nat_lt (opened (nots_of hs) + h.nots) most then move (shape (nots_of hs) h.nots AtUnit) x else None))
      → may_open (parser_at hs h Start) ≡ false → (after : List Token) → FaultIn (done ++ tok at x ∷ after) at TooDeep
  deep_fault at x opening continues limits shut after =
      let deep : 64 ≤ opened (nots_of hs) + h.nots = full (opened (nots_of hs) + h.nots) h.nots (omega arith) shut in
      stops_here done (before hs h) (shape (nots_of hs) h.nots AtUnit) at x after ready begins IsTooDeep
      (opening, continues, too_deep (before hs h) (shape (nots_of hs) h.nots AtUnit) x ready.runs deep limits)

  not_step : (at : ℕ) (c : Bool) → may_open (parser_at hs h Start) ≡ c → Steps done at lexeme.Not (not_opened (parser_at hs h Start) at)
  not_step at true is =
      let next_half = half h.ors h.ands (h.nots + 1) in
      let deep : opened (nots_of hs) + h.nots < 64 = room (opened (nots_of hs) + h.nots) h.nots is in
      let stands : Stands (parser_at hs next_half Start) (done ++ tok at lexeme.Not ∷ []) =
      at_unit hs next_half (done ++ tok at lexeme.Not ∷ []) outer (record { ors = fine.ors; ands = fine.ands; nots = omega (arith, deep) })
      (ready_more done (before hs h) (shape (nots_of hs) h.nots AtUnit) at lexeme.Not (shape (nots_of hs) (h.nots + 1) AtUnit) (before hs next_half) ready refl (clean_with lexeme.Not) (negated_ls hs h)) in
      let same : opened (nots_of hs) + (h.nots + 1) ≡ opened (nots_of hs) + h.nots + 1 = omega arith in
      rw is (subst (λ (p : Parser). Stands p (done ++ tok at lexeme.Not ∷ [])) (parser_depth (outers hs) (read_half next_half) Start _ _ same) stands)
  not_step at false is =
      rw is (deep_fault at lexeme.Not tt (continues_unit hs h (Negated any_test) (lexeme.Not ∷ []) (unit_spelled any_test) refl) (λ most. refl) is)

  open_step : (at : ℕ) (c : Bool) → may_open (parser_at hs h Start) ≡ c → Steps done at lexeme.Open (group_opened (parser_at hs h Start) at)
  open_step at true is =
      let deep : opened (nots_of hs) + h.nots < 64 = room (opened (nots_of hs) + h.nots) h.nots is in
      let stands : Stands (parser_at (h ∷ hs) (half [] [] 0) Start) (done ++ tok at lexeme.Open ∷ []) =
      at_unit (h ∷ hs) (half [] [] 0) (done ++ tok at lexeme.Open ∷ []) (fine, omega (arith, deep), outer) (record { ors = tt; ands = tt; nots = omega (arith, deep) })
      (ready_more done (before hs h) (shape (nots_of hs) h.nots AtUnit) at lexeme.Open (shape (h.nots ∷ nots_of hs) 0 AtUnit) (before (h ∷ hs) (half [] [] 0)) ready refl (clean_with lexeme.Open) (opened_ls hs h)) in
      let same : opened (nots_of hs) + h.nots + 1 + 0 ≡ opened (nots_of hs) + h.nots + 1 = omega arith in
      rw is (subst (λ (p : Parser). Stands p (done ++ tok at lexeme.Open ∷ [])) (parser_depth (outers (h ∷ hs)) (read_half (half [] [] 0)) Start _ _ same) stands)
  open_step at false is =
      rw is (deep_fault at lexeme.Open tt (continues_unit hs h (Group (or_of [] (and_of [] any_test))) (lexeme.Open ∷ []) (unit_spelled any_test ++ lexeme.Close ∷ []) refl) (λ most. refl) is)

  unit_step : (at : ℕ) (x : Lexeme) → Steps done at x (unit_next (parser_at hs h Start) at x)
  unit_step at lexeme.Not = not_step at (may_open (parser_at hs h Start)) refl
  unit_step at lexeme.Open = open_step at (may_open (parser_at hs h Start)) refl
  unit_step at (lexeme.Pick pick) =
      at_rel hs h done at pick outer fine
      (ready_more done (before hs h) (shape (nots_of hs) h.nots AtUnit) at (lexeme.Pick pick) (shape (nots_of hs) h.nots AtRel) (before hs h ++ lexeme.Pick pick ∷ []) ready refl (clean_with (lexeme.Pick pick)) refl) ready.is
  unit_step at (lexeme.Literal literal) =
      at_turned hs h done at literal outer fine
      (ready_more done (before hs h) (shape (nots_of hs) h.nots AtUnit) at (lexeme.Literal literal) (shape (nots_of hs) h.nots AtTurnedRel) (before hs h ++ lexeme.Literal literal ∷ []) ready refl (clean_with (lexeme.Literal literal)) refl) ready.is
  unit_step at x = refuse done (before hs h) (shape (nots_of hs) h.nots AtUnit) at x ready begins refl

-- ---- the relation

rel_step : (hs : List Half) (h : Half) (base : List Token) (a : ℕ) (pick : Pick) → FineOuter hs → FineHalf (opened (nots_of hs)) h
    → Ready (base ++ tok a (lexeme.Pick pick) ∷ []) (before hs h ++ lexeme.Pick pick ∷ []) (shape (nots_of hs) h.nots AtRel) → kinds_of base ≡ before hs h
    → (at : ℕ) (x : Lexeme) → Steps (base ++ tok a (lexeme.Pick pick) ∷ []) at x (relation_next (parser_at hs h (Picked pick)) pick at x)
rel_step hs h base a pick outer fine ready at_base at (lexeme.Rel rel) =
    let done = base ++ tok a (lexeme.Pick pick) ∷ [] in
    let split : done ++ tok at (lexeme.Rel rel) ∷ [] ≡ base ++ (tok a (lexeme.Pick pick) ∷ (tok at (lexeme.Rel rel) ∷ [])) = append_assoc base (tok a (lexeme.Pick pick) ∷ []) (tok at (lexeme.Rel rel) ∷ []) in
    let more = ready_more done (before hs h ++ lexeme.Pick pick ∷ []) (shape (nots_of hs) h.nots AtRel) at (lexeme.Rel rel) (shape (nots_of hs) h.nots AtLiteral)
    (before hs h ++ (lexeme.Pick pick ∷ (lexeme.Rel rel ∷ []))) ready refl
    (clean_any done (before hs h ++ lexeme.Pick pick ∷ []) (shape (nots_of hs) h.nots AtRel) (lexeme.Rel rel) ready refl)
    (append_assoc (before hs h) (lexeme.Pick pick ∷ []) (lexeme.Rel rel ∷ [])) in
    subst (Stands (parser_at hs h (Related pick rel))) (sym split)
    (at_literal hs h base a at pick rel outer fine
    (subst (λ (d : List Token). Ready d (before hs h ++ (lexeme.Pick pick ∷ (lexeme.Rel rel ∷ []))) (shape (nots_of hs) h.nots AtLiteral)) split more) at_base)
rel_step hs h base a pick outer fine ready at_base at x =
    refuse (base ++ tok a (lexeme.Pick pick) ∷ []) (before hs h ++ lexeme.Pick pick ∷ []) (shape (nots_of hs) h.nots AtRel) at x ready
    (begins_unit hs h (Plain pick Eq Nil) (lexeme.Pick pick ∷ []) (lexeme.Rel Eq ∷ (lexeme.Literal Nil ∷ [])) outer fine (omega (arith, fine.nots)) refl) refl

turned_step : (hs : List Half) (h : Half) (base : List Token) (a : ℕ) (literal : Literal) → FineOuter hs → FineHalf (opened (nots_of hs)) h
    → Ready (base ++ tok a (lexeme.Literal literal) ∷ []) (before hs h ++ lexeme.Literal literal ∷ []) (shape (nots_of hs) h.nots AtTurnedRel) → kinds_of base ≡ before hs h
    → (at : ℕ) (x : Lexeme) → Steps (base ++ tok a (lexeme.Literal literal) ∷ []) at x (turned_next (parser_at hs h (Valued literal a)) literal a at x)
turned_step hs h base a literal outer fine ready at_base at (lexeme.Rel rel) =
    let done = base ++ tok a (lexeme.Literal literal) ∷ [] in
    let split : done ++ tok at (lexeme.Rel rel) ∷ [] ≡ base ++ (tok a (lexeme.Literal literal) ∷ (tok at (lexeme.Rel rel) ∷ [])) = append_assoc base (tok a (lexeme.Literal literal) ∷ []) (tok at (lexeme.Rel rel) ∷ []) in
    let more = ready_more done (before hs h ++ lexeme.Literal literal ∷ []) (shape (nots_of hs) h.nots AtTurnedRel) at (lexeme.Rel rel) (shape (nots_of hs) h.nots AtPick)
    (before hs h ++ (lexeme.Literal literal ∷ (lexeme.Rel rel ∷ []))) ready refl
    (clean_any done (before hs h ++ lexeme.Literal literal ∷ []) (shape (nots_of hs) h.nots AtTurnedRel) (lexeme.Rel rel) ready refl)
    (append_assoc (before hs h) (lexeme.Literal literal ∷ []) (lexeme.Rel rel ∷ [])) in
    subst (Stands (parser_at hs h (Reversed literal a rel))) (sym split)
    (at_pick hs h base a at literal rel outer fine
    (subst (λ (d : List Token). Ready d (before hs h ++ (lexeme.Literal literal ∷ (lexeme.Rel rel ∷ []))) (shape (nots_of hs) h.nots AtPick)) split more) at_base)
turned_step hs h base a literal outer fine ready at_base at x =
    refuse (base ++ tok a (lexeme.Literal literal) ∷ []) (before hs h ++ lexeme.Literal literal ∷ []) (shape (nots_of hs) h.nots AtTurnedRel) at x ready
    (begins_unit hs h (Turned literal Eq TypeName) (lexeme.Literal literal ∷ []) (lexeme.Rel Eq ∷ (lexeme.Pick TypeName ∷ [])) outer fine (omega (arith, fine.nots)) refl) refl

-- ---- the end of a unit

unit_ends : (a b c d : List Lexeme) (u : List Lexeme) → a ++ (b ++ (c ++ (d ++ u))) ≡ (a ++ (b ++ (c ++ d))) ++ u
unit_ends a b c d u = simp append_assoc refl

-- the tokens of a group and of a unit are those of the group whose last unit it is
behind_is : (hs : List Half) (h : Half) (u : UnitTree) → before hs h ++ unit_spelled u ≡ behind_front hs h.ors h.ands (wrap h.nots u)
behind_is hs h u =
    sym (unit_ends (outer_front hs) (ors_front h.ors) (ands_front h.ands) (nots_front h.nots) (unit_spelled u))
    ∙ ap (λ (t : List Lexeme). outer_front hs ++ (ors_front h.ors ++ (ands_front h.ands ++ t))) (sym (wrap_spelled h.nots u))

-- a unit is whole, and so are the `!` before it
pub unit_ended : (hs : List Half) (h : Half) (u : UnitTree) (done : List Token) (depth : ℕ) (e : Expr) → FineOuter hs → FineHalf (opened (nots_of hs)) h
    → opened (nots_of hs) + h.nots + unit_depth u ≤ most_open → unit_agrees u ≡ true → unit_expr u ≡ e → depth ≡ opened (nots_of hs) + h.nots
    → Ready done (before hs h ++ unit_spelled u) (shape (nots_of hs) 0 Behind) → Stands (behind_unit (outers hs) (read_half h) depth e) done
unit_ended hs h u done depth e outer fine fits agree is deep ready =
    let stands : Stands (parser_behind hs h.ors h.ands (wrap h.nots u)) done =
    behind hs h.ors h.ands (wrap h.nots u) done outer fine.ors fine.ands
    (fine_wrap (opened (nots_of hs)) h.nots u (record { within = fits; agrees = agree }))
    (subst (λ (ls : List Lexeme). Ready done ls (shape (nots_of hs) 0 Behind)) (behind_is hs h u) ready) in
    let expr : unit_expr (wrap h.nots u) ≡ negated h.nots e = wrap_expr h.nots u ∙ ap (negated h.nots) is in
    let less : opened (nots_of hs) ≡ depth - h.nots = omega (arith, deep) in
    subst (λ (d : ℕ). Stands (record { outer = outers hs; group = record { ors = map and_expr h.ors; ands = map unit_expr h.ands ++ negated h.nots e ∷ []; nots = 0 }; depth = d; phase = Whole }) done) less
    (subst (λ (x : Expr). Stands (record { outer = outers hs; group = record { ors = map and_expr h.ors; ands = map unit_expr h.ands ++ x ∷ []; nots = 0 }; depth = opened (nots_of hs); phase = Whole }) done) expr stands)

snoc_two : (ls front : List Lexeme) (a b c d : Lexeme) → ls ++ (a ∷ (b ∷ [])) ≡ front ++ (c ∷ (d ∷ [])) → (a ≡ c) × (b ≡ d)
snoc_two ls front a b c d is =
    let last = snoc_is (ls ++ a ∷ []) b (front ++ c ∷ []) d (append_assoc ls (a ∷ []) (b ∷ []) ∙ is ∙ sym (append_assoc front (c ∷ []) (d ∷ []))) in
    let first = snoc_is ls a front c last.front in
    (first.last, last.last)

some_test : (t u : Test) → ◌≡◌ {A = Option Test} (Some t) (Some u) → t ≡ u
some_test t u e = cc

three : (base after : List Token) (a b c : Token) → (base ++ (a ∷ (b ∷ []))) ++ c ∷ after ≡ base ++ (a ∷ (b ∷ (c ∷ after)))
three base after a b c = append_assoc base (a ∷ (b ∷ [])) (c ∷ after)

-- a whole test: it agrees, or it clashes at its literal
module _ (hs : List Half) (h : Half) (base : List Token) (first second third : Token) (u : UnitTree) (test : Test) (place : ℕ)
    (outer : FineOuter hs) (fine : FineHalf (opened (nots_of hs)) h)
    (two : Place)
    (ready : Ready (base ++ (first ∷ (second ∷ []))) (before hs h ++ (first.lexeme ∷ (second.lexeme ∷ []))) (shape (nots_of hs) h.nots two))
    (moves : move (shape (nots_of hs) h.nots two) third.lexeme ≡ Some (shape (nots_of hs) 0 Behind))
    (spells : unit_spelled u ≡ first.lexeme ∷ (second.lexeme ∷ (third.lexeme ∷ [])))
    (flat : unit_depth u ≡ 0)
    (agree : unit_agrees u ≡ agrees test)
    (expr : unit_expr u ≡ roll-Expr (level.Test test))
    (whole : test_in first.lexeme second.lexeme third.lexeme ≡ Some test)
    (at_place : literal_at first third ≡ place) where
  abbrev two_done : List Token
  two_done = base ++ (first ∷ (second ∷ []))

  abbrev two_ls : List Lexeme
  two_ls = before hs h ++ (first.lexeme ∷ (second.lexeme ∷ []))

  fits : opened (nots_of hs) + h.nots + unit_depth u ≤ most_open
  fits = omega (arith, fine.nots, flat)

  three_ls : two_ls ++ third.lexeme ∷ [] ≡ before hs h ++ unit_spelled u
  three_ls = append_assoc (before hs h) (first.lexeme ∷ (second.lexeme ∷ [])) (third.lexeme ∷ []) ∙ ap (λ (t : List Lexeme). before hs h ++ t) (sym spells)

  kinds_three : kinds_of (base ++ (first ∷ (second ∷ (third ∷ [])))) ≡ before hs h ++ unit_spelled u
  kinds_three =
      ap kinds_of (sym (three base [] first second third)) ∙ kinds_more two_done third.at third.lexeme two_ls ready.is ∙ three_ls

  clean_whole : agrees test ≡ true → Clean (two_ls ++ third.lexeme ∷ [])
  clean_whole yes_ = clean_more two_ls third.lexeme ready.clean (λ front a b other is found.
      let ends = snoc_two (before hs h) front first.lexeme second.lexeme a b is in
      let same : ◌≡◌ {A = Option Test} (Some test) (Some other) = sym whole ∙ ap (λ (x : Lexeme). test_in x second.lexeme third.lexeme) ends.0 ∙ ap (λ (y : Lexeme). test_in a y third.lexeme) ends.1 ∙ found in
      subst (λ (t : Test). IsTrue (agrees t)) (some_test test other same) yes_)

  test_step : (c : Bool) → agrees test ≡ c → Steps two_done third.at third.lexeme (with_test (parser_at hs h Start) place test)
  test_step true is =
      rw is (unit_ended hs h u (two_done ++ third ∷ []) (opened (nots_of hs) + h.nots) (roll-Expr (level.Test test)) outer fine fits (agree ∙ is) expr refl
      (ready_more two_done two_ls (shape (nots_of hs) h.nots two) third.at third.lexeme (shape (nots_of hs) 0 Behind) (before hs h ++ unit_spelled u) ready moves (clean_whole is) three_ls))
  test_step false is = rw is (λ after.
      record {
        before = base;
        first = first;
        second = second;
        third = third;
        after = after;
        test = test;
        split = three base after first second third;
        good = subst (Begins most_open) (sym kinds_three) (begins_unit hs h u (unit_spelled u) [] outer fine fits (sym (append-nil (unit_spelled u))));
        clean = subst Clean (sym ready.is) ready.clean;
        whole = whole;
        clash = is;
        place = at_place;
      })

literal_step : (hs : List Half) (h : Half) (base : List Token) (a b : ℕ) (pick : Pick) (rel : Rel) → FineOuter hs → FineHalf (opened (nots_of hs)) h
    → Ready (base ++ (tok a (lexeme.Pick pick) ∷ (tok b (lexeme.Rel rel) ∷ []))) (before hs h ++ (lexeme.Pick pick ∷ (lexeme.Rel rel ∷ []))) (shape (nots_of hs) h.nots AtLiteral)
    → (at : ℕ) (x : Lexeme) → Steps (base ++ (tok a (lexeme.Pick pick) ∷ (tok b (lexeme.Rel rel) ∷ []))) at x (literal_next (parser_at hs h (Related pick rel)) pick rel at x)
literal_step hs h base a b pick rel outer fine ready at (lexeme.Literal literal) =
    test_step hs h base (tok a (lexeme.Pick pick)) (tok b (lexeme.Rel rel)) (tok at (lexeme.Literal literal)) (Plain pick rel literal) (test_of pick rel literal) at
    outer fine AtLiteral ready refl refl refl refl refl refl refl (agrees (test_of pick rel literal)) refl
literal_step hs h base a b pick rel outer fine ready at x =
    refuse (base ++ (tok a (lexeme.Pick pick) ∷ (tok b (lexeme.Rel rel) ∷ []))) (before hs h ++ (lexeme.Pick pick ∷ (lexeme.Rel rel ∷ []))) (shape (nots_of hs) h.nots AtLiteral) at x ready
    (begins_unit hs h (Plain pick rel Nil) (lexeme.Pick pick ∷ (lexeme.Rel rel ∷ [])) (lexeme.Literal Nil ∷ []) outer fine (omega (arith, fine.nots)) refl) refl

pick_step : (hs : List Half) (h : Half) (base : List Token) (a b : ℕ) (literal : Literal) (rel : Rel) → FineOuter hs → FineHalf (opened (nots_of hs)) h
    → Ready (base ++ (tok a (lexeme.Literal literal) ∷ (tok b (lexeme.Rel rel) ∷ []))) (before hs h ++ (lexeme.Literal literal ∷ (lexeme.Rel rel ∷ []))) (shape (nots_of hs) h.nots AtPick)
    → (at : ℕ) (x : Lexeme) → Steps (base ++ (tok a (lexeme.Literal literal) ∷ (tok b (lexeme.Rel rel) ∷ []))) at x (pick_next (parser_at hs h (Reversed literal a rel)) literal a rel at x)
pick_step hs h base a b literal rel outer fine ready at (lexeme.Pick pick) =
    test_step hs h base (tok a (lexeme.Literal literal)) (tok b (lexeme.Rel rel)) (tok at (lexeme.Pick pick)) (Turned literal rel pick) (test_of pick (turned rel) literal) a
    outer fine AtPick ready refl refl refl refl refl refl refl (agrees (test_of pick (turned rel) literal)) refl
pick_step hs h base a b literal rel outer fine ready at x =
    refuse (base ++ (tok a (lexeme.Literal literal) ∷ (tok b (lexeme.Rel rel) ∷ []))) (before hs h ++ (lexeme.Literal literal ∷ (lexeme.Rel rel ∷ []))) (shape (nots_of hs) h.nots AtPick) at x ready
    (begins_unit hs h (Turned literal rel TypeName) (lexeme.Literal literal ∷ (lexeme.Rel rel ∷ [])) (lexeme.Pick TypeName ∷ []) outer fine (omega (arith, fine.nots)) refl) refl

-- ---- behind a unit

and_ls : (a b c u : List Lexeme) → (a ++ (b ++ (c ++ u))) ++ lexeme.And ∷ [] ≡ a ++ (b ++ ((c ++ (u ++ lexeme.And ∷ [])) ++ []))
and_ls a b c u = simp (append_assoc, append-nil) refl

or_ls : (a b u : List Lexeme) → (a ++ (b ++ u)) ++ lexeme.Or ∷ [] ≡ a ++ ((b ++ (u ++ lexeme.Or ∷ [])) ++ [])
or_ls a b u = simp (append_assoc, append-nil) refl

close_ls : (a f q : List Lexeme) → ((a ++ (f ++ lexeme.Open ∷ [])) ++ q) ++ lexeme.Close ∷ [] ≡ (a ++ f) ++ (lexeme.Open ∷ (q ++ lexeme.Close ∷ []))
close_ls a f q = simp append_assoc refl

module _ (hs : List Half) (ors : List AndTree) (us : List UnitTree) (last : UnitTree) (done : List Token) (outer : FineOuter hs)
    (fine_ors : FineAnds (opened (nots_of hs)) ors) (fine_us : FineUnits (opened (nots_of hs)) us) (fine : FineUnit (opened (nots_of hs)) last)
    (ready : Ready done (behind_front hs ors us last) (shape (nots_of hs) 0 Behind)) where
  abbrev base_depth : ℕ
  base_depth = opened (nots_of hs)

  abbrev read : Read
  read = read_whole ors us last

  clean_behind : (x : Lexeme) → Clean (behind_front hs ors us last ++ x ∷ [])
  clean_behind x = clean_any done (behind_front hs ors us last) (shape (nots_of hs) 0 Behind) x ready refl

  begins_here : Begins most_open (behind_front hs ors us last)
  begins_here = begins_behind hs ors us last outer fine_ors fine_us fine

  no_more : (at : ℕ) (x : Lexeme) → move (shape (nots_of hs) 0 Behind) x ≡ None → Steps done at x (refused at x)
  no_more at x stops = refuse done (behind_front hs ors us last) (shape (nots_of hs) 0 Behind) at x ready begins_here stops

  plain_depth : base_depth + 0 ≡ base_depth
  plain_depth = omega arith

  bound : base_depth + 0 ≤ most_open
  bound = omega (arith, fine.within)

  and_step : (at : ℕ) → Stands (record { outer = outers hs; group = read; depth = base_depth; phase = Start }) (done ++ tok at lexeme.And ∷ [])
  and_step at =
      let next_half = half ors (us ++ last ∷ []) 0 in
      let ls : behind_front hs ors us last ++ lexeme.And ∷ [] ≡ before hs next_half =
      and_ls (outer_front hs) (ors_front ors) (ands_front us) (unit_spelled last)
      ∙ ap (λ (t : List Lexeme). outer_front hs ++ (ors_front ors ++ (t ++ []))) (sym (ands_more us last)) in
      let stands : Stands (parser_at hs next_half Start) (done ++ tok at lexeme.And ∷ []) =
      at_unit hs next_half (done ++ tok at lexeme.And ∷ []) outer
      (record { ors = fine_ors; ands = fine_units_more base_depth us last fine_us fine; nots = bound })
      (ready_more done (behind_front hs ors us last) (shape (nots_of hs) 0 Behind) at lexeme.And (shape (nots_of hs) 0 AtUnit) (before hs next_half) ready refl (clean_behind lexeme.And) ls) in
      subst (λ (es : List Expr). Stands (record { outer = outers hs; group = record { ors = map and_expr ors; ands = es; nots = 0 }; depth = base_depth; phase = Start }) (done ++ tok at lexeme.And ∷ []))
      (map-append unit_expr us (last ∷ []))
      (subst (λ (d : ℕ). Stands (record { outer = outers hs; group = read_half next_half; depth = d; phase = Start }) (done ++ tok at lexeme.And ∷ [])) plain_depth stands)

  or_step : (at : ℕ)
      → Stands (record { outer = outers hs; group = record { ors = map and_expr ors ++ joined_and read.ands ∷ []; ands = []; nots = 0 }; depth = base_depth; phase = Start }) (done ++ tok at lexeme.Or ∷ [])
  or_step at =
      let whole = and_of us last in
      let next_half = half (ors ++ whole ∷ []) [] 0 in
      let ls : behind_front hs ors us last ++ lexeme.Or ∷ [] ≡ before hs next_half =
      ap (λ (t : List Lexeme). (outer_front hs ++ (ors_front ors ++ t)) ++ lexeme.Or ∷ []) (sym (and_of_spelled us last))
      ∙ or_ls (outer_front hs) (ors_front ors) (and_spelled whole)
      ∙ ap (λ (t : List Lexeme). outer_front hs ++ (t ++ [])) (sym (ors_more ors whole)) in
      let stands : Stands (parser_at hs next_half Start) (done ++ tok at lexeme.Or ∷ []) =
      at_unit hs next_half (done ++ tok at lexeme.Or ∷ []) outer
      (record { ors = fine_ands_more base_depth ors whole fine_ors (fine_and_of base_depth us last fine_us fine); ands = tt; nots = bound })
      (ready_more done (behind_front hs ors us last) (shape (nots_of hs) 0 Behind) at lexeme.Or (shape (nots_of hs) 0 AtUnit) (before hs next_half) ready refl (clean_behind lexeme.Or) ls) in
      let expr : map and_expr (ors ++ whole ∷ []) ≡ map and_expr ors ++ joined_and read.ands ∷ [] =
      map-append and_expr ors (whole ∷ []) ∙ ap (λ (es : List Expr). map and_expr ors ++ joined_and es ∷ []) (and_of_members us last) in
      subst (λ (es : List Expr). Stands (record { outer = outers hs; group = record { ors = es; ands = []; nots = 0 }; depth = base_depth; phase = Start }) (done ++ tok at lexeme.Or ∷ [])) expr
      (subst (λ (d : ℕ). Stands (record { outer = outers hs; group = read_half next_half; depth = d; phase = Start }) (done ++ tok at lexeme.Or ∷ [])) plain_depth stands)

-- a parenthesis closes
close_step : (h : Half) (hs : List Half) (ors : List AndTree) (us : List UnitTree) (last : UnitTree) (done : List Token) → FineOuter (h ∷ hs)
    → FineAnds (opened (nots_of (h ∷ hs))) ors → FineUnits (opened (nots_of (h ∷ hs))) us → FineUnit (opened (nots_of (h ∷ hs))) last
    → Ready done (behind_front (h ∷ hs) ors us last) (shape (nots_of (h ∷ hs)) 0 Behind) → (at : ℕ)
    → Stands (behind_unit (outers hs) (read_half h) (opened (nots_of (h ∷ hs)) - 1) (group_expr (read_whole ors us last))) (done ++ tok at lexeme.Close ∷ [])
close_step h hs ors us last done outer fine_ors fine_us fine ready at =
    let query = or_of ors (and_of us last) in
    let fine_query : FineOr (opened (nots_of (h ∷ hs))) query =
    fine_or_of (opened (nots_of (h ∷ hs))) ors (and_of us last) fine_ors (fine_and_of (opened (nots_of (h ∷ hs))) us last fine_us fine) in
    let ls : behind_front (h ∷ hs) ors us last ++ lexeme.Close ∷ [] ≡ before hs h ++ unit_spelled (Group query) =
    close_ls (outer_front hs) (front h) (ors_front ors ++ (ands_front us ++ unit_spelled last))
    ∙ ap (λ (t : List Lexeme). before hs h ++ (lexeme.Open ∷ (t ++ lexeme.Close ∷ []))) (sym (whole_spelled ors us last)) in
    unit_ended hs h (Group query) (done ++ tok at lexeme.Close ∷ []) (opened (nots_of (h ∷ hs)) - 1) (group_expr (read_whole ors us last)) outer.2 outer.0
    (omega (arith, fine_query.within)) fine_query.agrees (sym (whole_expr ors us last)) (omega arith)
    (ready_more done (behind_front (h ∷ hs) ors us last) (shape (nots_of (h ∷ hs)) 0 Behind) at lexeme.Close (shape (nots_of hs) 0 Behind) (before hs h ++ unit_spelled (Group query)) ready refl
    (clean_any done (behind_front (h ∷ hs) ors us last) (shape (nots_of (h ∷ hs)) 0 Behind) lexeme.Close ready refl) ls)

closes_at : (hs : List Half) (ors : List AndTree) (us : List UnitTree) (last : UnitTree) (done : List Token) → FineOuter hs
    → FineAnds (opened (nots_of hs)) ors → FineUnits (opened (nots_of hs)) us → FineUnit (opened (nots_of hs)) last
    → Ready done (behind_front hs ors us last) (shape (nots_of hs) 0 Behind) → (at : ℕ)
    → Steps done at lexeme.Close (closed (parser_behind hs ors us last) at (split_last (outers hs)))
closes_at [] ors us last done outer fine_ors fine_us fine ready at = no_more [] ors us last done outer fine_ors fine_us fine ready at lexeme.Close refl
closes_at (h ∷ hs) ors us last done outer fine_ors fine_us fine ready at =
    subst (λ (s : Option (List Read × Read)). Steps done at lexeme.Close (closed (parser_behind (h ∷ hs) ors us last) at s)) (sym (last_group (outers hs) (read_half h)))
    (close_step h hs ors us last done outer fine_ors fine_us fine ready at)

behind_step : (hs : List Half) (ors : List AndTree) (us : List UnitTree) (last : UnitTree) (done : List Token) → FineOuter hs
    → FineAnds (opened (nots_of hs)) ors → FineUnits (opened (nots_of hs)) us → FineUnit (opened (nots_of hs)) last
    → Ready done (behind_front hs ors us last) (shape (nots_of hs) 0 Behind) → (at : ℕ) (x : Lexeme) → x ≢ lexeme.End
    → Steps done at x (whole_next (parser_behind hs ors us last) at x)
behind_step hs ors us last done outer fine_ors fine_us fine ready at lexeme.And other = and_step hs ors us last done outer fine_ors fine_us fine ready at
behind_step hs ors us last done outer fine_ors fine_us fine ready at lexeme.Or other = or_step hs ors us last done outer fine_ors fine_us fine ready at
behind_step hs ors us last done outer fine_ors fine_us fine ready at lexeme.Close other = closes_at hs ors us last done outer fine_ors fine_us fine ready at
behind_step hs ors us last done outer fine_ors fine_us fine ready at lexeme.End other = absurd (other refl)
behind_step hs ors us last done outer fine_ors fine_us fine ready at x other = no_more hs ors us last done outer fine_ors fine_us fine ready at x refl

-- ---- any token

pub step : {p : Parser} {done : List Token} → Stands p done → (at : ℕ) (x : Lexeme) → x ≢ lexeme.End → Steps done at x (next p p.phase at x)
step (at_unit hs h done outer fine ready) at x other = unit_step hs h done outer fine ready at x
step (at_rel hs h base a pick outer fine ready at_base) at x other = rel_step hs h base a pick outer fine ready at_base at x
step (at_literal hs h base a b pick rel outer fine ready at_base) at x other = literal_step hs h base a b pick rel outer fine ready at x
step (at_turned hs h base a literal outer fine ready at_base) at x other = turned_step hs h base a literal outer fine ready at_base at x
step (at_pick hs h base a b literal rel outer fine ready at_base) at x other = pick_step hs h base a b literal rel outer fine ready at x
step (behind hs ors us last done outer fine_ors fine_us fine ready) at x other = behind_step hs ors us last done outer fine_ors fine_us fine ready at x other

-- ---- the end

-- what a text that was read to its end is: a query none of whose tests clashes, or none for a fault at a place
abbrev pub Verdict : List Token → Result Expr QueryFault → Type 0
Verdict tokens (Ok e) = Reads (kinds_of tokens) e × Clean (kinds_of tokens)
Verdict tokens (Err f) = FaultIn tokens f.at f.what

end_refused : (done : List Token) (ls : List Lexeme) (s : Shape) (at : ℕ) → Ready done ls s → Begins most_open ls → move s lexeme.End ≡ None
    → Verdict (done ++ tok at lexeme.End ∷ []) (end_fault at)
end_refused done ls s at ready begins_ls stops = refuse done ls s at lexeme.End ready begins_ls stops []

not_empty : (outer : List Read) (g : Read) (group : Read) (at : ℕ) → finished_in (outer ++ g ∷ []) group at ≡ end_fault at
not_empty [] g group at = refl
not_empty (o ∷ outer) g group at = refl

behind_end : (hs : List Half) (ors : List AndTree) (us : List UnitTree) (last : UnitTree) (done : List Token) → FineOuter hs
    → FineAnds (opened (nots_of hs)) ors → FineUnits (opened (nots_of hs)) us → FineUnit (opened (nots_of hs)) last
    → Ready done (behind_front hs ors us last) (shape (nots_of hs) 0 Behind) → (at : ℕ)
    → Verdict (done ++ tok at lexeme.End ∷ []) (finished_in (outers hs) (read_whole ors us last) at)
behind_end [] ors us last done outer fine_ors fine_us fine ready at =
    let query = or_of ors (and_of us last) in
    let fine_query : FineOr 0 query = fine_or_of 0 ors (and_of us last) fine_ors (fine_and_of 0 us last fine_us fine) in
    let kinds : kinds_of (done ++ tok at lexeme.End ∷ []) ≡ behind_front [] ors us last ++ lexeme.End ∷ [] = kinds_more done at lexeme.End (behind_front [] ors us last) ready.is in
    let reads : Reads (kinds_of (done ++ tok at lexeme.End ∷ [])) (group_expr (read_whole ors us last)) = record {
      query = query;
      spells = kinds ∙ ap (λ (t : List Lexeme). t ++ lexeme.End ∷ []) (sym (whole_spelled ors us last));
      is = whole_expr ors us last;
      shallow = omega (arith, fine_query.within);
      agree = fine_query.agrees;
    } in
    (reads, subst Clean (sym kinds) (clean_any done (behind_front [] ors us last) (shape [] 0 Behind) lexeme.End ready refl))
behind_end (h ∷ hs) ors us last done outer fine_ors fine_us fine ready at =
    subst (Verdict (done ++ tok at lexeme.End ∷ [])) (sym (not_empty (outers hs) (read_half h) (read_whole ors us last) at))
    (end_refused done (behind_front (h ∷ hs) ors us last) (shape (nots_of (h ∷ hs)) 0 Behind) at ready
    (begins_behind (h ∷ hs) ors us last outer fine_ors fine_us fine) refl)

ends : {p : Parser} {done : List Token} → Stands p done → (at : ℕ) → Verdict (done ++ tok at lexeme.End ∷ []) (finished p p.phase at)
ends (at_unit hs h done outer fine ready) at =
    end_refused done (before hs h) (shape (nots_of hs) h.nots AtUnit) at ready (begins_start hs h outer fine) refl
ends (at_rel hs h base a pick outer fine ready at_base) at =
    end_refused (base ++ tok a (lexeme.Pick pick) ∷ []) (before hs h ++ lexeme.Pick pick ∷ []) (shape (nots_of hs) h.nots AtRel) at ready
    (begins_unit hs h (Plain pick Eq Nil) (lexeme.Pick pick ∷ []) (lexeme.Rel Eq ∷ (lexeme.Literal Nil ∷ [])) outer fine (omega (arith, fine.nots)) refl) refl
ends (at_literal hs h base a b pick rel outer fine ready at_base) at =
    end_refused (base ++ (tok a (lexeme.Pick pick) ∷ (tok b (lexeme.Rel rel) ∷ []))) (before hs h ++ (lexeme.Pick pick ∷ (lexeme.Rel rel ∷ []))) (shape (nots_of hs) h.nots AtLiteral) at ready
    (begins_unit hs h (Plain pick rel Nil) (lexeme.Pick pick ∷ (lexeme.Rel rel ∷ [])) (lexeme.Literal Nil ∷ []) outer fine (omega (arith, fine.nots)) refl) refl
ends (at_turned hs h base a literal outer fine ready at_base) at =
    end_refused (base ++ tok a (lexeme.Literal literal) ∷ []) (before hs h ++ lexeme.Literal literal ∷ []) (shape (nots_of hs) h.nots AtTurnedRel) at ready
    (begins_unit hs h (Turned literal Eq TypeName) (lexeme.Literal literal ∷ []) (lexeme.Rel Eq ∷ (lexeme.Pick TypeName ∷ [])) outer fine (omega (arith, fine.nots)) refl) refl
ends (at_pick hs h base a b literal rel outer fine ready at_base) at =
    end_refused (base ++ (tok a (lexeme.Literal literal) ∷ (tok b (lexeme.Rel rel) ∷ []))) (before hs h ++ (lexeme.Literal literal ∷ (lexeme.Rel rel ∷ []))) (shape (nots_of hs) h.nots AtPick) at ready
    (begins_unit hs h (Turned literal rel TypeName) (lexeme.Literal literal ∷ (lexeme.Rel rel ∷ [])) (lexeme.Pick TypeName ∷ []) outer fine (omega (arith, fine.nots)) refl) refl
ends (behind hs ors us last done outer fine_ors fine_us fine ready) at = behind_end hs ors us last done outer fine_ors fine_us fine ready at

-- ---- all tokens

is_the_end : (x : Lexeme) → is_end x ≡ true → x ≡ lexeme.End
is_the_end lexeme.End e = refl
is_the_end x e = absurd cc

no_end : (x : Lexeme) → is_end x ≡ false → x ≢ lexeme.End
no_end lexeme.End e = absurd cc
no_end x e = λ same. cc

go_on : (done : List Token) (at : ℕ) (x : Lexeme) (ts : List Token) (r : Result Parser QueryFault) → Steps done at x r
    → ((q : Parser) → Stands q (done ++ tok at x ∷ []) → Verdict ((done ++ tok at x ∷ []) ++ ts) (run q ts))
    → Verdict (done ++ tok at x ∷ ts) (and_then r (λ q. run q ts))
go_on done at x ts (Ok q) stands later = subst (λ (all : List Token). Verdict all (run q ts)) (append_assoc done (tok at x ∷ []) ts) (later q stands)
go_on done at x ts (Err f) refusal later = refusal ts

pub judged : (ts : List Token) {p : Parser} {done : List Token} → Stands p done → EndsOnce ts → Verdict (done ++ ts) (run p ts)
judged [] stands once = absurd once
judged (t ∷ []) {p} {done} stands once = rw once (subst (λ (x : Lexeme). Verdict (done ++ tok t.at x ∷ []) (finished p p.phase t.at)) (sym (is_the_end t.lexeme once)) (ends stands t.at))
judged (t ∷ (u ∷ ts)) {p} {done} stands once =
    rw once.0 (go_on done t.at t.lexeme (u ∷ ts) (next p p.phase t.at t.lexeme) (step stands t.at t.lexeme (no_end t.lexeme once.0)) (λ q more. judged (u ∷ ts) more once.1))

too_short : (front : List Lexeme) (a b c : Lexeme) (after : List Lexeme) → ◌≡◌ {A = List Lexeme} [] (front ++ (a ∷ (b ∷ (c ∷ after)))) → ⊥
too_short [] a b c after e = cc
too_short (x ∷ xs) a b c after e = cc

-- a parser that has read nothing
nothing_read : Stands start []
nothing_read =
    at_unit [] (half [] [] 0) [] tt (record { ors = tt; ands = tt; nots = omega arith })
    (record { is = refl; runs = refl; clean = λ front a b c after test is whole. absurd (too_short front a b c after is) })

pub judged_all : (ts : List Token) → EndsOnce ts → Verdict ts (run start ts)
judged_all ts once = judged ts nothing_read once
