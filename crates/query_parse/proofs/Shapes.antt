-- Which tokens may follow which, whatever the tests are, and how deep they stand.
use Rattle.std.proofs.Common.{◌≡◌, ℕ, ◌+◌, ◌<◌, ◌≤◌, Bool, true, false, if◌then◌else◌, nat_lt, List, [], ◌∷◌, ◌++◌, Option, None, Some, refl, ap, sym, ◌∙◌, append_assoc, arith}
use Rattle.std.specs.Option.{option_and_then}
use Rattle.std.proofs.lemmas.Bool.{lt-ltb}
use Rattle.query_parse.specs.declared.lexeme.Lexeme.{Lexeme}
use Rattle.query_parse.specs.declared.lexeme.Lexeme.TheVariants as lexeme
use Rattle.query_parse.specs.Faults.{Begins, Continues}
use Rattle.query_parse.specs.Grammar.{UnitTree, AndTree, OrTree, Plain, Turned, Negated, Group, Lone, Both, Only, Either, unit_spelled, and_spelled, or_spelled, unit_depth, and_depth, depth_of}

-- what may come next
pub data Place : Type 0 where
  AtUnit : Place
  AtRel : Place
  AtLiteral : Place
  AtTurnedRel : Place
  AtPick : Place
  Behind : Place
  AtEnd : Place

-- the `!` that are open before each open parenthesis, the innermost first, and those before the unit
pub record Shape : Type 0 where
  pub outer : List ℕ
  pub nots : ℕ
  pub place : Place

abbrev pub shape : List ℕ → ℕ → Place → Shape
shape outer nots place = record { outer = outer; nots = nots; place = place }

abbrev pub start_shape : Shape
start_shape = shape [] 0 AtUnit

abbrev pub opened : List ℕ → ℕ
opened [] = 0
opened (n ∷ ns) = opened ns + n + 1

abbrev pub depth_at : Shape → ℕ
depth_at s = opened s.outer + s.nots

abbrev unit_move : List ℕ → ℕ → Lexeme → Option Shape
unit_move o n lexeme.Not = Some (shape o (n + 1) AtUnit)
unit_move o n lexeme.Open = Some (shape (n ∷ o) 0 AtUnit)
unit_move o n (lexeme.Pick pick) = Some (shape o n AtRel)
unit_move o n (lexeme.Literal literal) = Some (shape o n AtTurnedRel)
unit_move o n x = None

abbrev rel_move : List ℕ → ℕ → Place → Lexeme → Option Shape
rel_move o n place (lexeme.Rel rel) = Some (shape o n place)
rel_move o n place x = None

abbrev literal_move : List ℕ → Lexeme → Option Shape
literal_move o (lexeme.Literal literal) = Some (shape o 0 Behind)
literal_move o x = None

abbrev pick_move : List ℕ → Lexeme → Option Shape
pick_move o (lexeme.Pick pick) = Some (shape o 0 Behind)
pick_move o x = None

abbrev close_move : List ℕ → Option Shape
close_move [] = None
close_move (n ∷ o) = Some (shape o 0 Behind)

abbrev end_move : List ℕ → Option Shape
end_move [] = Some (shape [] 0 AtEnd)
end_move (n ∷ o) = None

abbrev behind_move : List ℕ → Lexeme → Option Shape
behind_move o lexeme.And = Some (shape o 0 AtUnit)
behind_move o lexeme.Or = Some (shape o 0 AtUnit)
behind_move o lexeme.Close = close_move o
behind_move o lexeme.End = end_move o
behind_move o x = None

abbrev move_at : List ℕ → ℕ → Place → Lexeme → Option Shape
move_at o n AtUnit x = unit_move o n x
move_at o n AtRel x = rel_move o n AtLiteral x
move_at o n AtLiteral x = literal_move o x
move_at o n AtTurnedRel x = rel_move o n AtPick x
move_at o n AtPick x = pick_move o x
move_at o n Behind x = behind_move o x
move_at o n AtEnd x = None

abbrev pub move : Shape → Lexeme → Option Shape
move s x = move_at s.outer s.nots s.place x

abbrev pub is_opening : Lexeme → Bool
is_opening lexeme.Not = true
is_opening lexeme.Open = true
is_opening x = false

-- the same, where at most so many constructs are open at once
abbrev pub limited : ℕ → Shape → Lexeme → Option Shape
limited most s x = if is_opening x then (if nat_lt (depth_at s) most then move s x else None) else move s x

abbrev pub run_by : (Shape → Lexeme → Option Shape) → Shape → List Lexeme → Option Shape
run_by step s [] = Some s
run_by step s (x ∷ xs) = option_and_then (λ t. run_by step t xs) (step s x)

-- a run of two parts
then_run : (step : Shape → Lexeme → Option Shape) (r : Option Shape) (xs ys : List Lexeme)
    → ((s : Shape) → run_by step s (xs ++ ys) ≡ option_and_then (λ t. run_by step t ys) (run_by step s xs))
    → option_and_then (λ t. run_by step t (xs ++ ys)) r ≡ option_and_then (λ t. run_by step t ys) (option_and_then (λ t. run_by step t xs) r)
then_run step None xs ys h = refl
then_run step (Some s) xs ys h = h s

pub run_parts : (step : Shape → Lexeme → Option Shape) (xs ys : List Lexeme) (s : Shape)
    → run_by step s (xs ++ ys) ≡ option_and_then (λ t. run_by step t ys) (run_by step s xs)
run_parts step [] ys s = refl
run_parts step (x ∷ xs) ys s = then_run step (step s x) xs ys (run_parts step xs ys)

-- the first part of a run that comes to an end comes somewhere
pub record Comes (step : Shape → Lexeme → Option Shape) (s : Shape) (xs : List Lexeme) : Type 0 where
  pub to : Shape
  pub is : run_by step s xs ≡ Some to

some_first : (step : Shape → Lexeme → Option Shape) (s : Shape) (xs ys : List Lexeme) (e : Shape) (r : Option Shape) → run_by step s xs ≡ r
    → option_and_then (λ t. run_by step t ys) r ≡ Some e → Comes step s xs
some_first step s xs ys e None is ends = absurd cc
some_first step s xs ys e (Some t) is ends = record { to = t; is = is }

pub first_comes : (step : Shape → Lexeme → Option Shape) (s : Shape) (xs ys : List Lexeme) (e : Shape) → run_by step s (xs ++ ys) ≡ Some e → Comes step s xs
first_comes step s xs ys e ends = some_first step s xs ys e (run_by step s xs) refl (sym (run_parts step xs ys s) ∙ ends)

-- ---- a run within a depth is a run

unlimit : (o n : Bool) (m : Option Shape) (t : Shape) → (if o then (if n then m else None) else m) ≡ Some t → m ≡ Some t
unlimit true true m t is = is
unlimit true false m t is = absurd cc
unlimit false n m t is = is

pub limited_is : (most : ℕ) (s : Shape) (x : Lexeme) (t : Shape) → limited most s x ≡ Some t → move s x ≡ Some t
limited_is most s x t is = unlimit (is_opening x) (nat_lt (depth_at s) most) (move s x) t is

free_step : (most : ℕ) (x : Lexeme) (xs : List Lexeme) (s e : Shape) (r : Option Shape) → limited most s x ≡ r
    → ((t : Shape) → run_by (limited most) t xs ≡ Some e → run_by move t xs ≡ Some e)
    → option_and_then (λ t. run_by (limited most) t xs) r ≡ Some e → option_and_then (λ t. run_by move t xs) (move s x) ≡ Some e
free_step most x xs s e None is later ends = absurd cc
free_step most x xs s e (Some t) is later ends =
    ap (λ (r : Option Shape). option_and_then (λ t. run_by move t xs) r) (limited_is most s x t is) ∙ later t ends

pub run_free : (most : ℕ) (xs : List Lexeme) (s e : Shape) → run_by (limited most) s xs ≡ Some e → run_by move s xs ≡ Some e
run_free most [] s e ends = ends
run_free most (x ∷ xs) s e ends = free_step most x xs s e (limited most s x) refl (λ t later. run_free most xs t e later) ends

-- ---- the tokens of a query run to its end

opens : (most : ℕ) (o : List ℕ) (n : ℕ) (rest : List Lexeme) → opened o + n < most
    → run_by (limited most) (shape o n AtUnit) (lexeme.Open ∷ rest) ≡ run_by (limited most) (shape (n ∷ o) 0 AtUnit) rest
opens most o n rest room =
    ap (λ (c : Bool). option_and_then (λ t. run_by (limited most) t rest) (if c then Some (shape (n ∷ o) 0 AtUnit) else None)) (lt-ltb _ _ room)

negates : (most : ℕ) (o : List ℕ) (n : ℕ) (rest : List Lexeme) → opened o + n < most
    → run_by (limited most) (shape o n AtUnit) (lexeme.Not ∷ rest) ≡ run_by (limited most) (shape o (n + 1) AtUnit) rest
negates most o n rest room =
    ap (λ (c : Bool). option_and_then (λ t. run_by (limited most) t rest) (if c then Some (shape o (n + 1) AtUnit) else None)) (lt-ltb _ _ room)

mutual
  unit_runs : (u : UnitTree) (most : ℕ) (o : List ℕ) (n : ℕ) (rest : List Lexeme) → opened o + n + unit_depth u ≤ most
      → run_by (limited most) (shape o n AtUnit) (unit_spelled u ++ rest) ≡ run_by (limited most) (shape o 0 Behind) rest
  unit_runs (Plain pick rel literal) most o n rest room = refl
  unit_runs (Turned literal rel pick) most o n rest room = refl
  unit_runs (Negated unit) most o n rest room =
      negates most o n (unit_spelled unit ++ rest) (omega (arith, room)) ∙ unit_runs unit most o (n + 1) rest (omega (arith, room))
  unit_runs (Group query) most o n rest room =
      opens most o n ((or_spelled query ++ lexeme.Close ∷ []) ++ rest) (omega (arith, room))
      ∙ ap (run_by (limited most) (shape (n ∷ o) 0 AtUnit)) (append_assoc (or_spelled query) (lexeme.Close ∷ []) rest)
      ∙ or_runs query most (n ∷ o) (lexeme.Close ∷ rest) (omega (arith, room))

  and_runs : (c : AndTree) (most : ℕ) (o : List ℕ) (rest : List Lexeme) → opened o + and_depth c ≤ most
      → run_by (limited most) (shape o 0 AtUnit) (and_spelled c ++ rest) ≡ run_by (limited most) (shape o 0 Behind) rest
  and_runs (Lone unit) most o rest room = unit_runs unit most o 0 rest (omega (arith, room))
  and_runs (Both unit more) most o rest room =
      ap (run_by (limited most) (shape o 0 AtUnit)) (append_assoc (unit_spelled unit) (lexeme.And ∷ and_spelled more) rest)
      ∙ unit_runs unit most o 0 (lexeme.And ∷ (and_spelled more ++ rest)) (omega (arith, room))
      ∙ and_runs more most o rest (omega (arith, room))

  or_runs : (q : OrTree) (most : ℕ) (o : List ℕ) (rest : List Lexeme) → opened o + depth_of q ≤ most
      → run_by (limited most) (shape o 0 AtUnit) (or_spelled q ++ rest) ≡ run_by (limited most) (shape o 0 Behind) rest
  or_runs (Only first) most o rest room = and_runs first most o rest room
  or_runs (Either first more) most o rest room =
      ap (run_by (limited most) (shape o 0 AtUnit)) (append_assoc (and_spelled first) (lexeme.Or ∷ or_spelled more) rest)
      ∙ and_runs first most o (lexeme.Or ∷ (or_spelled more ++ rest)) (omega (arith, room))
      ∙ or_runs more most o rest (omega (arith, room))

pub query_runs : (q : OrTree) (most : ℕ) → depth_of q ≤ most → run_by (limited most) start_shape (or_spelled q ++ lexeme.End ∷ []) ≡ Some (shape [] 0 AtEnd)
query_runs q most room = or_runs q most [] (lexeme.End ∷ []) (omega (arith, room))

-- tokens that some query begins with run somewhere, and within its depth
pub begins_runs : (most : ℕ) (xs : List Lexeme) → Begins most xs → Comes (limited most) start_shape xs
begins_runs most xs b =
    first_comes (limited most) start_shape xs b.more (shape [] 0 AtEnd)
    (ap (run_by (limited most) start_shape) (sym b.spells) ∙ query_runs b.query most b.within)

pub continues_runs : (xs : List Lexeme) → Continues xs → Comes move start_shape xs
continues_runs xs c =
    let within : depth_of c.query ≤ depth_of c.query = omega arith in
    let limits = first_comes (limited (depth_of c.query)) start_shape xs c.more (shape [] 0 AtEnd)
    (ap (run_by (limited (depth_of c.query)) start_shape) (sym c.spells) ∙ query_runs c.query (depth_of c.query) within) in
    record { to = limits.to; is = run_free (depth_of c.query) xs start_shape limits.to limits.is }
