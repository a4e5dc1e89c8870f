-- Queries that are half written: their trees so far, and how they may end.
use Rattle.std.proofs.Common.{◌≡◌, ℕ, zero, suc, ◌+◌, ◌≤◌, Bool, true, ◌&&◌, List, [], ◌∷◌, ◌++◌, map, refl, ap, sym, ◌∙◌, subst, append_assoc, append-nil, arith}
use Rattle.query_meaning.specs.declared.expr.Expr.{Expr, roll-Expr}
use Rattle.query_meaning.specs.declared.expr.Expr.TheOpen as level
use Rattle.query_meaning.specs.declared.expr.Pick.TheVariants.{TypeName}
use Rattle.query_meaning.specs.declared.expr.Rel.TheVariants.{Eq}
use Rattle.query_meaning.specs.declared.expr.Literal.TheVariants.{Nil}
use Rattle.query_parse.specs.declared.lexeme.Lexeme.{Lexeme}
use Rattle.query_parse.specs.declared.lexeme.Lexeme.TheVariants as lexeme
use Rattle.query_parse.specs.declared.parser.Group.{Group as Read}
use Rattle.query_parse.specs.Faults.{Begins, Continues}
use Rattle.query_parse.specs.Grammar.{UnitTree, AndTree, OrTree, Plain, Negated, Group, Lone, Both, Only, Either, unit_spelled, and_spelled, or_spelled, unit_depth, and_depth, depth_of, unit_agrees, and_agrees, all_agree, unit_expr, and_members, or_members, joined_and, joined_or, stands_for, most_open}
use Rattle.query_parse.specs.Parsing.{negated, group_expr}
use Rattle.query_parse.proofs.Shapes.{opened}

-- a group: its whole members of `||`, the whole members of `&&` behind them, and the `!` before the unit to come
pub record Half : Type 0 where
  pub ors : List AndTree
  pub ands : List UnitTree
  pub nots : ℕ

abbrev pub half : List AndTree → List UnitTree → ℕ → Half
half ors ands nots = record { ors = ors; ands = ands; nots = nots }

abbrev pub and_of : List UnitTree → UnitTree → AndTree
and_of [] last = Lone last
and_of (u ∷ us) last = Both u (and_of us last)

abbrev pub or_of : List AndTree → AndTree → OrTree
or_of [] last = Only last
or_of (c ∷ cs) last = Either c (or_of cs last)

abbrev pub wrap : ℕ → UnitTree → UnitTree
wrap zero u = u
wrap (suc n) u = Negated (wrap n u)

-- ---- what is spelled

abbrev pub ands_front : List UnitTree → List Lexeme
ands_front [] = []
ands_front (u ∷ us) = unit_spelled u ++ (lexeme.And ∷ ands_front us)

abbrev pub ors_front : List AndTree → List Lexeme
ors_front [] = []
ors_front (c ∷ cs) = and_spelled c ++ (lexeme.Or ∷ ors_front cs)

abbrev pub nots_front : ℕ → List Lexeme
nots_front zero = []
nots_front (suc n) = lexeme.Not ∷ nots_front n

abbrev pub front : Half → List Lexeme
front h = ors_front h.ors ++ (ands_front h.ands ++ nots_front h.nots)

abbrev pub outer_front : List Half → List Lexeme
outer_front [] = []
outer_front (h ∷ hs) = outer_front hs ++ (front h ++ lexeme.Open ∷ [])

pub and_of_spelled : (us : List UnitTree) (last : UnitTree) → and_spelled (and_of us last) ≡ ands_front us ++ unit_spelled last
and_of_spelled [] last = refl
and_of_spelled (u ∷ us) last =
    ap (λ (t : List Lexeme). unit_spelled u ++ lexeme.And ∷ t) (and_of_spelled us last)
    ∙ sym (append_assoc (unit_spelled u) (lexeme.And ∷ ands_front us) (unit_spelled last))

pub or_of_spelled : (cs : List AndTree) (last : AndTree) → or_spelled (or_of cs last) ≡ ors_front cs ++ and_spelled last
or_of_spelled [] last = refl
or_of_spelled (c ∷ cs) last =
    ap (λ (t : List Lexeme). and_spelled c ++ lexeme.Or ∷ t) (or_of_spelled cs last)
    ∙ sym (append_assoc (and_spelled c) (lexeme.Or ∷ ors_front cs) (and_spelled last))

pub whole_spelled : (ors : List AndTree) (us : List UnitTree) (last : UnitTree)
    → or_spelled (or_of ors (and_of us last)) ≡ ors_front ors ++ (ands_front us ++ unit_spelled last)
whole_spelled ors us last = or_of_spelled ors (and_of us last) ∙ ap (λ (t : List Lexeme). ors_front ors ++ t) (and_of_spelled us last)

pub wrap_spelled : (n : ℕ) (u : UnitTree) → unit_spelled (wrap n u) ≡ nots_front n ++ unit_spelled u
wrap_spelled zero u = refl
wrap_spelled (suc n) u = ap (λ (t : List Lexeme). lexeme.Not ∷ t) (wrap_spelled n u)

nots_behind : (n : ℕ) → lexeme.Not ∷ nots_front n ≡ nots_front n ++ lexeme.Not ∷ []
nots_behind zero = refl
nots_behind (suc n) = ap (λ (t : List Lexeme). lexeme.Not ∷ t) (nots_behind n)

pub nots_more : (n : ℕ) → nots_front (n + 1) ≡ nots_front n ++ lexeme.Not ∷ []
nots_more n = let more : n + 1 ≡ suc n = omega arith in ap nots_front more ∙ nots_behind n

pub ands_more : (us : List UnitTree) (u : UnitTree) → ands_front (us ++ u ∷ []) ≡ ands_front us ++ (unit_spelled u ++ lexeme.And ∷ [])
ands_more [] u = refl
ands_more (v ∷ us) u =
    ap (λ (t : List Lexeme). unit_spelled v ++ (lexeme.And ∷ t)) (ands_more us u)
    ∙ sym (append_assoc (unit_spelled v) (lexeme.And ∷ ands_front us) (unit_spelled u ++ lexeme.And ∷ []))

pub ors_more : (cs : List AndTree) (c : AndTree) → ors_front (cs ++ c ∷ []) ≡ ors_front cs ++ (and_spelled c ++ lexeme.Or ∷ [])
ors_more [] c = refl
ors_more (d ∷ cs) c =
    ap (λ (t : List Lexeme). and_spelled d ++ (lexeme.Or ∷ t)) (ors_more cs c)
    ∙ sym (append_assoc (and_spelled d) (lexeme.Or ∷ ors_front cs) (and_spelled c ++ lexeme.Or ∷ []))

-- ---- what it stands for

abbrev pub and_expr : AndTree → Expr
and_expr c = joined_and (and_members c)

pub and_of_members : (us : List UnitTree) (last : UnitTree) → and_members (and_of us last) ≡ map unit_expr us ++ unit_expr last ∷ []
and_of_members [] last = refl
and_of_members (u ∷ us) last = ap (λ (t : List Expr). unit_expr u ∷ t) (and_of_members us last)

pub or_of_members : (cs : List AndTree) (last : AndTree) → or_members (or_of cs last) ≡ map and_expr cs ++ and_expr last ∷ []
or_of_members [] last = refl
or_of_members (c ∷ cs) last = ap (λ (t : List Expr). and_expr c ∷ t) (or_of_members cs last)

abbrev pub read_half : Half → Read
read_half h = record { ors = map and_expr h.ors; ands = map unit_expr h.ands; nots = h.nots }

-- a group whose last unit is whole
abbrev pub read_whole : List AndTree → List UnitTree → UnitTree → Read
read_whole ors us last = record { ors = map and_expr ors; ands = map unit_expr us ++ unit_expr last ∷ []; nots = 0 }

pub whole_expr : (ors : List AndTree) (us : List UnitTree) (last : UnitTree) → group_expr (read_whole ors us last) ≡ stands_for (or_of ors (and_of us last))
whole_expr ors us last =
    ap (λ (ms : List Expr). joined_or (map and_expr ors ++ joined_and ms ∷ [])) (sym (and_of_members us last))
    ∙ ap joined_or (sym (or_of_members ors (and_of us last)))

pub wrap_expr : (n : ℕ) (u : UnitTree) → unit_expr (wrap n u) ≡ negated n (unit_expr u)
wrap_expr zero u = refl
wrap_expr (suc n) u = ap (λ (e : Expr). roll-Expr (level.Not e)) (wrap_expr n u)

-- ---- what is fine: no test clashes, and no place is deeper than 64

pub record FineUnit (base : ℕ) (u : UnitTree) : Type 0 where
  pub within : base + unit_depth u ≤ most_open
  pub agrees : unit_agrees u ≡ true

pub record FineAnd (base : ℕ) (c : AndTree) : Type 0 where
  pub within : base + and_depth c ≤ most_open
  pub agrees : and_agrees c ≡ true

pub record FineOr (base : ℕ) (q : OrTree) : Type 0 where
  pub within : base + depth_of q ≤ most_open
  pub agrees : all_agree q ≡ true

abbrev pub FineUnits : ℕ → List UnitTree → Type 0
FineUnits base [] = Unit {0}
FineUnits base (u ∷ us) = FineUnit base u × FineUnits base us

abbrev pub FineAnds : ℕ → List AndTree → Type 0
FineAnds base [] = Unit {0}
FineAnds base (c ∷ cs) = FineAnd base c × FineAnds base cs

pub record FineHalf (base : ℕ) (h : Half) : Type 0 where
  pub ors : FineAnds base h.ors
  pub ands : FineUnits base h.ands
  pub nots : base + h.nots ≤ most_open

abbrev pub nots_of : List Half → List ℕ
nots_of [] = []
nots_of (h ∷ hs) = h.nots ∷ nots_of hs

abbrev pub FineOuter : List Half → Type 0
FineOuter [] = Unit {0}
FineOuter (h ∷ hs) = FineHalf (opened (nots_of hs)) h × (opened (nots_of hs) + h.nots + 1 ≤ most_open) × FineOuter hs

both_true : (a b : Bool) → a ≡ true → b ≡ true → (a && b) ≡ true
both_true a b x y = ap (λ (c : Bool). c && b) x ∙ y

pub fine_units_more : (base : ℕ) (us : List UnitTree) (u : UnitTree) → FineUnits base us → FineUnit base u → FineUnits base (us ++ u ∷ [])
fine_units_more base [] u all fine = (fine, tt)
fine_units_more base (v ∷ us) u all fine = (all.0, fine_units_more base us u all.1 fine)

pub fine_ands_more : (base : ℕ) (cs : List AndTree) (c : AndTree) → FineAnds base cs → FineAnd base c → FineAnds base (cs ++ c ∷ [])
fine_ands_more base [] c all fine = (fine, tt)
fine_ands_more base (d ∷ cs) c all fine = (all.0, fine_ands_more base cs c all.1 fine)

pub fine_and_of : (base : ℕ) (us : List UnitTree) (last : UnitTree) → FineUnits base us → FineUnit base last → FineAnd base (and_of us last)
fine_and_of base [] last all fine = record { within = fine.within; agrees = fine.agrees }
fine_and_of base (u ∷ us) last all fine =
    let more = fine_and_of base us last all.1 fine in
    record {
      within = omega (arith, all.0.within, more.within);
      agrees = both_true (unit_agrees u) (and_agrees (and_of us last)) all.0.agrees more.agrees;
    }

pub fine_or_of : (base : ℕ) (cs : List AndTree) (last : AndTree) → FineAnds base cs → FineAnd base last → FineOr base (or_of cs last)
fine_or_of base [] last all fine = record { within = fine.within; agrees = fine.agrees }
fine_or_of base (c ∷ cs) last all fine =
    let more = fine_or_of base cs last all.1 fine in
    record {
      within = omega (arith, all.0.within, more.within);
      agrees = both_true (and_agrees c) (all_agree (or_of cs last)) all.0.agrees more.agrees;
    }

pub fine_wrap : (base n : ℕ) (u : UnitTree) → FineUnit (base + n) u → FineUnit base (wrap n u)
fine_wrap base zero u fine = record { within = omega (arith, fine.within); agrees = fine.agrees }
fine_wrap base (suc n) u fine =
    let inner : FineUnit (base + 1 + n) u = record { within = omega (arith, fine.within); agrees = fine.agrees } in
    let rest = fine_wrap (base + 1) n u inner in
    record { within = omega (arith, rest.within); agrees = rest.agrees }

-- ---- how deep it is, whatever its tests are

abbrev pub WithinUnits : ℕ → List UnitTree → Type 0
WithinUnits base [] = Unit {0}
WithinUnits base (u ∷ us) = (base + unit_depth u ≤ most_open) × WithinUnits base us

abbrev pub WithinAnds : ℕ → List AndTree → Type 0
WithinAnds base [] = Unit {0}
WithinAnds base (c ∷ cs) = (base + and_depth c ≤ most_open) × WithinAnds base cs

pub units_within : (base : ℕ) (us : List UnitTree) → FineUnits base us → WithinUnits base us
units_within base [] fine = tt
units_within base (u ∷ us) fine = (fine.0.within, units_within base us fine.1)

pub ands_within : (base : ℕ) (cs : List AndTree) → FineAnds base cs → WithinAnds base cs
ands_within base [] fine = tt
ands_within base (c ∷ cs) fine = (fine.0.within, ands_within base cs fine.1)

within_and_of : (base : ℕ) (us : List UnitTree) (last : UnitTree) → WithinUnits base us → base + unit_depth last ≤ most_open → base + and_depth (and_of us last) ≤ most_open
within_and_of base [] last all fits = fits
within_and_of base (u ∷ us) last all fits = omega (arith, all.0, within_and_of base us last all.1 fits)

within_or_of : (base : ℕ) (cs : List AndTree) (last : AndTree) → WithinAnds base cs → base + and_depth last ≤ most_open → base + depth_of (or_of cs last) ≤ most_open
within_or_of base [] last all fits = fits
within_or_of base (c ∷ cs) last all fits = omega (arith, all.0, within_or_of base cs last all.1 fits)

wrap_depth : (n : ℕ) (u : UnitTree) → unit_depth (wrap n u) ≡ unit_depth u + n
wrap_depth zero u = omega arith
wrap_depth (suc n) u = let rest = wrap_depth n u in omega (arith, rest)

-- the query of a group whose last unit is this, behind its `!`
abbrev pub ended_by : Half → UnitTree → OrTree
ended_by h u = or_of h.ors (and_of h.ands (wrap h.nots u))

pub ended_within : (base : ℕ) (h : Half) (u : UnitTree) → FineHalf base h → base + h.nots + unit_depth u ≤ most_open → base + depth_of (ended_by h u) ≤ most_open
ended_within base h u fine fits =
    within_or_of base h.ors (and_of h.ands (wrap h.nots u)) (ands_within base h.ors fine.ors)
    (within_and_of base h.ands (wrap h.nots u) (units_within base h.ands fine.ands) (omega (arith, wrap_depth h.nots u, fits)))

pub ended_spelled : (h : Half) (u : UnitTree) → or_spelled (ended_by h u) ≡ front h ++ unit_spelled u
ended_spelled h u =
    whole_spelled h.ors h.ands (wrap h.nots u)
    ∙ ap (λ (t : List Lexeme). ors_front h.ors ++ (ands_front h.ands ++ t)) (wrap_spelled h.nots u)
    ∙ ap (λ (t : List Lexeme). ors_front h.ors ++ t) (sym (append_assoc (ands_front h.ands) (nots_front h.nots) (unit_spelled u)))
    ∙ sym (append_assoc (ors_front h.ors) (ands_front h.ands ++ nots_front h.nots) (unit_spelled u))

-- ---- how it may end: each group around is closed, and then the end comes

abbrev pub closing : List Half → OrTree → OrTree
closing [] q = q
closing (h ∷ hs) q = closing hs (ended_by h (Group q))

abbrev pub closes : List Half → List Lexeme
closes [] = lexeme.End ∷ []
closes (h ∷ hs) = lexeme.Close ∷ closes hs

regroup : (outer front q more : List Lexeme)
    → (outer ++ (front ++ (lexeme.Open ∷ (q ++ lexeme.Close ∷ [])))) ++ more ≡ ((outer ++ (front ++ lexeme.Open ∷ [])) ++ q) ++ (lexeme.Close ∷ more)
regroup outer front q more = simp append_assoc refl

pub closing_spelled : (hs : List Half) (q : OrTree) → or_spelled (closing hs q) ++ lexeme.End ∷ [] ≡ (outer_front hs ++ or_spelled q) ++ closes hs
closing_spelled [] q = refl
closing_spelled (h ∷ hs) q =
    closing_spelled hs (ended_by h (Group q))
    ∙ ap (λ (t : List Lexeme). (outer_front hs ++ t) ++ closes hs) (ended_spelled h (Group q))
    ∙ regroup (outer_front hs) (front h) (or_spelled q) (closes hs)

pub closing_within : (hs : List Half) (q : OrTree) → FineOuter hs → opened (nots_of hs) + depth_of q ≤ most_open → depth_of (closing hs q) ≤ most_open
closing_within [] q fine fits = omega (arith, fits)
closing_within (h ∷ hs) q fine fits =
    closing_within hs (ended_by h (Group q)) fine.2 (ended_within (opened (nots_of hs)) h (Group q) fine.0 (omega (arith, fits)))

regroup_first : (outer front first rest more : List Lexeme) → (outer ++ (front ++ (first ++ rest))) ++ more ≡ ((outer ++ front) ++ first) ++ (rest ++ more)
regroup_first outer front first rest more = simp append_assoc refl

-- tokens of a half-written query, and the first ones of its unit
spelled_so : (hs : List Half) (h : Half) (u : UnitTree) (first rest : List Lexeme) → unit_spelled u ≡ first ++ rest
    → or_spelled (closing hs (ended_by h u)) ++ lexeme.End ∷ [] ≡ ((outer_front hs ++ front h) ++ first) ++ (rest ++ closes hs)
spelled_so hs h u first rest is =
    closing_spelled hs (ended_by h u)
    ∙ ap (λ (t : List Lexeme). (outer_front hs ++ t) ++ closes hs) (ended_spelled h u)
    ∙ ap (λ (t : List Lexeme). (outer_front hs ++ (front h ++ t)) ++ closes hs) is
    ∙ regroup_first (outer_front hs) (front h) first rest (closes hs)

pub begins_unit : (hs : List Half) (h : Half) (u : UnitTree) (first rest : List Lexeme) → FineOuter hs → FineHalf (opened (nots_of hs)) h
    → opened (nots_of hs) + h.nots + unit_depth u ≤ most_open → unit_spelled u ≡ first ++ rest → Begins most_open ((outer_front hs ++ front h) ++ first)
begins_unit hs h u first rest outer fine fits is = record {
  query = closing hs (ended_by h u);
  more = rest ++ closes hs;
  spells = spelled_so hs h u first rest is;
  within = closing_within hs (ended_by h u) outer (ended_within (opened (nots_of hs)) h u fine fits);
}

pub continues_unit : (hs : List Half) (h : Half) (u : UnitTree) (first rest : List Lexeme) → unit_spelled u ≡ first ++ rest → Continues ((outer_front hs ++ front h) ++ first)
continues_unit hs h u first rest is = record { query = closing hs (ended_by h u); more = rest ++ closes hs; spells = spelled_so hs h u first rest is }

-- some test
abbrev pub any_test : UnitTree
any_test = Plain TypeName Eq Nil

pub begins_start : (hs : List Half) (h : Half) → FineOuter hs → FineHalf (opened (nots_of hs)) h → Begins most_open (outer_front hs ++ front h)
begins_start hs h outer fine =
    subst (Begins most_open) (append-nil (outer_front hs ++ front h))
    (begins_unit hs h any_test [] (unit_spelled any_test) outer fine (omega (arith, fine.nots)) refl)

-- tokens of a query whose last unit is whole
pub begins_behind : (hs : List Half) (ors : List AndTree) (us : List UnitTree) (last : UnitTree) → FineOuter hs
    → FineAnds (opened (nots_of hs)) ors → FineUnits (opened (nots_of hs)) us → FineUnit (opened (nots_of hs)) last
    → Begins most_open (outer_front hs ++ (ors_front ors ++ (ands_front us ++ unit_spelled last)))
begins_behind hs ors us last outer fine_ors fine_us fine = record {
  query = closing hs (or_of ors (and_of us last));
  more = closes hs;
  spells = closing_spelled hs (or_of ors (and_of us last)) ∙ ap (λ (t : List Lexeme). (outer_front hs ++ t) ++ closes hs) (whole_spelled ors us last);
  within = closing_within hs (or_of ors (and_of us last)) outer
      (within_or_of (opened (nots_of hs)) ors (and_of us last) (ands_within (opened (nots_of hs)) ors fine_ors)
      (within_and_of (opened (nots_of hs)) us last (units_within (opened (nots_of hs)) us fine_us) fine.within));
}
