-- What the reading of a whole text says of the text.
use Rattle.std.proofs.Common.{MatchResult, sym, ◌∙◌, refl, ◌≡◌, ℕ, ◌≤◌, List, Result, Ok, Err, length, IfOk, IfErr, subst, arith}
use Rattle.query_meaning.specs.declared.expr.Expr.{Expr}
use Rattle.query_parse.specs.declared.fault.ParseEnd.{ParseEnd}
use Rattle.query_parse.specs.declared.fault.ParseEnd.TheVariants.{Fault, Memory}
use Rattle.query_parse.specs.declared.fault.QueryFault.{QueryFault}
use Rattle.query_parse.specs.declared.fault.QueryWhat.{QueryWhat}
use Rattle.query_parse.specs.declared.fault.QueryWhat.TheVariants.{Unexpected, BadLiteral, KindClash, TooDeep, TooLong}
use Rattle.query_parse.specs.Faults.{most_bytes, FaultIn, IsFault, Refuses}
use Rattle.query_parse.specs.Grammar.{Reads}
use Rattle.query_parse.specs.Parsing.{run, start, Reached}
use Rattle.query_parse.specs.Tokens.{tokens_of, lexemes_of}
use Rattle.query_parse.proofs.PieceLemmas.{ends_once}
use Rattle.query_parse.proofs.Passing.{reading_passes}
use Rattle.query_parse.proofs.Stepping.{Verdict, judged_all}

pub verdict : (text : List ℕ) (r : Result Expr QueryFault) → run start (tokens_of text) ≡ r → Verdict (tokens_of text) r
verdict text r is = subst (Verdict (tokens_of text)) is (judged_all (tokens_of text) (ends_once (length text) 0 text (omega arith)))

pub text_reads : (text : List ℕ) (result : Result Expr ParseEnd) → Reached (run start (tokens_of text)) result → IfOk result (λ expr. Reads (lexemes_of text) expr)
text_reads text (Ok e) is = (verdict text (Ok e) is).0
text_reads text (Err e) is = tt

pub fault_is : (text : List ℕ) (at : ℕ) (what : QueryWhat) → length text ≤ most_bytes → FaultIn (tokens_of text) at what → IsFault text at what
fault_is text at Unexpected short fault = (short, fault)
fault_is text at BadLiteral short fault = (short, fault)
fault_is text at KindClash short fault = (short, fault)
fault_is text at TooDeep short fault = (short, fault)
fault_is text at TooLong short fault = absurd fault

pub text_refused : (text : List ℕ) (result : Result Expr ParseEnd) → length text ≤ most_bytes → Reached (run start (tokens_of text)) result → IfErr result (λ end. Refuses text end)
text_refused text (Ok e) short is = tt
text_refused text (Err (Fault f)) short is = fault_is text f.at f.what short (verdict text (Err f) is)
text_refused text (Err Memory) short is = tt

reached_as : (reading : Result Expr QueryFault) (expr : Expr) (result : Result Expr ParseEnd) → reading ≡ Ok expr → Reached reading result
    → MatchResult result (λ e. e ≡ expr) (λ end. end ≡ Memory)
reached_as reading expr (Ok e) is reached =
    let same : ◌≡◌ {A = Result Expr QueryFault} (Ok e) (Ok expr) = sym reached ∙ is in cc
reached_as reading expr (Err (Fault f)) is reached =
    let no : ◌≡◌ {A = Result Expr QueryFault} (Err f) (Ok expr) = sym reached ∙ is in absurd cc
reached_as reading expr (Err Memory) is reached = refl

pub text_in_grammar : (text : List ℕ) (expr : Expr) (result : Result Expr ParseEnd) → Reads (lexemes_of text) expr → Reached (run start (tokens_of text)) result
    → MatchResult result (λ e. e ≡ expr) (λ end. end ≡ Memory)
text_in_grammar text expr result reads reached = reached_as (run start (tokens_of text)) expr result (reading_passes (tokens_of text) expr reads) reached
