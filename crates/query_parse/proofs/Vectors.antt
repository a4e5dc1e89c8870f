-- Values that the definitions have, computed by the prover. Each is false where its definition is wrong.
use Rattle.std.proofs.Common.{◌≡◌, ℕ, pos, negsuc, true, false, List, [], ◌∷◌, ◌++◌, Option, None, Some, Result, Ok, Err, codes, map, filter, replicate, refl}
use Rattle.std.specs.Fmt.{digits}
use Rattle.vast_value.specs.declared.kind.Elem.TheVariants as elem
use Rattle.vast_value.specs.declared.transport.Transport.TheVariants.{Udp}
use Rattle.vast_value.specs.declared.value.Value.TheVariants as value
use Rattle.query_meaning.specs.declared.expr.Expr.{Expr, roll-Expr}
use Rattle.query_meaning.specs.declared.expr.Expr.TheOpen as level
use Rattle.query_meaning.specs.declared.expr.Pick.{Pick}
use Rattle.query_meaning.specs.declared.expr.Pick.TheVariants.{OfKind, Named, TypeName, EventTime}
use Rattle.query_meaning.specs.declared.expr.Rel.{Rel}
use Rattle.query_meaning.specs.declared.expr.Rel.TheVariants.{Eq, Ne, Lt, Le, Gt, Ge, Within, Contains}
use Rattle.query_meaning.specs.declared.expr.Literal.{Literal}
use Rattle.query_meaning.specs.declared.expr.Literal.TheVariants.{Nil, Of}
use Rattle.value_text.specs.Literals.{literal_read, moment_of}
use Rattle.query_parse.specs.declared.fault.QueryFault.{QueryFault}
use Rattle.query_parse.specs.declared.fault.QueryWhat.{QueryWhat}
use Rattle.query_parse.specs.declared.fault.QueryWhat.TheVariants.{Unexpected, BadLiteral, KindClash, TooDeep, TooLong}
use Rattle.query_parse.specs.declared.lexeme.Lexeme.{Lexeme}
use Rattle.query_parse.specs.declared.lexeme.Lexeme.TheVariants as lexeme
use Rattle.query_parse.specs.declared.parser.Group.{Group}
use Rattle.query_parse.specs.declared.parser.Parser.{Parser}
use Rattle.query_parse.specs.declared.parser.Phase.{Phase}
use Rattle.query_parse.specs.declared.parser.Phase.TheVariants.{Start, Picked, Related, Valued, Reversed, Whole}
use Rattle.query_parse.specs.declared.texts.Quoted.{Quoted}
use Rattle.query_parse.specs.declared.tokens.Piece.{Piece}
use Rattle.query_parse.specs.Faults.{most_bytes}
use Rattle.query_parse.specs.Grammar.{Plain, Turned, Negated, Group as Grouped, Lone, Both, Only, turned, joined_and, joined_or, test_of, most_open}
use Rattle.query_parse.specs.Laws.{is_writable, query_text}
use Rattle.query_parse.specs.Lexemes.{is_blank, is_letter, is_word_byte, is_name_byte, kind_picked, literal_if, begins_literal, plain_word, kind_or_plain, word_lexeme}
use Rattle.query_parse.specs.Parsing.{fresh, start, negated, group_expr, with_unit, behind_unit, in_phase, fault, refused, with_test, may_open, not_opened, group_opened, unit_next, relation_next, literal_next, turned_next, pick_next, split_last, closed, whole_next, next, end_fault, finished_in, finished, is_end, and_then, run, parsed}
use Rattle.query_parse.specs.Tokens.{put_byte, is_pair, text_piece, word_piece, short_piece, double_piece, is_next, piece_of, Token, tokens_of, lexemes_of}

-- `in` and `ni` are relations
relations : (word_lexeme (codes "in") ∷ word_lexeme (codes "ni") ∷ word_lexeme (codes "ini") ∷ []) ≡ (lexeme.Rel Within ∷ lexeme.Rel Contains ∷ lexeme.Pick (Named (codes "ini")) ∷ [])
unfolding word_lexeme literal_read moment_of
relations = refl

-- `nil`, `T` and `F` are literals
literal_words : (word_lexeme (codes "nil") ∷ word_lexeme (codes "T") ∷ word_lexeme (codes "F") ∷ word_lexeme (codes "t") ∷ []) ≡ (lexeme.Literal Nil ∷ lexeme.Literal (Of (value.Bool true)) ∷ lexeme.Literal (Of (value.Bool false)) ∷ lexeme.Pick (Named (codes "t")) ∷ [])
unfolding word_lexeme literal_read moment_of
literal_words = refl

-- `&type` and `&time` are picks, and no other word with an `&`
picks : (word_lexeme (codes "&type") ∷ word_lexeme (codes "&time") ∷ word_lexeme (codes "&x") ∷ word_lexeme (codes "&") ∷ []) ≡ (lexeme.Pick TypeName ∷ lexeme.Pick EventTime ∷ lexeme.Unknown ∷ lexeme.Unknown ∷ [])
unfolding word_lexeme literal_read moment_of
picks = refl

-- `:` and a type's name pick a kind; any other word with a `:` is a literal or a bad one
kinds : (word_lexeme (codes ":count") ∷ word_lexeme (codes ":string") ∷ word_lexeme (codes ":interval") ∷ word_lexeme (codes ":port") ∷ word_lexeme (codes ":foo") ∷ word_lexeme (codes "a:b") ∷ word_lexeme (codes "a:count") ∷ word_lexeme (codes "::1") ∷ word_lexeme (codes "a::") ∷ []) ≡ (lexeme.Pick (OfKind elem.Count) ∷ lexeme.Pick (OfKind elem.Text) ∷ lexeme.Pick (OfKind elem.Span) ∷ lexeme.Pick (OfKind elem.Port) ∷ lexeme.Bad ∷ lexeme.Bad ∷ lexeme.Bad ∷ lexeme.Literal (Of (value.Addr 1)) ∷ lexeme.Literal (Of (value.Addr 51922968585348276285304963292200960)) ∷ [])
unfolding word_lexeme literal_read moment_of
kinds = refl

-- a word that begins with `@` is a time or a bad literal
times : (word_lexeme (codes "@5") ∷ word_lexeme (codes "@") ∷ word_lexeme (codes "@x") ∷ []) ≡ (lexeme.Literal (Of (value.Time (pos 5000000000))) ∷ lexeme.Bad ∷ lexeme.Bad ∷ [])
unfolding word_lexeme literal_read moment_of
times = refl

-- a word that begins with a digit or a sign is a literal or a bad one
literals : (word_lexeme (codes "5") ∷ word_lexeme (codes "+5") ∷ word_lexeme (codes "-5s") ∷ word_lexeme (codes "53/udp") ∷ word_lexeme (codes "53/x") ∷ word_lexeme (codes "5a") ∷ word_lexeme (codes "+a") ∷ word_lexeme (codes "-") ∷ []) ≡ (lexeme.Literal (Of (value.Count 5)) ∷ lexeme.Literal (Of (value.Int (pos 5))) ∷ lexeme.Literal (Of (value.Span (negsuc 4999999999))) ∷ lexeme.Literal (Of (value.Port 53 Udp)) ∷ lexeme.Bad ∷ lexeme.Bad ∷ lexeme.Bad ∷ lexeme.Bad ∷ [])
unfolding word_lexeme literal_read moment_of
literals = refl

-- a letter or `_`, then letters, digits, `_`, `-` and `.`
names : (word_lexeme (codes "id.resp_p") ∷ word_lexeme (codes "a-b") ∷ word_lexeme (codes "_9") ∷ word_lexeme (codes "Zz") ∷ word_lexeme (codes ".a") ∷ word_lexeme (codes "/") ∷ word_lexeme (codes "?a") ∷ word_lexeme (codes "a/b") ∷ word_lexeme (codes "a?") ∷ word_lexeme (codes "a@") ∷ word_lexeme (codes "a+b") ∷ []) ≡ (lexeme.Pick (Named (codes "id.resp_p")) ∷ lexeme.Pick (Named (codes "a-b")) ∷ lexeme.Pick (Named (codes "_9")) ∷ lexeme.Pick (Named (codes "Zz")) ∷ lexeme.Unknown ∷ lexeme.Unknown ∷ lexeme.Unknown ∷ lexeme.Unknown ∷ lexeme.Unknown ∷ lexeme.Unknown ∷ lexeme.Unknown ∷ [])
unfolding word_lexeme literal_read moment_of
names = refl

-- the bytes of words: letters, digits and `_ . : / ? @ + -`
word_bytes : (is_word_byte 47 ∷ is_word_byte 48 ∷ is_word_byte 57 ∷ is_word_byte 58 ∷ is_word_byte 64 ∷ is_word_byte 65 ∷ is_word_byte 90 ∷ is_word_byte 91 ∷ is_word_byte 94 ∷ is_word_byte 95 ∷ is_word_byte 96 ∷ is_word_byte 97 ∷ is_word_byte 122 ∷ is_word_byte 123 ∷ is_word_byte 43 ∷ is_word_byte 44 ∷ is_word_byte 45 ∷ is_word_byte 46 ∷ is_word_byte 63 ∷ is_word_byte 62 ∷ is_word_byte 38 ∷ is_word_byte 37 ∷ []) ≡ (true ∷ true ∷ true ∷ true ∷ true ∷ true ∷ true ∷ false ∷ false ∷ true ∷ false ∷ true ∷ true ∷ false ∷ true ∷ false ∷ true ∷ true ∷ true ∷ false ∷ false ∷ false ∷ [])
word_bytes = refl

-- the letters of both cases, from the first to the last
letters : filter is_letter (64 ∷ 65 ∷ 90 ∷ 91 ∷ 96 ∷ 97 ∷ 122 ∷ 123 ∷ []) ≡ (65 ∷ 90 ∷ 97 ∷ 122 ∷ [])
letters = refl

-- letters, digits and `_ . -`, out of the bytes of words and those beside them
name_bytes : filter is_name_byte (codes "aZ09_.-:/?@+,^`") ≡ codes "aZ09_.-"
name_bytes = refl

-- a colon first, and then the name of a type
a_colon_picks_a_kind : map kind_picked (codes ":count" ∷ codes ":interval" ∷ codes ":enum" ∷ codes ":foo" ∷ codes "count" ∷ codes "::count" ∷ codes ":" ∷ [] ∷ []) ≡ (Some elem.Count ∷ Some elem.Span ∷ Some elem.Name ∷ None ∷ None ∷ None ∷ None ∷ None ∷ [])
a_colon_picks_a_kind = refl

a_kind_that_is_picked_stands_before_the_word : (kind_or_plain (Some elem.Count) (codes "a") ∷ kind_or_plain None (codes "a") ∷ []) ≡ (lexeme.Pick (OfKind elem.Count) ∷ lexeme.Pick (Named (codes "a")) ∷ [])
unfolding literal_read moment_of
a_kind_that_is_picked_stands_before_the_word = refl

-- `@`, a digit or a sign first, or a colon anywhere
what_begins_like_a_literal : map begins_literal (codes "@x" ∷ codes "0" ∷ codes "9a" ∷ codes "+" ∷ codes "-a" ∷ codes "a:" ∷ codes ":" ∷ codes "a@" ∷ codes "a0" ∷ codes "a-b" ∷ codes ".5" ∷ codes "_" ∷ [] ∷ []) ≡ (true ∷ true ∷ true ∷ true ∷ true ∷ true ∷ true ∷ false ∷ false ∷ false ∷ false ∷ false ∷ false ∷ [])
what_begins_like_a_literal = refl

no_value_is_a_bad_literal : map literal_if (None ∷ Some (value.Count 5) ∷ []) ≡ (lexeme.Bad ∷ lexeme.Literal (Of (value.Count 5)) ∷ [])
no_value_is_a_bad_literal = refl

-- what begins like a literal is one or a bad one, also where it could be a name
plain_words : map plain_word (codes "5" ∷ codes "5a" ∷ codes "-a" ∷ codes "a5" ∷ codes "a/b" ∷ []) ≡ (lexeme.Literal (Of (value.Count 5)) ∷ lexeme.Bad ∷ lexeme.Bad ∷ lexeme.Pick (Named (codes "a5")) ∷ lexeme.Unknown ∷ [])
unfolding literal_read moment_of
plain_words = refl

-- space, tab, newline and carriage return
blanks : (is_blank 32 ∷ is_blank 9 ∷ is_blank 10 ∷ is_blank 13 ∷ is_blank 11 ∷ is_blank 12 ∷ is_blank 0 ∷ []) ≡ (true ∷ true ∷ true ∷ true ∷ false ∷ false ∷ false ∷ [])
blanks = refl

abbrev piece : ℕ → Lexeme → Piece
piece length lexeme = record { length = length; lexeme = lexeme }

pieces_of_one_byte_and_of_two : (short_piece lexeme.Not ∷ double_piece lexeme.Or ∷ []) ≡ (piece 1 lexeme.Not ∷ piece 2 lexeme.Or ∷ [])
pieces_of_one_byte_and_of_two = refl

-- the next byte is the first of the rest
the_next_byte : map (is_next 61) (codes "=a" ∷ codes "a=" ∷ [] ∷ []) ≡ (true ∷ false ∷ false ∷ [])
the_next_byte = refl

-- a word goes as far as its bytes do, and an `&` is its first byte alone
pieces_of_words : map word_piece (codes "id.resp_p<5" ∷ codes "&time&&a" ∷ codes "&" ∷ codes "5s" ∷ []) ≡ (piece 9 (lexeme.Pick (Named (codes "id.resp_p"))) ∷ piece 5 (lexeme.Pick EventTime) ∷ piece 1 lexeme.Unknown ∷ piece 2 (lexeme.Literal (Of (value.Span (pos 5000000000)))) ∷ [])
unfolding word_lexeme literal_read moment_of
pieces_of_words = refl

abbrev quoted_as : List ℕ → ℕ → Quoted
quoted_as content length = record { content = content; length = length }

-- a backslash takes a quote or a backslash behind it
a_backslash_takes_a_quote_or_a_backslash : (is_pair 92 34 ∷ is_pair 92 92 ∷ is_pair 92 120 ∷ is_pair 34 34 ∷ is_pair 34 92 ∷ []) ≡ (true ∷ true ∷ false ∷ false ∷ false ∷ [])
a_backslash_takes_a_quote_or_a_backslash = refl

-- a byte comes before the rest of its text, and takes as many bytes as its escape; a text that nothing ends stays none
a_byte_before_the_rest : map (put_byte 4 65) (None ∷ Some (quoted_as (codes "bc") 3) ∷ []) ≡ (None ∷ Some (quoted_as (codes "Abc") 7) ∷ [])
a_byte_before_the_rest = refl

-- the opening quote counts; a text that nothing ends takes all the rest
pieces_of_texts : map (text_piece (codes "ab\"c")) (None ∷ Some (quoted_as (codes "ab") 3) ∷ []) ≡ (piece 5 lexeme.Bad ∷ piece 4 (lexeme.Literal (Of (value.Text (codes "ab")))) ∷ [])
pieces_of_texts = refl

-- each token that is no word
tokens : lexemes_of (codes "== != < <= > >= && || ! ( )") ≡ (lexeme.Rel Eq ∷ lexeme.Rel Ne ∷ lexeme.Rel Lt ∷ lexeme.Rel Le ∷ lexeme.Rel Gt ∷ lexeme.Rel Ge ∷ lexeme.And ∷ lexeme.Or ∷ lexeme.Not ∷ lexeme.Open ∷ lexeme.Close ∷ lexeme.End ∷ [])
unfolding piece_of word_lexeme literal_read moment_of
tokens = refl

-- the longest token is taken
longest : lexemes_of (codes "a<==!=&&&|a%") ≡ (lexeme.Pick (Named (codes "a")) ∷ lexeme.Rel Le ∷ lexeme.Unknown ∷ lexeme.Rel Ne ∷ lexeme.And ∷ lexeme.Unknown ∷ lexeme.Unknown ∷ lexeme.Pick (Named (codes "a")) ∷ lexeme.Unknown ∷ lexeme.End ∷ [])
unfolding piece_of word_lexeme literal_read moment_of
longest = refl

-- an `&` begins a word where no `&` follows
ampersands : lexemes_of (codes "&time&&type") ≡ (lexeme.Pick EventTime ∷ lexeme.And ∷ lexeme.Pick (Named (codes "type")) ∷ lexeme.End ∷ [])
unfolding piece_of word_lexeme literal_read moment_of
ampersands = refl

-- escapes in texts; the first quote that no escape takes ends one
quoted : lexemes_of (codes "\"\" \"a\\\"b\" \"\\\\\" \"\\x41\\n\" \"\\x4\" \"a\"b") ≡ (lexeme.Literal (Of (value.Text [])) ∷ lexeme.Literal (Of (value.Text (codes "a\"b"))) ∷ lexeme.Literal (Of (value.Text (codes "\\"))) ∷ lexeme.Literal (Of (value.Text (codes "A\\n"))) ∷ lexeme.Literal (Of (value.Text (codes "\\x4"))) ∷ lexeme.Literal (Of (value.Text (codes "a"))) ∷ lexeme.Pick (Named (codes "b")) ∷ lexeme.End ∷ [])
unfolding piece_of word_lexeme literal_read moment_of
quoted = refl

abbrev token : ℕ → Lexeme → Token
token at lexeme = record { at = at; lexeme = lexeme }

-- where tokens stand
places : map (λ token. token.at) (tokens_of (codes " ab  ==\n\"x\"")) ≡ (1 ∷ 5 ∷ 8 ∷ 11 ∷ [])
unfolding piece_of word_lexeme literal_read moment_of
places = refl

-- a text that nothing ends goes to the end and is bad
open_text : tokens_of (codes "\"a ==\\") ≡ (token 0 lexeme.Bad ∷ token 6 lexeme.End ∷ [])
unfolding piece_of word_lexeme literal_read moment_of
open_text = refl

-- the relation of the reversed form
turned_relations : (turned Eq ∷ turned Ne ∷ turned Lt ∷ turned Le ∷ turned Gt ∷ turned Ge ∷ turned Within ∷ turned Contains ∷ []) ≡ (Eq ∷ Ne ∷ Gt ∷ Ge ∷ Lt ∷ Le ∷ Contains ∷ Within ∷ [])
turned_relations = refl

abbrev fault_in : Result Expr QueryFault → Option (ℕ × QueryWhat)
fault_in (Ok e) = None
fault_in (Err f) = Some (f.at, f.what)

-- a token that can't continue, a byte of no token, and the end
unexpected : (fault_in (parsed (codes "")) ∷ fault_in (parsed (codes "  ")) ∷ fault_in (parsed (codes "a ==")) ∷ fault_in (parsed (codes "[a")) ∷ fault_in (parsed (codes "a == 1 & b == 2")) ∷ fault_in (parsed (codes "a = 1")) ∷ fault_in (parsed (codes "nil < )")) ∷ fault_in (parsed (codes "a? == 1")) ∷ fault_in (parsed (codes "a == 1 )")) ∷ fault_in (parsed (codes "a == 1 b")) ∷ fault_in (parsed (codes "a b")) ∷ fault_in (parsed (codes "1 == 2")) ∷ []) ≡ (Some (0, Unexpected) ∷ Some (2, Unexpected) ∷ Some (4, Unexpected) ∷ Some (0, Unexpected) ∷ Some (7, Unexpected) ∷ Some (2, Unexpected) ∷ Some (6, Unexpected) ∷ Some (0, Unexpected) ∷ Some (7, Unexpected) ∷ Some (7, Unexpected) ∷ Some (2, Unexpected) ∷ Some (5, Unexpected) ∷ [])
unfolding parsed piece_of word_lexeme literal_read moment_of
unexpected = refl

-- a word or a text that begins like a literal and is none
bad_literals : (fault_in (parsed (codes "a == 1.2.3")) ∷ fault_in (parsed (codes "a == \"x")) ∷ fault_in (parsed (codes "a 1.2.3")) ∷ fault_in (parsed (codes "a == +5s")) ∷ fault_in (parsed (codes ":foo == 1")) ∷ fault_in (parsed (codes "a == 1 @")) ∷ fault_in (parsed (codes "!5a")) ∷ fault_in (parsed (codes "@2016-02-30T00:00:00Z == &time")) ∷ []) ≡ (Some (5, BadLiteral) ∷ Some (5, BadLiteral) ∷ Some (2, BadLiteral) ∷ Some (5, BadLiteral) ∷ Some (0, BadLiteral) ∷ Some (7, BadLiteral) ∷ Some (1, BadLiteral) ∷ Some (0, BadLiteral) ∷ [])
unfolding parsed piece_of word_lexeme literal_read moment_of
bad_literals = refl

-- a clash stands at the test's literal, and before what follows
clashes : (fault_in (parsed (codes "a < \"x\"")) ∷ fault_in (parsed (codes "nil in a")) ∷ fault_in (parsed (codes "\"x\" == :addr && %")) ∷ fault_in (parsed (codes "a == 1 && b < T && %")) ∷ fault_in (parsed (codes "a == 1 || b == 2")) ∷ []) ≡ (Some (4, KindClash) ∷ Some (0, KindClash) ∷ Some (0, KindClash) ∷ Some (14, KindClash) ∷ None ∷ [])
unfolding parsed piece_of word_lexeme literal_read moment_of
clashes = refl

-- 64 open `!` and parentheses, and the 65th; a `!` is open to the end of its unit
depths : (fault_in (parsed (replicate 64 33 ++ (codes "a==1"))) ∷ fault_in (parsed (replicate 65 33 ++ (codes "a==1"))) ∷ fault_in (parsed (replicate 64 40 ++ ((codes "a==1") ++ replicate 64 41))) ∷ fault_in (parsed (replicate 65 40)) ∷ fault_in (parsed (replicate 63 40 ++ ((codes "!a==1&&!b==1||!c==1") ++ replicate 63 41))) ∷ fault_in (parsed (replicate 63 40 ++ (codes "!!a==1"))) ∷ fault_in (parsed (replicate 64 40 ++ ((codes "a==1") ++ (replicate 65 41 ++ (codes "%"))))) ∷ []) ≡ (None ∷ Some (64, TooDeep) ∷ None ∷ Some (64, TooDeep) ∷ None ∷ Some (64, TooDeep) ∷ Some (132, Unexpected) ∷ [])
unfolding parsed piece_of word_lexeme literal_read moment_of
depths = refl

abbrev asked : Pick → Rel → Literal → Expr
asked pick rel literal = roll-Expr (level.Test (record { pick = pick; rel = rel; literal = literal }))

abbrev test : List ℕ → Rel → ℕ → Expr
test name rel n = asked (Named name) rel (Of (value.Count n))

-- Reading from left to right

abbrev one : Expr
one = test (codes "a") Eq 1

abbrev two : Expr
two = test (codes "b") Lt 2

abbrev three : Expr
three = test (codes "c") Gt 3

abbrev negation : Expr → Expr
negation e = roll-Expr (level.Not e)

abbrev all_of : List Expr → Expr
all_of members = roll-Expr (level.And members)

abbrev some_of : List Expr → Expr
some_of members = roll-Expr (level.Or members)

abbrev group : List Expr → List Expr → ℕ → Group
group ors ands nots = record { ors = ors; ands = ands; nots = nots }

abbrev parser : List Group → Group → ℕ → Phase → Parser
parser outer group depth phase = record { outer = outer; group = group; depth = depth; phase = phase }

abbrev fault_of : ℕ → QueryWhat → QueryFault
fault_of at what = record { at = at; what = what }

one_member_stands_for_itself : (joined_and (one ∷ []) ∷ joined_or (one ∷ []) ∷ joined_and (one ∷ two ∷ []) ∷ joined_or (one ∷ two ∷ []) ∷ []) ≡ (one ∷ one ∷ all_of (one ∷ two ∷ []) ∷ some_of (one ∷ two ∷ []) ∷ [])
one_member_stands_for_itself = refl

a_test_of_its_parts : test_of EventTime Lt Nil ≡ record { pick = EventTime; rel = Lt; literal = Nil }
a_test_of_its_parts = refl

at_most_64_are_open : most_open ≡ 64
at_most_64_are_open = refl

nothing_is_read_at_first : (fresh ≡ group [] [] 0) × (start ≡ parser [] (group [] [] 0) 0 Start)
nothing_is_read_at_first = (refl, refl)

behind_each_not : map (λ nots. negated nots one) (0 ∷ 1 ∷ 2 ∷ []) ≡ (one ∷ negation one ∷ negation (negation one) ∷ [])
behind_each_not = refl

-- `a == 1 || b < 2 && c > 3`, and one member alone
what_a_group_stands_for : map group_expr (group (one ∷ []) (two ∷ three ∷ []) 0 ∷ group [] (one ∷ []) 0 ∷ []) ≡ (some_of (one ∷ all_of (two ∷ three ∷ []) ∷ []) ∷ one ∷ [])
what_a_group_stands_for = refl

-- a unit is the last member of `&&`, behind each `!` before it, and these are no longer open
the_nots_end_with_their_unit : (with_unit (group (one ∷ []) (two ∷ []) 2) three ≡ group (one ∷ []) (two ∷ negation (negation three) ∷ []) 0) × (behind_unit (fresh ∷ []) (group [] [] 2) 5 one ≡ parser (fresh ∷ []) (group [] (negation (negation one) ∷ []) 0) 3 Whole)
the_nots_end_with_their_unit = (refl, refl)

the_phase_alone_is_new : in_phase (parser (fresh ∷ []) (group [] (one ∷ []) 1) 2 Start) Whole ≡ parser (fresh ∷ []) (group [] (one ∷ []) 1) 2 Whole
the_phase_alone_is_new = refl

faults_at_a_place : (fault 9 TooDeep ≡ Err (fault_of 9 TooDeep)) × (end_fault 9 ≡ Err (fault_of 9 Unexpected))
faults_at_a_place = (refl, refl)

a_bad_literal_is_told_before_what_is_unexpected : map (refused 9) (lexeme.Bad ∷ lexeme.Unknown ∷ lexeme.Close ∷ []) ≡ (Err (fault_of 9 BadLiteral) ∷ Err (fault_of 9 Unexpected) ∷ Err (fault_of 9 Unexpected) ∷ [])
a_bad_literal_is_told_before_what_is_unexpected = refl

-- `! a == 1`, and `! a < nil`
a_test_that_clashes_is_a_fault : map (with_test (parser [] (group [] [] 1) 1 Start) 9) (test_of (Named (codes "a")) Eq (Of (value.Count 1)) ∷ test_of (Named (codes "a")) Lt Nil ∷ []) ≡ (Ok (parser [] (group [] (negation one ∷ []) 0) 0 Whole) ∷ Err (fault_of 9 KindClash) ∷ [])
a_test_that_clashes_is_a_fault = refl

-- 64 open constructs are the most, in all and of `!` before one unit
may_one_more_open : map may_open (parser [] (group [] [] 63) 63 Start ∷ parser [] fresh 64 Start ∷ parser [] (group [] [] 64) 63 Start ∷ []) ≡ (true ∷ false ∷ false ∷ [])
may_one_more_open = refl

a_not_opens : (not_opened (parser (fresh ∷ []) (group (one ∷ []) (two ∷ []) 1) 63 Whole) 9 ∷ not_opened (parser [] fresh 64 Start) 9 ∷ []) ≡ (Ok (parser (fresh ∷ []) (group (one ∷ []) (two ∷ []) 2) 64 Start) ∷ Err (fault_of 9 TooDeep) ∷ [])
a_not_opens = refl

a_group_opens_as_the_last : (group_opened (parser (fresh ∷ []) (group (one ∷ []) [] 1) 63 Whole) 9 ∷ group_opened (parser [] fresh 64 Start) 9 ∷ []) ≡ (Ok (parser (fresh ∷ group (one ∷ []) [] 1 ∷ []) fresh 64 Start) ∷ Err (fault_of 9 TooDeep) ∷ [])
a_group_opens_as_the_last = refl

abbrev at_one : Literal
at_one = Of (value.Time (pos 1))

-- each kind of token but the end
abbrev every_lexeme : List Lexeme
every_lexeme = lexeme.Pick EventTime ∷ lexeme.Rel Lt ∷ lexeme.Literal at_one ∷ lexeme.And ∷ lexeme.Or ∷ lexeme.Not ∷ lexeme.Open ∷ lexeme.Close ∷ lexeme.Bad ∷ lexeme.Unknown ∷ []

abbrev unexpected_here : Result Parser QueryFault
unexpected_here = Err (fault_of 9 Unexpected)

abbrev bad_here : Result Parser QueryFault
bad_here = Err (fault_of 9 BadLiteral)

-- what comes of each token in each phase: of the unit's first, of a pick, of a pick and a relation, of a literal at 3, of a
-- literal at 3 and a relation, and of a whole unit
a_unit_begins : map (unit_next start 9) every_lexeme
    ≡ (Ok (parser [] fresh 0 (Picked EventTime)) ∷ unexpected_here ∷ Ok (parser [] fresh 0 (Valued at_one 9)) ∷ unexpected_here ∷ unexpected_here ∷ Ok (parser [] (group [] [] 1) 1 Start) ∷ Ok (parser (fresh ∷ []) fresh 1 Start) ∷ unexpected_here ∷ bad_here ∷ unexpected_here ∷ [])
a_unit_begins = refl

a_relation_follows_a_pick : map (relation_next start EventTime 9) every_lexeme
    ≡ (unexpected_here ∷ Ok (parser [] fresh 0 (Related EventTime Lt)) ∷ unexpected_here ∷ unexpected_here ∷ unexpected_here ∷ unexpected_here ∷ unexpected_here ∷ unexpected_here ∷ bad_here ∷ unexpected_here ∷ [])
a_relation_follows_a_pick = refl

a_literal_ends_a_test : map (literal_next start EventTime Ge 9) every_lexeme
    ≡ (unexpected_here ∷ unexpected_here ∷ Ok (parser [] (group [] (asked EventTime Ge at_one ∷ []) 0) 0 Whole) ∷ unexpected_here ∷ unexpected_here ∷ unexpected_here ∷ unexpected_here ∷ unexpected_here ∷ bad_here ∷ unexpected_here ∷ [])
a_literal_ends_a_test = refl

a_relation_follows_a_literal : map (turned_next start Nil 3 9) every_lexeme
    ≡ (unexpected_here ∷ Ok (parser [] fresh 0 (Reversed Nil 3 Lt)) ∷ unexpected_here ∷ unexpected_here ∷ unexpected_here ∷ unexpected_here ∷ unexpected_here ∷ unexpected_here ∷ bad_here ∷ unexpected_here ∷ [])
a_relation_follows_a_literal = refl

a_pick_ends_a_turned_test : map (pick_next start at_one 3 Le 9) every_lexeme
    ≡ (Ok (parser [] (group [] (asked EventTime Ge at_one ∷ []) 0) 0 Whole) ∷ unexpected_here ∷ unexpected_here ∷ unexpected_here ∷ unexpected_here ∷ unexpected_here ∷ unexpected_here ∷ unexpected_here ∷ bad_here ∷ unexpected_here ∷ [])
a_pick_ends_a_turned_test = refl

more_or_the_end_follows_a_unit : map (whole_next (parser [] (group (one ∷ []) (two ∷ three ∷ []) 0) 0 Whole) 9) every_lexeme
    ≡ (unexpected_here ∷ unexpected_here ∷ unexpected_here ∷ Ok (parser [] (group (one ∷ []) (two ∷ three ∷ []) 0) 0 Start) ∷ Ok (parser [] (group (one ∷ all_of (two ∷ three ∷ []) ∷ []) [] 0) 0 Start) ∷ unexpected_here ∷ unexpected_here ∷ unexpected_here ∷ bad_here ∷ unexpected_here ∷ [])
more_or_the_end_follows_a_unit = refl

-- a clash is at the literal, which ends a test or began it
a_clash_is_at_the_literal : (literal_next start EventTime Lt 9 (lexeme.Literal Nil) ∷ pick_next start Nil 3 Lt 9 (lexeme.Pick EventTime) ∷ []) ≡ (Err (fault_of 9 KindClash) ∷ Err (fault_of 3 KindClash) ∷ [])
a_clash_is_at_the_literal = refl

the_last_group_is_split_off : map split_last ([] ∷ (fresh ∷ []) ∷ (group (one ∷ []) [] 0 ∷ group (two ∷ []) [] 0 ∷ fresh ∷ []) ∷ []) ≡ (None ∷ Some ([], fresh) ∷ Some (group (one ∷ []) [] 0 ∷ group (two ∷ []) [] 0 ∷ [], fresh) ∷ [])
the_last_group_is_split_off = refl

-- `! (a == 1 && b < 2` and then `)`, within one more group; without an open group it is unexpected
a_group_closes : map (closed (parser (fresh ∷ group [] [] 1 ∷ []) (group [] (one ∷ two ∷ []) 0) 3 Whole) 9) (Some (fresh ∷ [], group [] [] 1) ∷ None ∷ []) ≡ (Ok (parser (fresh ∷ []) (group [] (negation (all_of (one ∷ two ∷ [])) ∷ []) 0) 1 Whole) ∷ unexpected_here ∷ [])
a_group_closes = refl

a_parenthesis_closes_the_last_group : whole_next (parser (fresh ∷ group [] [] 1 ∷ []) (group [] (one ∷ []) 0) 3 Whole) 9 lexeme.Close ≡ Ok (parser (fresh ∷ []) (group [] (negation one ∷ []) 0) 1 Whole)
a_parenthesis_closes_the_last_group = refl

-- the token that each phase waits for
each_phase_has_its_token : (next start Start 9 lexeme.Not ∷ next start (Picked EventTime) 9 (lexeme.Rel Lt) ∷ next start (Related EventTime Ge) 9 (lexeme.Literal at_one) ∷ next start (Valued Nil 3) 9 (lexeme.Rel Lt) ∷ next start (Reversed at_one 3 Le) 9 (lexeme.Pick EventTime) ∷ next (parser [] (group [] (one ∷ []) 0) 0 Whole) Whole 9 lexeme.And ∷ [])
    ≡ (Ok (parser [] (group [] [] 1) 1 Start) ∷ Ok (parser [] fresh 0 (Related EventTime Lt)) ∷ Ok (parser [] (group [] (asked EventTime Ge at_one ∷ []) 0) 0 Whole) ∷ Ok (parser [] fresh 0 (Reversed Nil 3 Lt)) ∷ Ok (parser [] (group [] (asked EventTime Ge at_one ∷ []) 0) 0 Whole) ∷ Ok (parser [] (group [] (one ∷ []) 0) 0 Start) ∷ [])
each_phase_has_its_token = refl

-- a text may end behind a whole unit, where no group is open
an_open_group_has_no_end : map (λ outer. finished_in outer (group (one ∷ []) (two ∷ []) 0) 9) ([] ∷ (fresh ∷ []) ∷ []) ≡ (Ok (some_of (one ∷ two ∷ [])) ∷ end_fault 9 ∷ [])
an_open_group_has_no_end = refl

a_whole_unit_alone_may_end : map (λ phase. finished (parser [] (group [] (one ∷ []) 0) 0 phase) phase 9) (Whole ∷ Start ∷ Picked EventTime ∷ Related EventTime Lt ∷ Valued Nil 3 ∷ Reversed Nil 3 Lt ∷ []) ≡ (Ok one ∷ end_fault 9 ∷ end_fault 9 ∷ end_fault 9 ∷ end_fault 9 ∷ end_fault 9 ∷ [])
a_whole_unit_alone_may_end = refl

the_end_alone_is_the_end : filter is_end (lexeme.End ∷ every_lexeme) ≡ lexeme.End ∷ []
the_end_alone_is_the_end = refl

what_was_read_goes_on_and_a_fault_stays : map (λ read. and_then read (λ p. finished_in p.outer p.group 9)) (Ok (parser [] (group [] (one ∷ []) 0) 0 Whole) ∷ Err (fault_of 3 TooDeep) ∷ []) ≡ (Ok one ∷ Err (fault_of 3 TooDeep) ∷ [])
what_was_read_goes_on_and_a_fault_stays = refl

-- `&time >= ` and then a literal, an end, and what stands behind these
tokens_are_read_up_to_the_end_or_a_fault : map (λ more. run start (token 0 (lexeme.Pick EventTime) ∷ token 6 (lexeme.Rel Ge) ∷ more)) ((token 9 (lexeme.Literal at_one) ∷ token 10 lexeme.End ∷ token 11 lexeme.Bad ∷ []) ∷ (token 9 lexeme.End ∷ []) ∷ (token 9 lexeme.Bad ∷ token 10 lexeme.End ∷ []) ∷ []) ≡ (Ok (asked EventTime Ge at_one) ∷ Err (fault_of 9 Unexpected) ∷ Err (fault_of 9 BadLiteral) ∷ [])
tokens_are_read_up_to_the_end_or_a_fault = refl

-- members make one list, `!` binds tightest and `||` weakest, parentheses leave no node, and the reversed form is turned
trees : (parsed (codes "a==1&&b==2&&c==3") ∷ parsed (codes "a==1||!b==2&&c==3") ∷ parsed (codes "(a==1&&b==2)&&c==3") ∷ parsed (codes "((a>3))") ∷ parsed (codes "3<a") ∷ [])
    ≡ (Ok (roll-Expr (level.And (test (codes "a") Eq 1 ∷ test (codes "b") Eq 2 ∷ test (codes "c") Eq 3 ∷ [])))
    ∷ Ok (roll-Expr (level.Or (test (codes "a") Eq 1 ∷ roll-Expr (level.And (roll-Expr (level.Not (test (codes "b") Eq 2)) ∷ test (codes "c") Eq 3 ∷ [])) ∷ [])))
    ∷ Ok (roll-Expr (level.And (roll-Expr (level.And (test (codes "a") Eq 1 ∷ test (codes "b") Eq 2 ∷ [])) ∷ test (codes "c") Eq 3 ∷ [])))
    ∷ Ok (test (codes "a") Gt 3) ∷ Ok (test (codes "a") Gt 3) ∷ [])
unfolding parsed piece_of word_lexeme literal_read moment_of
trees = refl

-- the most bytes, and one more
longest_query : (most_bytes ≡ 65536) × (fault_in (parsed (replicate 65537 32)) ≡ Some (65536, TooLong))
unfolding parsed piece_of word_lexeme literal_read moment_of
longest_query = (refl, refl)

-- which names and literals can be written: no reserved word, and each value in its type's range but one of an enum
writable : (is_writable (lexeme.Pick (Named (codes "in"))) ∷ is_writable (lexeme.Pick (Named (codes "ni"))) ∷ is_writable (lexeme.Pick (Named (codes "nil"))) ∷ is_writable (lexeme.Pick (Named (codes "T"))) ∷ is_writable (lexeme.Pick (Named (codes "F"))) ∷ is_writable (lexeme.Pick (Named (codes "9a"))) ∷ is_writable (lexeme.Pick (Named (codes "inn"))) ∷ is_writable (lexeme.Literal (Of (value.Count 18446744073709551615))) ∷ is_writable (lexeme.Literal (Of (value.Count 18446744073709551616))) ∷ is_writable (lexeme.Literal (Of (value.Name (codes "a")))) ∷ is_writable (lexeme.Literal (Of (value.Text (255 ∷ [])))) ∷ is_writable (lexeme.Literal Nil) ∷ []) ≡ (false ∷ false ∷ false ∷ false ∷ false ∷ false ∷ true ∷ true ∷ false ∷ false ∷ true ∷ true ∷ [])
writable = refl

-- the text of a query: a blank behind each token, and the bytes of a text as `\xHH`
query_texts : (query_text (Only (Lone (Negated (Plain (OfKind elem.Text) Eq (Of (value.Text (codes "a\""))))))) ∷ query_text (Only (Both (Plain (Named (codes "a")) Within Nil) (Lone (Grouped (Only (Lone (Turned (Of (value.Port 53 Udp)) Ge EventTime))))))) ∷ []) ≡ ((codes "! :string == \"\\x61\\x22\" ") ∷ (codes "a in nil && ( 53/udp >= &time ) ") ∷ [])
unfolding digits
query_texts = refl
