use Rattle.std.proofs.Common.{◌≡◌, ◌+◌, drop}
use Rattle.std.specs.List.{prefix_len}
use Rattle.query_parse.specs.Lexemes.{is_word_byte}
use Rattle.query_parse.proofs.tokens.run_length.Given as goal

abbrev pub invariant-loop-at : goal.invariant-loop-at
invariant-loop-at l = prefix_len is_word_byte l.text ≡ l.at + prefix_len is_word_byte (drop l.at l.text)
