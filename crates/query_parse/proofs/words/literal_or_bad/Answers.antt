use Rattle.std.proofs.lemmas.Str.{IsUtf8-from_ascii}
use Rattle.query_parse.proofs.words.literal_or_bad.Goals as goal

pub unreachable-requires : goal.unreachable-requires
unreachable-requires c = c.in_default.ensures.cases.0 (IsUtf8-from_ascii c.args.word.now c.requires)
