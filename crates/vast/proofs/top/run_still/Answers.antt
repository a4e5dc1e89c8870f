use Rattle.std.proofs.Common.{map}
use Rattle.std.specs.String.{string_bytes}
use Rattle.vast.specs.Words.{command_of}
use Rattle.vast.proofs.StepsLemmas.{completes_words}
use Rattle.vast.proofs.top.run_still.Goals as goal

pub returns-clause-complete : goal.returns-clause-complete
returns-clause-complete g c = completes_words (command_of (map string_bytes c.args.words.now)) _ _ _ c.run_words.ensures.does
