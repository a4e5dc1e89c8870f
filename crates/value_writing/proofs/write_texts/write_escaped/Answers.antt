use Rattle.value_writing.specs.declared.place.Place.TheVariants.{Whole}
use Rattle.value_writing.proofs.WritingTexts.{bytes_again, bytes_printable}
use Rattle.value_writing.proofs.write_texts.write_escaped.Goals as goal

pub returns-then-is_err-clause-printable : goal.returns-then-is_err-clause-printable
returns-then-is_err-clause-printable c = bytes_printable Whole c.args.text.now c.ranged_bytes.ensures

pub returns-else-is_err-clause-printable : goal.returns-else-is_err-clause-printable
returns-else-is_err-clause-printable c = bytes_printable Whole c.args.text.now c.ranged_bytes.ensures

pub returns-then-is_err-clause-read_back : goal.returns-then-is_err-clause-read_back
returns-then-is_err-clause-read_back c = bytes_again Whole c.args.text.now c.ranged_bytes.ensures

pub returns-else-is_err-clause-read_back : goal.returns-else-is_err-clause-read_back
returns-else-is_err-clause-read_back c = bytes_again Whole c.args.text.now c.ranged_bytes.ensures
