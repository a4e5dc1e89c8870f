use Rattle.std.proofs.Common.{w8, eqb, take, arith}
use Rattle.std.proofs.lemmas.Simd.{bitmask_splat, length-chunk}
use Rattle.plain_cells.proofs.places.marks_of_32.Goals as goal

pub returns : goal.returns
returns c = bitmask_splat w8 eqb (take 32 c.args.text.now) 32 c.args.byte (length-chunk 0 32 c.args.text.now c.requires) (omega arith)
