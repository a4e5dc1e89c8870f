use Rattle.runs_bitmap.proofs.RunLemmas.{bitwise-self}
use Rattle.runs_bitmap.proofs.bitmap.RunsBitmapBits.not.Goals as goal

pub returns : goal.returns
returns c = rw (bitwise-self c.args.self.now) at c.combined.ensures
