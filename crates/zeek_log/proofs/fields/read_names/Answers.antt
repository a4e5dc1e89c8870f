use Rattle.zeek_log.specs.Lines.{pieces_of}
use Rattle.zeek_log.proofs.PieceLemmas.{names_named}
use Rattle.zeek_log.proofs.fields.read_names.Goals as goal

pub invariant_of-result : goal.invariant_of-result
invariant_of-result c = record {
  named = names_named c.args.separator (pieces_of c.args.separator c.args.text.now) c.loop-rest.items c.loop-rest.rest
      c.loop-rest.invariant.read c.loop-rest.invariant.all c.in_default.is c.loop-rest.invariant.short;
}
