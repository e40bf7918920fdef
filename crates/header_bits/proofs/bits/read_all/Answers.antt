use Rattle.std.proofs.Common.{sym, ◌∙◌}
use Rattle.header_bits.proofs.CopyLemmas.{copies-at}
use Rattle.header_bits.proofs.bits.read_all.Goals as goal

pub returns-clause-copies : goal.returns-clause-copies
returns-clause-copies c =
    c.read_references-copies.ensures.copies ∙ sym (copies-at c.args.is_key _ _ _ _ _ c.read_first.ensures c.read_quantizers-quantizers.ensures)
