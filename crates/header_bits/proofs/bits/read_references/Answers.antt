use Rattle.header_bits.proofs.CopyLemmas.{references-end}
use Rattle.header_bits.proofs.bits.read_references.Goals as goal

pub returns-clause-after : goal.returns-clause-after
returns-clause-after c =
    let ends = references-end c.args.reader.now in
    rw c.if-is_key.false (rw (c.read_inter_copies-copies.ensures, c.skip-2.ensures.value) at ends)
