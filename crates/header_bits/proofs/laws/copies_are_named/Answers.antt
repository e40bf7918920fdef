use Rattle.header_bits.proofs.CopyLemmas.{copies_are_named}
use Rattle.header_bits.proofs.laws.copies_are_named.Goals as goal

pub returns : goal.returns
returns c = copies_are_named
