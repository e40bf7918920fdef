use Rattle.mode_parser.proofs.TakenBits.{bits-taken, bits-add_up}
use Rattle.mode_parser.proofs.laws.record_bits_add_up.Goals as goal

pub returns : goal.returns
returns c = record { each = bits-taken; all = bits-add_up }
