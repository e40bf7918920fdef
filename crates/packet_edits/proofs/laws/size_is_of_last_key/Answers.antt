use Rattle.packet_edits.proofs.Keys.{size_of_last, size_of_none}
use Rattle.packet_edits.proofs.laws.size_is_of_last_key.Goals as goal

pub returns : goal.returns
returns c = record { of_last = size_of_last; of_none = size_of_none }
