use Rattle.macroblock_lists.proofs.KnownOfStates.{modes_known, over_packets}
use Rattle.macroblock_lists.proofs.laws.known_is_decoded.Goals as goal

pub returns : goal.returns
returns c = record { progress = over_packets; modes = modes_known }
