use Rattle.std.proofs.Common.{◌≡◌, Ok, None, map, take}
use Rattle.macroblock_lists.specs.Known.{progress_over}
use Rattle.macroblock_lists.proofs.listing.progress_over.Given as goal

abbrev pub invariant-loop-index : goal.invariant-loop-index
invariant-loop-index l = l.progress ≡ progress_over l.tables l.place (Ok None) (map (λ packet. packet.bytes) (take l.index l.packets))
