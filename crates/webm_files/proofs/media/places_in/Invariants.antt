use Rattle.std.proofs.Common.{◌≡◌, ◌++◌, drop}
use Rattle.webm_files.specs.Packets.{places_in}
use Rattle.webm_files.proofs.media.places_in.Given as goal

abbrev pub invariant-loop-block : goal.invariant-loop-block
invariant-loop-block l = places_in l.video l.blocks ≡ l.places.items ++ places_in l.video (drop l.block-index l.blocks)
