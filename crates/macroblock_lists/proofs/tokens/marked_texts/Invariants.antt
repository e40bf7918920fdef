use Rattle.std.proofs.Common.{◌≡◌, map, take}
use Rattle.macroblock_lists.specs.PartitionEnds.{marked_text}
use Rattle.macroblock_lists.proofs.tokens.marked_texts.Given as goal

abbrev pub invariant-loop-place : goal.invariant-loop-place
invariant-loop-place l = map (λ text. text.items) l.texts.items ≡ map (marked_text l.zeros l.packet) (take l.place-index l.partitions)
