use Rattle.std.proofs.Common.{◌≡◌, map, take}
use Rattle.bool_coder.specs.Reader.{started}
use Rattle.macroblock_lists.proofs.tokens.readers_of.Given as goal

abbrev pub invariant-loop-text : goal.invariant-loop-text
invariant-loop-text l = l.readers.items ≡ map (λ text. started text.items) (take l.text-index l.texts)
