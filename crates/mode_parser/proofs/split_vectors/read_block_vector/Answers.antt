use Rattle.std.proofs.Common.{arith}
use Rattle.mode_parser.proofs.InterTrees.{block_vector-later, block_vector-first}
use Rattle.mode_parser.proofs.split_vectors.read_block_vector.Goals as goal

pub returns-then-start-n : goal.returns-then-start-n
returns-then-start-n c = block_vector-later _ _ _ _ _ _ _ _ _ c.if-start-n.true (omega (arith, c.told-vectors, c.requires.inside, c.if-start-n.true))

pub returns : goal.returns
returns c = block_vector-first _ _ _ _ _ _ _ _ _ _ _ _ c.requires.starts c.if-start-n.false c.vector_left-neighbour.ensures c.vector_above-over.ensures c.read_part_vector.ensures
