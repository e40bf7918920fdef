use Rattle.std.proofs.Common.{◌<◌, length, arith, refl, length-set}
use Rattle.mode_parser.proofs.Steps.{first_vectors-none, first_vectors-more, are_starts-at}
use Rattle.mode_parser.proofs.split_vectors.read_block_vectors.Goals as goal

pub loop-n-init : goal.loop-n-init
loop-n-init c = record { same = rw c.copied-local.ensures (first_vectors-none _ _ _ _ _ _); room = refl }

pub read_block_vector-requires-clause-starts : goal.read_block_vector-requires-clause-starts
read_block_vector-requires-clause-starts c =
    let inside = are_starts-at 0 c.args.starts.now c.loop-n.n c.requires.starts in omega (arith, inside)

pub loop-n-preserved : goal.loop-n-preserved
loop-n-preserved c =
    let below : c.loop-n.n < length c.loop-n.vectors = omega (arith, c.loop-n.invariant.room) in
    record {
      same = first_vectors-more _ _ _ _ _ _ _ _ _ _ _ below c.loop-n.invariant.same c.read_block_vector.ensures;
      room = rw length-set c.loop-n.invariant.room;
    }
