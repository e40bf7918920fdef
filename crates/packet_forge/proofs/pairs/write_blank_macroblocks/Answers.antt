use Rattle.packet_forge.specs.Pairs.{blank_macroblock}
use Rattle.packet_forge.proofs.Written.{macroblocks_none, macroblocks_more}
use Rattle.packet_forge.proofs.pairs.write_blank_macroblocks.Goals as goal

pub loop-place-init : goal.loop-place-init
loop-place-init c = macroblocks_none (λ place. blank_macroblock) c.args.encoder.now

pub loop-place-preserved : goal.loop-place-preserved
loop-place-preserved c = macroblocks_more (λ place. blank_macroblock) c.loop-place._place _ _ _ c.loop-place.invariant c.in_ok-write_pairs.ensures
