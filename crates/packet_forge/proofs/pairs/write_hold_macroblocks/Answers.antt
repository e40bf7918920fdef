use Rattle.packet_forge.specs.Pairs.{hold_macroblock}
use Rattle.packet_forge.proofs.Written.{macroblocks_none, macroblocks_more}
use Rattle.packet_forge.proofs.pairs.write_hold_macroblocks.Goals as goal

pub loop-place-init : goal.loop-place-init
loop-place-init c = macroblocks_none (hold_macroblock c.args.columns) c.args.encoder.now

pub loop-place-preserved : goal.loop-place-preserved
loop-place-preserved c = macroblocks_more (hold_macroblock c.args.columns) c.loop-place.place _ _ _ c.loop-place.invariant c.in_ok-write_hold_macroblock.ensures
