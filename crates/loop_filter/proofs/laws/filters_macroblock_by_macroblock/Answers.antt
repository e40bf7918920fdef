use Rattle.loop_filter.proofs.Raster.{macroblock_by_macroblock}
use Rattle.loop_filter.proofs.laws.filters_macroblock_by_macroblock.Goals as goal

pub returns : goal.returns
returns c = macroblock_by_macroblock
