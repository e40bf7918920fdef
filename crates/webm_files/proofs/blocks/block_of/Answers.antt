use Rattle.std.proofs.Common.{◌∙◌, sym}
use Rattle.webm_files.proofs.Steps.{block_of-block, block_of-other}
use Rattle.webm_files.proofs.blocks.block_of.Goals as goal

pub returns-then-is_block-clause-block : goal.returns-then-is_block-clause-block
returns-then-is_block-clause-block c = c.block_in.ensures.block ∙ block_of-block _ _ _ (sym c.is_block.ensures ∙ c.if-is_block.true)

pub returns-else-is_block-clause-block : goal.returns-else-is_block-clause-block
returns-else-is_block-clause-block c = block_of-other _ _ _ (sym c.is_block.ensures ∙ c.if-is_block.false)
