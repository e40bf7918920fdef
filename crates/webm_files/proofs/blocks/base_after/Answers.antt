use Rattle.std.proofs.Common.{◌∙◌}
use Rattle.webm_files.proofs.Steps.{base_after-other, base_after-timestamp}
use Rattle.webm_files.proofs.blocks.base_after.Goals as goal

pub returns-then-element-ne-TIMESTAMP : goal.returns-then-element-ne-TIMESTAMP
returns-then-element-ne-TIMESTAMP c = base_after-other _ _ _ c.if-element-ne-TIMESTAMP.true

pub returns : goal.returns
returns c = c.whole_number.ensures ∙ base_after-timestamp _ _ _ c.if-element-ne-TIMESTAMP.false
