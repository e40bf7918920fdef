use Rattle.std.proofs.Common.{◌∙◌, ℕ}
use Rattle.std.specs.Option.{option_copied}
use Rattle.intra_predict.specs.Blocks.{IsBlock}
use Rattle.reference_frames.specs.Restored.{restored}
use Rattle.reference_frames.specs.Unfiltered.{sub_block_sample, sub_column, sub_row}
use Rattle.reference_frames.proofs.Blocks.{restored_block, written_block}
use Rattle.reference_frames.proofs.prediction.predict_sub_block.Goals as goal

pub returns-clause-value : goal.returns-clause-value
returns-clause-value c =
    let sample : ℕ → ℕ → ℕ = sub_block_sample c.args.plane.now.shown c.args.mx c.args.my c.args.block c.args.mode in
    let is : IsBlock 4 sample c.sub-samples.result = rw (← c.read_left.ensures, ← c.sample_corner.ensures, ← c.read_above_eight.ensures) c.sub-samples.ensures in
    let residual = option_copied c.args.residual in
    c.write_block.ensures.value
    ∙ written_block c.args.plane.now.shown (sub_column c.args.mx c.args.block) (sub_row c.args.my c.args.block) 4 c.add_to_sub_block.new.samples (restored 4 c.args.block residual sample)
    (restored_block 4 c.args.block residual sample c.sub-samples.result c.add_to_sub_block.new.samples is c.add_to_sub_block.ensures)
