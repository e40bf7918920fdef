use Rattle.reference_frames.proofs.Padded.{padding_keeps_steps, zeros_keep_steps}
use Rattle.reference_frames.proofs.laws.zeros_keep_steps.Goals as goal

pub returns : goal.returns
returns c = record {
  zeros = zeros_keep_steps;
  padding = padding_keeps_steps;
}
