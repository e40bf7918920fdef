use Rattle.stream_steps.proofs.ShownSteps.{show_bit_keeps_steps}
use Rattle.stream_steps.proofs.laws.show_bits_keep_steps.Goals as goal

pub returns : goal.returns
returns c = show_bit_keeps_steps c.only_the_show_bit_changes.ensures.tag c.only_the_show_bit_changes.ensures.rest
