use Rattle.std.proofs.Common.{ℕ, ap, ◌∙◌}
use Rattle.std.specs.Option.{option_copied}
use Rattle.pixel_planes.specs.Pictures.{macroblocks}
use Rattle.macroblock_lists.specs.PartitionEnds.{zeros_for}
use Rattle.macroblock_lists.proofs.FrameSizes.{size-is}
use Rattle.macroblock_lists.proofs.readings.marked_first.Goals as goal

abbrev pub zeros_of_size : ℕ × ℕ → ℕ
zeros_of_size size = zeros_for (macroblocks size.0) (macroblocks size.1)

pub returns-in_default-clause-zeros : goal.returns-in_default-clause-zeros
returns-in_default-clause-zeros c = λ tables header accepted.
    rw (c.zeros_for-zeros.ensures.value, c.macroblocks.ensures.value, c.macroblocks-2.ensures.value)
    (ap zeros_of_size (c.size_before-width.ensures.value ∙ size-is tables (option_copied c.args.known) c.args.packet.now header accepted))

pub returns-clause-zeros : goal.returns-clause-zeros
returns-clause-zeros c = λ tables header accepted.
    rw (c.zeros_for-zeros.ensures.value, c.macroblocks.ensures.value, c.macroblocks-2.ensures.value)
    (ap zeros_of_size (c.size_before-width.ensures.value ∙ size-is tables (option_copied c.args.known) c.args.packet.now header accepted))
