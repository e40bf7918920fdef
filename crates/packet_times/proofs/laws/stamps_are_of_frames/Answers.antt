use Rattle.packet_times.proofs.ShownStamps.{stamps_are_of_frames}
use Rattle.packet_times.proofs.laws.stamps_are_of_frames.Goals as goal

pub returns : goal.returns
returns c = stamps_are_of_frames
