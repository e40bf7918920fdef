use Rattle.packet_edits.proofs.Shown.{indexes_are_shown, shown_ascend, shown_have_places}
use Rattle.packet_edits.proofs.laws.shown_list_is_of_shown_packets.Goals as goal

pub returns : goal.returns
returns c = record { each_is_shown = indexes_are_shown; each_is_listed = shown_have_places; ascends = shown_ascend }
