use Rattle.frame_header.proofs.ShowTags.{only_the_bit_changes, show_bit_says, tag_has_show_bit}
use Rattle.frame_header.proofs.show_laws.only_the_show_bit_changes.Goals as goal

pub returns : goal.returns
returns c = record { tag = tag_has_show_bit; says = show_bit_says; rest = only_the_bit_changes }
