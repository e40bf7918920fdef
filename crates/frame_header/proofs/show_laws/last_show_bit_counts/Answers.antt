use Rattle.frame_header.proofs.ShowBytes.{last_bit}
use Rattle.frame_header.proofs.ShowTags.{own_bit_stays}
use Rattle.frame_header.proofs.show_laws.last_show_bit_counts.Goals as goal

pub returns : goal.returns
returns c = record { own = own_bit_stays; last = last_bit }
