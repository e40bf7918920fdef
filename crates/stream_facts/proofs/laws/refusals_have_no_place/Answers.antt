use Rattle.stream_facts.proofs.PlaceLemmas.{refused_anywhere}
use Rattle.stream_facts.specs.Facts.{first_position}
use Rattle.stream_facts.proofs.laws.refusals_have_no_place.Goals as goal

pub returns : goal.returns
returns c = λ begins packets. refused_anywhere (first_position begins) 0 packets
