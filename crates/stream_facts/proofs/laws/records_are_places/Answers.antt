use Rattle.stream_facts.proofs.PlaceLemmas.{all_in_records}
use Rattle.stream_facts.specs.Facts.{facts_in}
use Rattle.stream_facts.proofs.laws.records_are_places.Goals as goal

pub returns : goal.returns
returns c = λ begins packets. all_in_records begins (facts_in begins packets)
