use Rattle.std.proofs.Common.{◌≡◌, map}
use Rattle.std.specs.List.{range_with_len}
use Rattle.mode_parser.specs.declared.record_facts.RecordFacts.{RecordFacts}
use Rattle.macroblock_lists.specs.Records.{facts_in}
use Rattle.macroblock_lists.proofs.records.combined.Given as goal

abbrev pub invariant-loop-place : goal.invariant-loop-place
invariant-loop-place l = l.facts.items ≡ map {B = RecordFacts} (λ place. record { bits = (facts_in l.marked place).bits; split = (facts_in l.own place).split }) (range_with_len 0 l.place)
