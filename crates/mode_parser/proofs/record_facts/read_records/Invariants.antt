use Rattle.std.proofs.Common.{◌≡◌, length, map}
use Rattle.std.specs.List.{range_with_len}
use Rattle.std.specs.Option.{option_copied}
use Rattle.mode_parser.specs.FrameModes.{place_of, first_modes}
use Rattle.mode_parser.specs.RecordFacts.{facts_at}
use Rattle.mode_parser.proofs.record_facts.read_records.Given as goal

abbrev pub invariant-loop-number : goal.invariant-loop-number
invariant-loop-number l = record {
  same : first_modes l._number l.tables l.header l.columns l.rows (option_copied l.map) l.header.reader ≡ (l.records, l.reader);
  count : length l.records ≡ l._number;
  at : l.place ≡ place_of l.columns l.rows l._number;
  facts : l.facts.items ≡ map (facts_at l.tables l.header l.columns l.rows (option_copied l.map)) (range_with_len 0 l._number);
}
