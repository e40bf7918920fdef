use Rattle.std.proofs.Common.{◌≡◌, ◌≤◌, ◌-◌, List, length}
use Rattle.std.specs.List.{filter}
use Rattle.webm_files.specs.declared.elements.Element.{Element}
use Rattle.webm_files.specs.Walks.{Walked}
use Rattle.webm_files.specs.Blocks.{after_all, blocks_of, nothing}
use Rattle.webm_files.specs.Packets.{is_packet}
use Rattle.webm_files.proofs.packets.count_packets.Given as goal

abbrev pub invariant-elements : goal.invariant-elements
invariant-elements l = record {
  inside : l.at ≤ length l.bytes;
  few : l.count ≤ l.at;
  elements : List Element;
  walked : Walked l.bytes 0 elements l.at;
  base : l.base ≡ (after_all l.bytes nothing elements).base;
  count : l.count ≡ length (filter (is_packet l.video) (blocks_of l.bytes elements));
}

abbrev pub decreases-elements : goal.decreases-elements
decreases-elements l = length l.bytes - l.at
