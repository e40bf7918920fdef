use Rattle.std.proofs.Common.{◌≡◌, ◌≤◌, ◌-◌, List, length}
use Rattle.webm_files.specs.declared.elements.Element.{Element}
use Rattle.webm_files.specs.Walks.{Walked}
use Rattle.webm_files.specs.Blocks.{after_all, blocks_of, nothing}
use Rattle.webm_files.specs.Packets.{listed_in, packets_in, unlisted_in}
use Rattle.webm_files.proofs.packets.read_blocks.Given as goal

abbrev pub invariant-elements : goal.invariant-elements
invariant-elements g l = record {
  inside : l.at ≤ length l.bytes;
  elements : List Element;
  walked : Walked l.bytes 0 elements l.at;
  base : l.base ≡ (after_all l.bytes nothing elements).base;
  packets : l.packets.items ≡ packets_in l.bytes l.video (blocks_of l.bytes elements);
  listed : l.listed.items ≡ listed_in l.numbers (blocks_of l.bytes elements);
  unlisted : l.unlisted.items ≡ unlisted_in l.numbers (blocks_of l.bytes elements);
}

abbrev pub decreases-elements : goal.decreases-elements
decreases-elements g l = length l.bytes - l.at
