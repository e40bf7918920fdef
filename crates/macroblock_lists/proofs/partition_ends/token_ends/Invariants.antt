use Rattle.std.proofs.Common.{◌≡◌, length, map}
use Rattle.std.specs.List.{range_with_len}
use Rattle.macroblock_lists.specs.PartitionEnds.{token_end}
use Rattle.macroblock_lists.proofs.partition_ends.token_ends.Given as goal

abbrev pub invariant-loop-k : goal.invariant-loop-k
invariant-loop-k l = record {
  value : l.ends.items ≡ map (token_end l.zeros l.partitions l.tokens.readers) (range_with_len 0 l.k);
  count : length l.ends.items ≡ l.k;
}
