use Rattle.std.proofs.Common.{◌≡◌, List, ℕ, ◌++◌, drop}
use Rattle.std.specs.List.{flat_map}
use Rattle.std.specs.Io.KnownBytes.{Appends}
use Rattle.macroblock_lists.specs.Parts.{after_comma}
use Rattle.std.specs.Fmt.{decimal}
use Rattle.frame_header.specs.declared.places.PartitionRange.{PartitionRange}
use Rattle.macroblock_lists.proofs.texts.write_more_lengths.Given as goal

abbrev pub invariant-loop-partition : goal.invariant-loop-partition
invariant-loop-partition g l = record {
  done : List ℕ;
  whole : done ++ flat_map (after_comma (λ (partition : PartitionRange). decimal partition.length)) (drop l.partition-index l.partitions) ≡ flat_map (after_comma (λ (partition : PartitionRange). decimal partition.length)) l.partitions;
  said : Appends (g.W.Write.contents l.fn.w) (g.W.Write.contents l.w) done;
}
