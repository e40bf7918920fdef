use Rattle.std.proofs.Common.{◌≡◌, ◌+◌, List, ℕ, ◌∷◌, ◌++◌, drop, get_or}
use Rattle.std.proofs.KnownBytes.{Appends-trans}
use Rattle.std.proofs.lemmas.List.{drop_more}
use Rattle.std.specs.Fmt.{decimal}
use Rattle.frame_header.specs.declared.places.PartitionRange.{PartitionRange}
use Rattle.macroblock_lists.specs.Parts.{after_comma}
use Rattle.macroblock_lists.proofs.Loops.{written_next}
use Rattle.macroblock_lists.proofs.texts.write_more_lengths.Goals as goal

pub loop-partition-preserved : goal.loop-partition-preserved
loop-partition-preserved g c =
    let done = c.loop-partition.invariant.done in
    let none : PartitionRange = record { start = 0; length = 0 } in
    let x : PartitionRange = get_or c.args.partitions.now c.loop-partition.partition-index none in
    let text : PartitionRange → List ℕ = after_comma (λ (partition : PartitionRange). decimal partition.length) in
    let at : drop c.loop-partition.partition-index c.args.partitions.now ≡ x ∷ drop (c.loop-partition.partition-index + 1) c.args.partitions.now =
    drop_more c.args.partitions.now c.loop-partition.partition-index none c.loop-partition-test.true in
    record {
      done = done ++ text x;
      whole = written_next text done c.args.partitions.now c.loop-partition.partition-index x _ at c.loop-partition.invariant.whole;
      said = Appends-trans _ _ _ _ _ c.loop-partition.invariant.said (Appends-trans _ _ _ _ _ c.in_ok-write_text.ensures c.in_ok-write_length.ensures);
    }
