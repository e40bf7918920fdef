use Rattle.std.proofs.Common.{◌≡◌, List, length, map, ap, ◌∙◌}
use Rattle.std.proofs.lemmas.List.{length-map}
use Rattle.frame_header.specs.declared.places.PartitionRange.{PartitionRange}
use Rattle.bool_coder.specs.Reader.{Reader, started}
use Rattle.reference_frames.specs.FrameTokens.{TokenState}
use Rattle.macroblock_lists.specs.PartitionEnds.{marked_text}
use Rattle.macroblock_lists.proofs.MarkedPartitions.{marked_readers, token_ends_are}
use Rattle.macroblock_lists.proofs.partition_ends.frame_token_ends.Goals as goal

pub token_ends-requires-clause-each : goal.token_ends-requires-clause-each
token_ends-requires-clause-each c =
    let places : List PartitionRange = c.as_slice-partitions.result.now in
    let readers : map (λ text. started text.items) c.deref.result.now ≡ map (λ place. started (marked_text c.args.zeros c.args.packet.now place)) places =
    ap (λ texts. map (λ text. started text.items) texts) c.deref.ensures.value ∙ marked_readers (λ text. text.items) c.args.zeros c.args.packet.now c.in_ok-texts.texts.items places c.in_ok-texts.ensures in
    c.read_first.ensures.readers ∙ ap (λ (t : TokenState). length t.readers) c.in_ok-tokens.ensures ∙ ap (λ (rs : List Reader). length rs) readers ∙ length-map places _

pub returns : goal.returns
returns c =
    let places : List PartitionRange = c.as_slice-partitions.result.now in
    let readers : map (λ text. started text.items) c.deref.result.now ≡ map (λ place. started (marked_text c.args.zeros c.args.packet.now place)) places =
    ap (λ texts. map (λ text. started text.items) texts) c.deref.ensures.value ∙ marked_readers (λ text. text.items) c.args.zeros c.args.packet.now c.in_ok-texts.texts.items places c.in_ok-texts.ensures in
    c.token_ends.ensures ∙ token_ends_are c.args.zeros c.args.packet.now c.args.header.now c.args.columns c.args.modes.now (map (λ text. started text.items) c.deref.result.now) places _ c.as_slice-partitions.ensures.value readers (rw (c.in_ok-tokens.ensures, c.len.ensures) at c.read_first.ensures.value)
