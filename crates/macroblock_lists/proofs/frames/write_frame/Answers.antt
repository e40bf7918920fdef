use Rattle.std.proofs.Common.{◌≡◌, ℕ, ◌<◌, List, length, map, ap, subst, ◌∙◌, replicate}
use Rattle.std.specs.Io.KnownBytes.{Appends}
use Rattle.bool_coder.specs.Reader.{Reader, started}
use Rattle.frame_header.specs.declared.places.PartitionRange.{PartitionRange}
use Rattle.reference_frames.specs.FrameTokens.{TokenState, outside, tokens_start}
use Rattle.macroblock_lists.specs.PartitionEnds.{marked_start, marked_text, zeros_for}
use Rattle.macroblock_lists.proofs.MarkedPartitions.{marked_readers}
use Rattle.macroblock_lists.proofs.Walks.{walk-start}
use Rattle.macroblock_lists.specs.Frames.{texts_of}
use Rattle.macroblock_lists.proofs.frames.write_frame.Goals as goal

pub write_macroblocks-requires-clause-start : goal.write_macroblocks-requires-clause-start
write_macroblocks-requires-clause-start g c =
    let places : List PartitionRange = c.as_slice-partitions.result.now in
    let packet : List ℕ = c.args.packet.now in
    let columns : ℕ = c.args.frame.now.columns in
    let zeros : ℕ = c.zeros_for.result in
    let readers : map (λ text. started text.items) c.deref.result.now ≡ map (λ place. started (marked_text zeros packet place)) places =
    ap (λ texts. map (λ text. started text.items) texts) c.deref.ensures.value ∙ marked_readers (λ text. text.items) zeros packet c.in_ok-texts.texts.items places c.in_ok-texts.ensures in
    let state : List Reader → TokenState = λ rs. record { readers = rs; above = replicate columns outside; left = outside } in
    let marked_is : c.in_ok-marked.marked ≡ marked_start zeros places packet columns = c.in_ok-marked.ensures ∙ ap state readers in
    let own_is : c.in_ok-own.own ≡ tokens_start places packet columns = c.in_ok-own.ensures in
    let some : 0 < length places = rw c.as_slice-partitions.ensures.value c.requires.some in
    walk-start c.args.frame.now.header.now columns zeros c.args.frame.now.records.now.modes.records places packet _ some c.of.ensures marked_is own_is

pub returns-clause-written : goal.returns-clause-written
returns-clause-written g c =
    let places : List PartitionRange = c.as_slice-partitions.result.now in
    let own : List PartitionRange = c.args.frame.now.header.now.partitions.items in
    let columns = c.args.frame.now.columns in
    let zeros = c.zeros_for.result in
    let are : places ≡ own = c.as_slice-partitions.ensures.value in
    let own_is : c.in_ok-own.own ≡ tokens_start own c.args.packet.now columns =
    c.in_ok-own.ensures ∙ ap (λ (ps : List PartitionRange). tokens_start ps c.args.packet.now columns) are in
    let readers : map (λ text. started text.items) c.deref.result.now ≡ map (λ place. started (marked_text zeros c.args.packet.now place)) places =
    ap (λ texts. map (λ text. started text.items) texts) c.deref.ensures.value ∙ marked_readers (λ text. text.items) zeros c.args.packet.now c.in_ok-texts.texts.items places c.in_ok-texts.ensures in
    let state : List Reader → TokenState = λ rs. record { readers = rs; above = replicate columns outside; left = outside } in
    let marked_are : c.in_ok-marked.marked ≡ marked_start (zeros_for columns c.args.frame.now.rows) own c.args.packet.now columns =
    c.in_ok-marked.ensures ∙ ap state readers ∙ ap (λ (ps : List PartitionRange). marked_start zeros ps c.args.packet.now columns) are
    ∙ ap (λ n. marked_start n own c.args.packet.now columns) c.zeros_for.ensures.value in
    let Written : TokenState → TokenState → Type 0 = λ a b. Appends (g.W.Write.contents c.args.w.now) (g.W.Write.contents c.write_macroblocks.new.w) (texts_of c.args.target.form c.args.target.place c.args.frame.now.header.now columns a b c.args.frame.now.records.now.modes.records c.args.frame.now.records.now.facts.items) in
    subst (λ (b : TokenState). Written (tokens_start own c.args.packet.now columns) b) marked_are
    (subst (λ (a : TokenState). Written a c.in_ok-marked.marked) own_is c.in_ok-write_macroblocks.ensures)
