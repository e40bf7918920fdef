use Rattle.std.proofs.Common.{◌≡◌, true, false}
use Rattle.token_parser.specs.Blocks.{first_blocks}
use Rattle.token_parser.specs.Stale.{seen}
use Rattle.token_parser.specs.declared.tokens.Tokens.{Tokens}
use Rattle.token_parser.proofs.BlockSteps.{first_blocks-none, first_blocks-zero}
use Rattle.token_parser.proofs.Fresh.{ends_seen}
use Rattle.token_parser.proofs.GroupLemmas.{y2_group, luma_is_group, chroma_group}
use Rattle.token_parser.proofs.macroblocks.read_blocks.Goals as goal
use Rattle.token_parser.proofs.macroblocks.read_blocks.Goals.{then-has_y2, else-has_y2}

pub returns : goal.returns
returns c =
    let before : Tokens = seen c.args.clears c.args.has_y2 c.args.tokens.now in
    let none = ends_seen c.args.clears c.args.has_y2 c.args.tokens.now c.requires in
    let y2 : first_blocks 1 c.args.rows.now c.args.has_y2 before c.args.reader.now ≡ (seen c.args.clears c.args.has_y2 c.if-has_y2.tokens, c.if-has_y2.reader) = elim c.if-has_y2.branch [
      | then-has_y2 w ↦ rw (w.if-has_y2.true, w.tokens-is, w.reader-is) (w.read_group.ensures true 0 y2_group (seen c.args.clears true c.args.tokens.now) c.args.reader.now (rw w.if-has_y2.true at none) (first_blocks-zero c.args.rows.now true (seen c.args.clears true c.args.tokens.now) c.args.reader.now))
      | else-has_y2 w ↦ rw (w.if-has_y2.false, w.tokens-is, w.reader-is) (first_blocks-none c.args.rows.now (seen c.args.clears false c.args.tokens.now) c.args.reader.now)
    ] in
    let luma = rw c.luma.ensures at c.read_group-2.ensures in
    c.read_group-3.ensures c.args.has_y2 17 (chroma_group c.args.has_y2) before c.args.reader.now none (luma c.args.has_y2 1 (luma_is_group c.args.has_y2) before c.args.reader.now none y2)
