use Rattle.std.specs.Prelude.{slice_index_or}
use Rattle.std.proofs.Common.{◌≡◌, ℕ, ◌<◌, Bool, List, ℤ, pos, Some, ap, sym, ◌∙◌, subst}
use Rattle.bool_coder.specs.Reader.{Reader}
use Rattle.mode_parser.specs.RecordList.{mode_of}
use Rattle.token_parser.specs.Ends.{EndsHold}
use Rattle.token_parser.specs.Stale.{without_stale}
use Rattle.token_parser.specs.declared.tokens.Tokens.{Tokens}
use Rattle.token_parser.proofs.Ends.{ends_hold}
use Rattle.transforms.specs.declared.factor_set.Factors.{Factors}
use Rattle.reference_frames.specs.FrameTokens.{block_of, blocks_of, firsts_of, has_y2}
use Rattle.reference_frames.proofs.KeptBlocks.{kept_all, own_flags}
use Rattle.reference_frames.proofs.kept_blocks.Blocks.read.Goals as goal

pub write_first_coefficients-requires : goal.write_first_coefficients-requires
write_first_coefficients-requires c =
    let tokens_are = rw (c.requires.rows, c.has_y2-has_y2.ensures, c.y_mode.ensures) at c.read_next_macroblock.ensures in
    rw (c.has_y2-has_y2.ensures, c.y_mode.ensures) (subst (λ (t : Tokens × Reader). EndsHold t.0) tokens_are (ends_hold c.args.header.now.context.probabilities.coefficients (has_y2 (mode_of c.args.mode.now).y_mode) (record c.self.inside.tokens { above = c.args.flags.now.above; left = c.args.flags.now.left }) c.args.reader.now))

pub returns-clause-flags : goal.returns-clause-flags
returns-clause-flags c =
    let y2 : Bool = has_y2 (mode_of c.args.mode.now).y_mode in
    let tokens : Tokens = c.read_next_macroblock.new.tokens in
    let tokens_are = rw (c.requires.rows, c.has_y2-has_y2.ensures, c.y_mode.ensures) at c.read_next_macroblock.ensures in
    let has = rw (c.has_y2-has_y2.ensures, c.y_mode.ensures) at c.has_tokens.ensures in
    let flags = rw has at c.write_flags-2.ensures in
    rw (← c.is_skipped.ensures, c.if-is_skipped.false, tokens_are) (flags ∙ sym (own_flags y2 tokens))

pub returns-clause-residual : goal.returns-clause-residual
returns-clause-residual c =
    let y2 : Bool = has_y2 (mode_of c.args.mode.now).y_mode in
    let tokens : Tokens = c.read_next_macroblock.new.tokens in
    let own : List (List ℤ) = (without_stale y2 tokens).coefficients in
    let tokens_are = rw (c.requires.rows, c.has_y2-has_y2.ensures, c.y_mode.ensures) at c.read_next_macroblock.ensures in
    let held : EndsHold (without_stale y2 tokens) = subst (λ (t : Tokens × Reader). EndsHold t.0) tokens_are (ends_hold c.args.header.now.context.probabilities.coefficients y2 (record c.self.inside.tokens { above = c.args.flags.now.above; left = c.args.flags.now.left }) c.args.reader.now) in
    let firsts : (k : ℕ) → k < 24 → slice_index_or c.write_first_coefficients.new.firsts k (pos 0) ≡ slice_index_or (block_of c.factors_in-factors.result (firsts_of c.factors_in-factors.result y2 own) own k) 0 (pos 0) = rw (c.has_y2-has_y2.ensures, c.y_mode.ensures) at c.write_first_coefficients.ensures in
    let kept = kept_all c.factors_in-factors.result y2 tokens c.write_first_coefficients.new.firsts held firsts in
    rw (← c.is_skipped.ensures, c.if-is_skipped.false, tokens_are) (ap (λ (bs : List (List ℤ)). Some bs) (kept ∙ ap (λ (f : Factors). blocks_of f y2 own) rw c.segment.ensures at c.factors_in-factors.ensures))
