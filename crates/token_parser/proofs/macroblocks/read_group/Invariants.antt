use Rattle.std.proofs.Common.{◌≡◌, ℕ, ◌+◌, ◌-◌, Bool, true, replicate}
use Rattle.bool_coder.specs.Reader.{Reader}
use Rattle.token_parser.specs.declared.tokens.Tokens.{Tokens}
use Rattle.token_parser.specs.Blocks.{first_blocks}
use Rattle.token_parser.specs.Groups.{IsGroup}
use Rattle.token_parser.specs.Stale.{seen}
use Rattle.token_parser.proofs.macroblocks.read_group.Given as goal

abbrev pub invariant-loop-index : goal.invariant-loop-index
invariant-loop-index l = (has_y2 : Bool) (k : ℕ) → IsGroup has_y2 k l.group → (before : Tokens) (r : Reader) → (l.clears ≡ true → before.ends ≡ replicate 25 0) → first_blocks k l.rows has_y2 before r ≡ (seen l.clears has_y2 l.fn.tokens, l.fn.decoder) → first_blocks (k + (l.index - l.group.start)) l.rows has_y2 before r ≡ (seen l.clears has_y2 l.tokens, l.reader)
