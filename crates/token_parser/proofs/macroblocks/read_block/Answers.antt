use Rattle.std.proofs.Common.{◌≡◌, length, rules}
use Rattle.token_parser.proofs.Fresh.{seen_block}
use Rattle.token_parser.proofs.macroblocks.read_block.Goals as goal

pub returns : goal.returns
returns c = λ has_y2 first none.
    let blocks : length c.args.tokens.now.coefficients ≡ 25 = search rules in
    let ends : length c.args.tokens.now.ends ≡ 25 = search rules in
    seen_block c.args.clears _ has_y2 _ _ _ _ _ _ blocks ends c.requires.index first none c.read_tokens-end.ensures.over c.read_tokens-end.ensures.cleared
