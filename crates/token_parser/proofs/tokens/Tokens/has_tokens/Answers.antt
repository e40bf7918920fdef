use Rattle.std.proofs.Common.{◌≡◌, refl, arith}
use Rattle.token_parser.specs.Blocks.{has_token, has_tokens}
use Rattle.token_parser.proofs.AnyToken.{found_next}
use Rattle.token_parser.proofs.tokens.Tokens.has_tokens.Goals as goal

pub loop-k-init : goal.loop-k-init
loop-k-init c = refl

pub loop-k-preserved : goal.loop-k-preserved
loop-k-preserved c = found_next (has_token c.args.has_y2 c.args.self.now) c.loop-k.k c.loop-k.found _ c.loop-k.invariant (rw (c.first_position.ensures, c.from.ensures) refl)

pub returns : goal.returns
unfolding has_tokens
returns c =
    let all : c.loop-k.k ≡ 25 = omega arith in
    rw all at c.loop-k.invariant
