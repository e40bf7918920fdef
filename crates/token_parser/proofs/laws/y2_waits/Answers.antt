use Rattle.std.proofs.Common.{refl, arith}
use Rattle.token_parser.proofs.TokenLaws.{first_blocks-y2}
use Rattle.token_parser.proofs.laws.y2_waits.Goals as goal

pub returns : goal.returns
returns c = record {
  read = λ probs before r. first_blocks-y2 25 probs before r (omega arith);
  skipped = λ before. record { above = refl; left = refl; coefficients = refl; end = refl };
}
