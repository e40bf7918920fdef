use Rattle.std.proofs.Common.{refl}
use Rattle.bool_coder.specs.Reader.{trimmed, renewed, read}
use Rattle.bool_coder.specs.Trees.{leaf_below}
use Rattle.bool_coder.specs.CodeText.{code_renewed, written}
use Rattle.token_parser.specs.TokenTree.{size_of}
use Rattle.token_parser.specs.Tokens.{signed_size, tokens_from}
use Rattle.token_parser.proofs.laws.worked_block.Goals as goal

pub returns : goal.returns
unfolding trimmed renewed read leaf_below code_renewed written size_of signed_size tokens_from
returns c = record { three = refl; zeros = refl; after_y2 = refl }
