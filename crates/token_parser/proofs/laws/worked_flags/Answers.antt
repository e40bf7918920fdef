use Rattle.std.proofs.Common.{refl}
use Rattle.bool_coder.specs.Reader.{trimmed, renewed, read}
use Rattle.bool_coder.specs.Trees.{leaf_below}
use Rattle.bool_coder.specs.CodeText.{code_renewed, written}
use Rattle.token_parser.specs.TokenTree.{size_of}
use Rattle.token_parser.specs.Tokens.{signed_size, tokens_from}
use Rattle.token_parser.specs.Blocks.{block}
use Rattle.token_parser.proofs.laws.worked_flags.Goals as goal

pub returns : goal.returns
unfolding trimmed renewed read leaf_below code_renewed written size_of signed_size tokens_from block
returns c = record { zeros = refl; none = refl; luma_after_y2 = refl }
