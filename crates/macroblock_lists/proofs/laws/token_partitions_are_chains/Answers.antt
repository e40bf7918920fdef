use Rattle.macroblock_lists.specs.TokenChains.{TokensAreChains}
use Rattle.macroblock_lists.proofs.TokenChains.{token-chain, tokens_are_read_so}
use Rattle.macroblock_lists.proofs.TokenBits.{token_bits_are_of_chains}
use Rattle.macroblock_lists.proofs.TokenEnds.{token_ends_are_of_chains}
use Rattle.macroblock_lists.proofs.laws.token_partitions_are_chains.Goals as goal

pub returns : goal.returns
returns c =
    let chain : TokensAreChains c.args.header.now = token-chain c.args.header.now c.tokens_are_chains.ensures in
    record { chain = chain; read = tokens_are_read_so; end = λ tables state. token_ends_are_of_chains tables state c.args.header.now chain; bits = λ tables known. token_bits_are_of_chains tables known c.args.header.now chain }
