use Rattle.std.proofs.Common.{◌≡◌, ◌^◌, ◌<◌, drop}
use Rattle.token_parser.specs.TokenTree.{more_extra_bits}
use Rattle.token_parser.proofs.sizes.read_size_in.Given as goal

abbrev pub invariant-loop-prob : goal.invariant-loop-prob
invariant-loop-prob l = record {
  same : more_extra_bits (drop l.prob-index l.probs) l.extra l.reader ≡ more_extra_bits l.probs 0 l.fn.reader;
  small : l.extra < 2 ^ l.prob-index;
}
