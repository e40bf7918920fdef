use Rattle.std.proofs.Common.{◌≡◌, ◌<◌, length, arith}
use Rattle.std.specs.Prelude.{slice_index_or}
use Rattle.std.proofs.lemmas.List.{get_or_default}
use Rattle.mode_parser.specs.Vectors.{zero_vector}
use Rattle.mode_parser.proofs.Listings.{second-is}
use Rattle.mode_parser.proofs.neighbours.Neighbours.second.Goals as goal

pub returns-clause-value : goal.returns-clause-value
returns-clause-value c =
    let inside : 2 < length c.args.self.now.vectors = omega arith in
    let same : slice_index_or c.args.self.now.vectors 2 c.index-self-2.result ≡ slice_index_or c.args.self.now.vectors 2 zero_vector = get_or_default c.args.self.now.vectors 2 _ zero_vector inside in
    rw same (second-is c.args.self.now.vectors c.args.self.now.weights c.args.self.now.newest c.requires.most c.requires.listed)
