use Rattle.std.proofs.Common.{◌≡◌, ◌<◌, length, false, sym, ◌∙◌, arith}
use Rattle.std.specs.Prelude.{slice_index_or}
use Rattle.std.proofs.lemmas.List.{get_or_default}
use Rattle.mode_parser.specs.Vectors.{zero_vector, is_same}
use Rattle.mode_parser.proofs.Listings.{counted-new}
use Rattle.mode_parser.proofs.neighbours.Neighbours.add_vector.Goals as goal

pub returns-else-is_same-2-clause-value : goal.returns-else-is_same-2-clause-value
returns-else-is_same-2-clause-value c =
    let vectors = c.args.self.now.vectors in
    let n = c.args.self.now.newest in
    let inside : n < length vectors = omega (arith, c.requires.room) in
    let first : is_same c.args.vector zero_vector ≡ false = sym c.is_same.ensures ∙ c.if-is_same.false in
    let newest = get_or_default vectors n c.index-self-self.result zero_vector inside in
    let other : is_same c.args.vector (slice_index_or vectors n zero_vector) ≡ false = rw newest at (sym c.is_same-else-is_same.ensures ∙ c.if-is_same-2.false) in
    counted-new vectors c.args.self.now.weights n _ c.args.vector c.args.weight (omega arith) first other (omega (arith, c.requires.room)) (omega (arith, c.requires.room))
