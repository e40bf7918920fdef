use Rattle.std.proofs.Common.{◌≡◌, ◌<◌, false, length, refl, arith}
use Rattle.std.specs.Prelude.{slice_index_or, nat_eq, ◌==◌, ◌&&◌}
use Rattle.std.proofs.lemmas.Bool.Decides.{nat_tests}
use Rattle.std.proofs.lemmas.List.{get_or_default}
use Rattle.mode_parser.specs.Vectors.{zero_vector, is_same}
use Rattle.mode_parser.proofs.Listings.{first-is}
use Rattle.mode_parser.proofs.neighbours.Neighbours.first.Goals as goal
use Rattle.mode_parser.proofs.neighbours.Neighbours.first.Goals.{then-self-eq3, else-self-eq3}

pub returns-clause-value : goal.returns-clause-value
returns-clause-value c =
    let vectors = c.args.self.now.vectors in
    let inside : 1 < length vectors = omega arith in
    let within : 3 < length vectors = omega arith in
    let again : c.if-self-eq3.is_again ≡ (c.args.self.now.newest == 3 && is_same (slice_index_or vectors 3 zero_vector) (slice_index_or vectors 1 zero_vector)) = elim c.if-self-eq3.branch [ then-self-eq3 w ↦ (let third = get_or_default vectors 3 w.index-self-3.result zero_vector within in let first = get_or_default vectors 1 w.index-self-1.result zero_vector inside in rw (w.is_again-is, w.is_same-is_again.ensures, third, first, w.if-self-eq3.true) refl) | else-self-eq3 w ↦ (let test : nat_eq c.args.self.now.newest 3 ≡ false = grind (arith, nat_tests, w.if-self-eq3.false) in rw (w.is_again-is, test) refl) ] in
    let same : slice_index_or vectors 1 c.index-self-1-2.result ≡ slice_index_or vectors 1 zero_vector = get_or_default vectors 1 _ zero_vector inside in
    rw (same, c.from.ensures) (first-is vectors c.args.self.now.weights c.args.self.now.newest c.if-self-eq3.is_again c.requires.most c.requires.listed again)
