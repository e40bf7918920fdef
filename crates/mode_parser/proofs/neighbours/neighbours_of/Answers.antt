use Rattle.std.proofs.Common.{◌≡◌, ◌<◌, length, refl, arith}
use Rattle.mode_parser.specs.RecordList.{moved_mode}
use Rattle.mode_parser.specs.NearVectors.{no_listing}
use Rattle.mode_parser.specs.Neighbours.{listing_in}
use Rattle.mode_parser.proofs.Listings.{two-weight, three-weight, three-third, length-listed_to}
use Rattle.mode_parser.proofs.neighbours.neighbours_of.Goals as goal

pub add-requires-3-clause-light : goal.add-requires-3-clause-light
add-requires-3-clause-light c =
    let none : listing_in c.none-found.result ≡ no_listing = rw c.none-found.ensures.value refl in
    let light = two-weight c.args.biases c.args.reference (moved_mode c.args.above) (moved_mode c.args.left) (listing_in c.none-found.result) (listing_in c.add.new.self) (listing_in c.add-2.new.self) none c.add.ensures.value c.add-2.ensures.value in
    omega (arith, light)

pub returns-clause-weight : goal.returns-clause-weight
returns-clause-weight c =
    let none : listing_in c.none-found.result ≡ no_listing = rw c.none-found.ensures.value refl in
    let light = two-weight c.args.biases c.args.reference (moved_mode c.args.above) (moved_mode c.args.left) (listing_in c.none-found.result) (listing_in c.add.new.self) (listing_in c.add-2.new.self) none c.add.ensures.value c.add-2.ensures.value in
    three-weight c.args.biases c.args.reference (moved_mode c.args.above_left) (listing_in c.add-2.new.self) (listing_in c.add-3.new.self) light c.add-3.ensures.value

pub returns-clause-third : goal.returns-clause-third
returns-clause-third c =
    let none : c.none-found.result.newest ≡ 0 = rw c.none-found.ensures.value refl in
    let few : length (listing_in c.add-2.new.self).listed < 3 = rw (length-listed_to c.add-2.new.self.vectors c.add-2.new.self.weights c.add-2.new.self.newest) (omega (arith, none, c.add.ensures.newest, c.add-2.ensures.newest)) in
    three-third c.args.biases c.args.reference (moved_mode c.args.above_left) (listing_in c.add-2.new.self) (listing_in c.add-3.new.self) few c.add-3.ensures.value
