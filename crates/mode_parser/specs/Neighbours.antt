-- How the code stores the vectors of the neighbours.
use Rattle.std.specs.Prelude.{◌≡◌, ◌<◌, ℕ, zero, suc, ◌+◌, List, [], ◌∷◌, length, slice_index, slice_index_or}
use Rattle.mode_parser.specs.Vectors.{MotionVector, zero_vector}
use Rattle.mode_parser.specs.declared.neighbours.Weighted.{Weighted}
use Rattle.mode_parser.specs.declared.neighbours.Neighbours.{Neighbours}
use Rattle.mode_parser.specs.NearVectors.{Listing, unlisted}

-- the first n vectors after the zero vector, the newest first
abbrev pub listed_to : List MotionVector → List ℕ → ℕ → List Weighted
listed_to vectors weights zero = []
listed_to vectors weights (suc n) = record { vector = slice_index_or vectors (suc n) zero_vector; weight = slice_index weights (suc n) } ∷ listed_to vectors weights n

abbrev pub listing_to : List MotionVector → List ℕ → ℕ → Listing
listing_to vectors weights n = record { zeros = slice_index weights 0; listed = listed_to vectors weights n }

abbrev pub listing_in : Neighbours → Listing
listing_in found = listing_to found.vectors found.weights found.newest

-- the weights of all neighbours together
abbrev pub listed_weight : List Weighted → ℕ
listed_weight [] = 0
listed_weight (newest ∷ older) = newest.weight + listed_weight older

abbrev pub weight_in : Listing → ℕ
weight_in listing = listing.zeros + listed_weight listing.listed

-- a third vector has this weight
abbrev pub ThirdWeighs : ℕ → List Weighted → Type 0
ThirdWeighs weight listed = length listed ≡ 3 → (slice_index_or listed 0 unlisted).weight ≡ weight

-- the first vector is zero, and the vectors after the newest are zero with weight 0
pub record AreListed (vectors : List MotionVector) (weights : List ℕ) (newest : ℕ) : Type 0 where
  pub none : slice_index_or vectors 0 zero_vector ≡ zero_vector
  pub no_vector : (n : ℕ) → newest < n → slice_index_or vectors n zero_vector ≡ zero_vector
  pub no_weight : (n : ℕ) → newest < n → slice_index weights n ≡ 0
