-- The near vectors of a macroblock (RFC 6386, section 16.3).
use Rattle.std.specs.Prelude.{ℕ, ◌+◌, ◌-◌, ◌*◌, Bool, false, ◌&&◌, ◌==◌, nat_lt, nat_le, ℤ, pos, neg_ℤ, Option, Some, None, List, [], ◌∷◌, length, reverse, slice_index_or, if◌then◌else◌}
use Rattle.std.specs.Int.{from_bool, int_min, int_max}
use Rattle.frame_header.specs.declared.references.Reference.{Reference}
use Rattle.frame_header.specs.declared.context.SignBiases.{SignBiases}
use Rattle.mode_parser.specs.Vectors.{MotionVector, zero_vector, is_same, with_sign_bias}
use Rattle.mode_parser.specs.SplitModes.{is_split}
use Rattle.mode_parser.specs.declared.records.YMode.{YMode}
use Rattle.mode_parser.specs.declared.records.YMode.TheVariants.{Whole, B, Inter}
use Rattle.mode_parser.specs.declared.records.MbMode.{MbMode}
use Rattle.mode_parser.specs.declared.nearby.MbPosition.{MbPosition}
use Rattle.mode_parser.specs.declared.neighbours.Weighted.{Weighted}
use Rattle.mode_parser.specs.declared.nearby.Near.{Near}

-- the vectors of the neighbours, `near_mvs`: the weight of zero vectors, and all others, the newest first
pub record Listing : Type 0 where
  pub zeros : ℕ
  pub listed : List Weighted

abbrev pub no_listing : Listing
no_listing = record { zeros = 0; listed = [] }

-- a vector that is not zero adds its weight to the newest one if they are equal, and is appended if not
abbrev pub listed_with : List Weighted → MotionVector → ℕ → List Weighted
listed_with [] vector weight = record { vector = vector; weight = weight } ∷ []
listed_with (newest ∷ older) vector weight =
    if is_same vector newest.vector then record { vector = newest.vector; weight = newest.weight + weight } ∷ older
    else record { vector = vector; weight = weight } ∷ newest ∷ older

abbrev pub with_vector : Listing → MotionVector → ℕ → Listing
with_vector before vector weight =
    if is_same vector zero_vector then record { zeros = before.zeros + weight; listed = before.listed }
    else record { zeros = before.zeros; listed = listed_with before.listed vector weight }

-- a macroblock's vector is its last block's
abbrev pub vector_of : MbMode → MotionVector
vector_of macroblock = slice_index_or macroblock.vectors 15 zero_vector

-- a neighbour outside the frame or without a reference is skipped
abbrev pub with_mode : SignBiases → Reference → Listing → YMode → MotionVector → ℕ → Listing
with_mode biases reference before (Inter other mode) vector weight = with_vector before (with_sign_bias biases reference other vector) weight
with_mode biases reference before (Whole mode) vector weight = before
with_mode biases reference before B vector weight = before

abbrev pub with_neighbour : SignBiases → Reference → Listing → Option MbMode → ℕ → Listing
with_neighbour biases reference before None weight = before
with_neighbour biases reference before (Some macroblock) weight = with_mode biases reference before macroblock.y_mode (vector_of macroblock) weight

-- the macroblocks above and to the left weigh 2, the one above and to the left 1
unfoldable pub listing_of : Option MbMode → Option MbMode → Option MbMode → Reference → SignBiases → Listing
listing_of above left above_left reference biases =
    let first = with_neighbour biases reference no_listing above 2 in
    let second = with_neighbour biases reference first left 2 in
    with_neighbour biases reference second above_left 1

-- whether a macroblock is split, as a number
abbrev pub is_split_mode : YMode → Bool
is_split_mode (Inter reference mode) = is_split mode
is_split_mode (Whole mode) = false
is_split_mode B = false

abbrev pub splits : Option MbMode → ℕ
splits None = 0
splits (Some macroblock) = from_bool (is_split_mode macroblock.y_mode)

-- a component of a vector, clamped to move a macroblock along a row or column of so many at most one macroblock out of the
-- frame, in quarters of a sample (section 5)
abbrev pub clamped_component : ℕ → ℕ → ℤ → ℤ
clamped_component place count z = int_max (neg_ℤ (pos (64 * (place + 1)))) (int_min z (pos (64 * (count - place))))

abbrev pub clamped : MbPosition → MotionVector → MotionVector
clamped place v = record { x = clamped_component place.column place.columns v.x; y = clamped_component place.row place.rows v.y }

-- the n-th vector of `near_mvs`, in the order in which they were found; past the last, a zero vector of weight 0
abbrev pub unlisted : Weighted
unlisted = record { vector = zero_vector; weight = 0 }

abbrev pub listed_at : List Weighted → ℕ → Weighted
listed_at listed n = slice_index_or (reverse listed) n unlisted

-- the first one weighs 1 more if it is the third too
abbrev pub first_in : List Weighted → Weighted
first_in listed =
    let first = listed_at listed 0 in
    record { vector = first.vector; weight = first.weight + from_bool (length listed == 3 && is_same (listed_at listed 2).vector first.vector) }

-- the best one is the nearest, unless zero vectors weigh more
abbrev pub best_in : ℕ → Weighted → MotionVector
best_in zeros nearest = if nat_le zeros nearest.weight then nearest.vector else zero_vector

-- the near vectors, if these two weigh most, from the weight of zero vectors and of split neighbours
abbrev pub near_in : MbPosition → ℕ → Weighted → Weighted → ℕ → Near
near_in place zeros nearest near split = record {
  counts = zeros ∷ nearest.weight ∷ near.weight ∷ split ∷ [];
  best = clamped place (best_in zeros nearest);
  nearest = clamped place nearest.vector;
  near = clamped place near.vector;
}

-- the first and the second vector, or the second and the first if the second weighs more
abbrev pub ranked : MbPosition → Listing → ℕ → Near
ranked place listing split =
    let first = first_in listing.listed in
    let second = listed_at listing.listed 1 in
    if nat_lt first.weight second.weight then near_in place listing.zeros second first split else near_in place listing.zeros first second split

-- the near vectors of a macroblock at a position, which is predicted from a reference
unfoldable pub near_of : Option MbMode → Option MbMode → Option MbMode → Reference → SignBiases → MbPosition → Near
near_of above left above_left reference biases place =
    ranked place (listing_of above left above_left reference biases) (2 * (splits above + splits left) + splits above_left)
