-- The vectors of `near_mvs`, as the code stores them
use Rattle.std.proofs.Common.{◌≡◌, ◌≢◌, ℕ, zero, suc, ◌+◌, ◌<◌, ◌≤◌, Bool, true, false, List, [], ◌∷◌, length, set, refl, ap, sym, subst, ◌∙◌, arith}
use Rattle.std.specs.Prelude.{slice_index, Option, Some, None, slice_index_or, ◌==◌, ◌&&◌}
use Rattle.std.specs.Int.{from_bool}
use Rattle.std.proofs.lemmas.List.{get_or-set_other, get_or-set_same}
use Rattle.frame_header.specs.declared.references.Reference.{Reference}
use Rattle.frame_header.specs.declared.context.SignBiases.{SignBiases}
use Rattle.mode_parser.specs.declared.records.YMode.{YMode}
use Rattle.mode_parser.specs.declared.records.YMode.TheVariants.{Whole, B, Inter}
use Rattle.mode_parser.specs.declared.records.MbMode.{MbMode}
use Rattle.mode_parser.specs.Vectors.{MotionVector, zero_vector, is_same, with_sign_bias}
use Rattle.mode_parser.specs.declared.neighbours.Weighted.{Weighted}
use Rattle.mode_parser.specs.NearVectors.{Listing, no_listing, listed_with, with_vector, vector_of, with_mode, with_neighbour, listed_at, first_in}
use Rattle.mode_parser.specs.Neighbours.{listed_to, listing_to, listed_weight, weight_in, ThirdWeighs, AreListed}

-- a write after the first n vectors, or before them, leaves them
pub listed_to-below : (vectors : List MotionVector) (weights : List ℕ) (i : ℕ) (vector : MotionVector) (weight n : ℕ) → n < i → listed_to (set vectors i vector) (set weights i weight) n ≡ listed_to vectors weights n
listed_to-below vectors weights i vector weight zero below = refl
listed_to-below vectors weights i vector weight (suc n) below =
    let other : suc n ≢ i = omega (arith, below) in
    let less : n < i = omega (arith, below) in
    rw (get_or-set_other vectors i (suc n) vector zero_vector other, get_or-set_other weights i (suc n) weight 0 other, listed_to-below vectors weights i vector weight n less) refl

pub listed_to-weight : (vectors : List MotionVector) (weights : List ℕ) (i weight n : ℕ) → n < i → listed_to vectors (set weights i weight) n ≡ listed_to vectors weights n
listed_to-weight vectors weights i weight zero below = refl
listed_to-weight vectors weights i weight (suc n) below =
    let other : suc n ≢ i = omega (arith, below) in
    let less : n < i = omega (arith, below) in
    rw (get_or-set_other weights i (suc n) weight 0 other, listed_to-weight vectors weights i weight n less) refl

pub listed_to-zeros : (vectors : List MotionVector) (weights : List ℕ) (weight n : ℕ) → listed_to vectors (set weights 0 weight) n ≡ listed_to vectors weights n
listed_to-zeros vectors weights weight zero = refl
listed_to-zeros vectors weights weight (suc n) =
    let other : suc n ≢ 0 = omega arith in
    rw (get_or-set_other weights 0 (suc n) weight 0 other, listed_to-zeros vectors weights weight n) refl

-- a vector more: a zero one, the newest one again, and another
pub counted-zero : (vectors : List MotionVector) (weights : List ℕ) (n : ℕ) (vector : MotionVector) (weight : ℕ) → is_same vector zero_vector ≡ true → 0 < length weights →
    listing_to vectors (set weights 0 (slice_index weights 0 + weight)) n ≡ with_vector (listing_to vectors weights n) vector weight
counted-zero vectors weights n vector weight is_zero some =
    rw (is_zero, get_or-set_same weights 0 (slice_index weights 0 + weight) 0 some, listed_to-zeros vectors weights (slice_index weights 0 + weight) n) refl

pub counted-again : (vectors : List MotionVector) (weights : List ℕ) (n : ℕ) (vector : MotionVector) (weight : ℕ) → is_same vector zero_vector ≡ false → slice_index_or vectors 0 zero_vector ≡ zero_vector → is_same vector (slice_index_or vectors n zero_vector) ≡ true → n < length weights →
    listing_to vectors (set weights n (slice_index weights n + weight)) n ≡ with_vector (listing_to vectors weights n) vector weight
counted-again vectors weights zero vector weight is_zero none again inside = let told = rw none at again in absurd (cc)
counted-again vectors weights (suc n) vector weight is_zero none again inside =
    let other : 0 ≢ suc n = omega arith in
    let less : n < suc n = omega arith in
    rw (is_zero, again, get_or-set_other weights (suc n) 0 (slice_index weights (suc n) + weight) 0 other, get_or-set_same weights (suc n) (slice_index weights (suc n) + weight) 0 inside, listed_to-weight vectors weights (suc n) (slice_index weights (suc n) + weight) n less) refl

zeros-kept : (weights : List ℕ) (i weight : ℕ) → 0 < i → slice_index (set weights i weight) 0 ≡ slice_index weights 0
zeros-kept weights i weight following = get_or-set_other weights i 0 weight 0 (omega (arith, following))

counted-next : (vectors : List MotionVector) (weights : List ℕ) (n : ℕ) (vector : MotionVector) (weight : ℕ) → is_same vector zero_vector ≡ false → is_same vector (slice_index_or vectors n zero_vector) ≡ false → suc n < length vectors → suc n < length weights →
    listing_to (set vectors (suc n) vector) (set weights (suc n) weight) (suc n) ≡ with_vector (listing_to vectors weights n) vector weight
counted-next vectors weights zero vector weight is_zero other inside within =
    rw (is_zero, zeros-kept weights 1 weight (omega arith), get_or-set_same vectors 1 vector zero_vector inside, get_or-set_same weights 1 weight 0 within) refl
counted-next vectors weights (suc n) vector weight is_zero other inside within =
    let less : suc n < suc (suc n) = omega arith in
    rw (is_zero, other, zeros-kept weights (suc (suc n)) weight (omega arith), get_or-set_same vectors (suc (suc n)) vector zero_vector inside, get_or-set_same weights (suc (suc n)) weight 0 within, listed_to-below vectors weights (suc (suc n)) vector weight (suc n) less) refl

pub counted-new : (vectors : List MotionVector) (weights : List ℕ) (n next : ℕ) (vector : MotionVector) (weight : ℕ) → next ≡ suc n → is_same vector zero_vector ≡ false → is_same vector (slice_index_or vectors n zero_vector) ≡ false → next < length vectors → next < length weights →
    listing_to (set vectors next vector) (set weights next weight) next ≡ with_vector (listing_to vectors weights n) vector weight
counted-new vectors weights n next vector weight is_next is_zero other inside within =
    rw is_next (counted-next vectors weights n vector weight is_zero other (rw is_next at inside) (rw is_next at within))

-- the first and the second vector
pub first-is : (vectors : List MotionVector) (weights : List ℕ) (newest : ℕ) (again : Bool) → newest ≤ 3 → AreListed vectors weights newest → again ≡ (newest == 3 && is_same (slice_index_or vectors 3 zero_vector) (slice_index_or vectors 1 zero_vector)) →
    record { vector = slice_index_or vectors 1 zero_vector; weight = slice_index weights 1 + from_bool again } ≡ first_in (listed_to vectors weights newest)
first-is vectors weights zero again most are is_again = rw (is_again, are.no_vector 1 (omega arith), are.no_weight 1 (omega arith)) refl
first-is vectors weights (suc zero) again most are is_again = rw is_again refl
first-is vectors weights (suc (suc zero)) again most are is_again = rw is_again refl
first-is vectors weights (suc (suc (suc zero))) again most are is_again = rw is_again refl
first-is vectors weights (suc (suc (suc (suc n)))) again most are is_again = absurd (omega (arith, most))

pub second-is : (vectors : List MotionVector) (weights : List ℕ) (newest : ℕ) → newest ≤ 3 → AreListed vectors weights newest →
    record { vector = slice_index_or vectors 2 zero_vector; weight = slice_index weights 2 } ≡ listed_at (listed_to vectors weights newest) 1
second-is vectors weights zero most are = rw (are.no_vector 2 (omega arith), are.no_weight 2 (omega arith)) refl
second-is vectors weights (suc zero) most are = rw (are.no_vector 2 (omega arith), are.no_weight 2 (omega arith)) refl
second-is vectors weights (suc (suc zero)) most are = refl
second-is vectors weights (suc (suc (suc zero))) most are = refl
second-is vectors weights (suc (suc (suc (suc n)))) most are = absurd (omega (arith, most))

newest-weight : (nothing : ℕ) (newest : Weighted) (older : List Weighted) (vector : MotionVector) (weight : ℕ) (is_newest : Bool) → is_same vector zero_vector ≡ false → is_same vector newest.vector ≡ is_newest → weight_in (with_vector (record { zeros = nothing; listed = newest ∷ older }) vector weight) ≡ nothing + (newest.weight + listed_weight older) + weight
newest-weight nothing newest older vector weight true told same = rw (told, same) (omega arith)
newest-weight nothing newest older vector weight false told same = rw (told, same) (omega arith)

listed-weight : (nothing : ℕ) (listed : List Weighted) (vector : MotionVector) (weight : ℕ) (is_nothing : Bool) → is_same vector zero_vector ≡ is_nothing → weight_in (with_vector (record { zeros = nothing; listed = listed }) vector weight) ≡ nothing + listed_weight listed + weight
listed-weight nothing listed vector weight true told = rw told (omega arith)
listed-weight nothing [] vector weight false told = rw told (omega arith)
listed-weight nothing (newest ∷ older) vector weight false told = newest-weight nothing newest older vector weight (is_same vector newest.vector) told refl

-- a vector more adds its weight
pub with_vector-weight : (before : Listing) (vector : MotionVector) (weight : ℕ) → weight_in (with_vector before vector weight) ≡ weight_in before + weight
with_vector-weight before vector weight = listed-weight before.zeros before.listed vector weight (is_same vector zero_vector) refl

mode-weight : (biases : SignBiases) (reference : Reference) (before : Listing) (mode : YMode) (vector : MotionVector) (weight : ℕ) → weight_in (with_mode biases reference before mode vector weight) ≤ weight_in before + weight
mode-weight biases reference before (Inter other how) vector weight = omega (arith, with_vector-weight before (with_sign_bias biases reference other vector) weight)
mode-weight biases reference before (Whole how) vector weight = omega arith
mode-weight biases reference before B vector weight = omega arith

-- and so does a neighbour more, or nothing
pub with_neighbour-weight : (biases : SignBiases) (reference : Reference) (before : Listing) (macroblock : Option MbMode) (weight : ℕ) → weight_in (with_neighbour biases reference before macroblock weight) ≤ weight_in before + weight
with_neighbour-weight biases reference before None weight = omega arith
with_neighbour-weight biases reference before (Some macroblock) weight = mode-weight biases reference before macroblock.y_mode (vector_of macroblock) weight

-- a third vector has its neighbour's weight
newest-third : (newest : Weighted) (older : List Weighted) (vector : MotionVector) (weight : ℕ) (is_newest : Bool) → is_same vector newest.vector ≡ is_newest → length (newest ∷ older) < 3 → ThirdWeighs weight (listed_with (newest ∷ older) vector weight)
newest-third newest older vector weight true same few = rw same (λ three. absurd (omega (arith, three, few)))
newest-third newest older vector weight false same few = rw same (λ _. refl)

listed-third : (listed : List Weighted) (vector : MotionVector) (weight : ℕ) → length listed < 3 → ThirdWeighs weight (listed_with listed vector weight)
listed-third [] vector weight few = λ three. absurd (omega (arith, three))
listed-third (newest ∷ older) vector weight few = newest-third newest older vector weight (is_same vector newest.vector) refl few

vector-third : (before : Listing) (vector : MotionVector) (weight : ℕ) (is_nothing : Bool) → is_same vector zero_vector ≡ is_nothing → length before.listed < 3 → ThirdWeighs weight (with_vector before vector weight).listed
vector-third before vector weight true told few = rw told (λ three. absurd (omega (arith, three, few)))
vector-third before vector weight false told few = rw told (listed-third before.listed vector weight few)

mode-third : (biases : SignBiases) (reference : Reference) (before : Listing) (mode : YMode) (vector : MotionVector) (weight : ℕ) → length before.listed < 3 → ThirdWeighs weight (with_mode biases reference before mode vector weight).listed
mode-third biases reference before (Inter other how) vector weight few = vector-third before (with_sign_bias biases reference other vector) weight (is_same (with_sign_bias biases reference other vector) zero_vector) refl few
mode-third biases reference before (Whole how) vector weight few = λ three. absurd (omega (arith, three, few))
mode-third biases reference before B vector weight few = λ three. absurd (omega (arith, three, few))

pub with_neighbour-third : (biases : SignBiases) (reference : Reference) (before : Listing) (macroblock : Option MbMode) (weight : ℕ) → length before.listed < 3 → ThirdWeighs weight (with_neighbour biases reference before macroblock weight).listed
with_neighbour-third biases reference before None weight few = λ three. absurd (omega (arith, three, few))
with_neighbour-third biases reference before (Some macroblock) weight few = mode-third biases reference before macroblock.y_mode (vector_of macroblock) weight few

pub length-listed_to : (vectors : List MotionVector) (weights : List ℕ) (n : ℕ) → length (listed_to vectors weights n) ≡ n
length-listed_to vectors weights zero = refl
length-listed_to vectors weights (suc n) = rw (length-listed_to vectors weights n) refl

-- no weight is above the weight of all neighbours
at_most_one : (b : Bool) → from_bool b ≤ 1
at_most_one true = omega arith
at_most_one false = omega arith

pub first-light : (vectors : List MotionVector) (weights : List ℕ) (newest : ℕ) → newest ≤ 3 → weight_in (listing_to vectors weights newest) ≤ 5 → ThirdWeighs 1 (listed_to vectors weights newest) → (first_in (listed_to vectors weights newest)).weight ≤ 5
first-light vectors weights zero most light third = omega arith
first-light vectors weights (suc zero) most light third = omega (arith, light)
first-light vectors weights (suc (suc zero)) most light third = omega (arith, light)
first-light vectors weights (suc (suc (suc zero))) most light third =
    let last : slice_index weights 3 ≡ 1 = third refl in
    let more = at_most_one (is_same (slice_index_or vectors 3 zero_vector) (slice_index_or vectors 1 zero_vector)) in
    omega (arith, light, last, more)
first-light vectors weights (suc (suc (suc (suc n)))) most light third = absurd (omega (arith, most))

pub second-light : (vectors : List MotionVector) (weights : List ℕ) (newest : ℕ) → newest ≤ 3 → weight_in (listing_to vectors weights newest) ≤ 5 → (listed_at (listed_to vectors weights newest) 1).weight ≤ 5
second-light vectors weights zero most light = omega arith
second-light vectors weights (suc zero) most light = omega arith
second-light vectors weights (suc (suc zero)) most light = omega (arith, light)
second-light vectors weights (suc (suc (suc zero))) most light = omega (arith, light)
second-light vectors weights (suc (suc (suc (suc n)))) most light = absurd (omega (arith, most))

-- the neighbours above, to the left, and above and to the left weigh 5 at most
pub two-weight : (biases : SignBiases) (reference : Reference) (up neighbour : Option MbMode) (none one two : Listing) → none ≡ no_listing → one ≡ with_neighbour biases reference none up 2 → two ≡ with_neighbour biases reference one neighbour 2 → weight_in two ≤ 4
two-weight biases reference up neighbour none one two is_none is_one is_two =
    let first : weight_in one ≤ 0 + 2 = subst (λ listing. weight_in listing ≤ 0 + 2) (sym (is_one ∙ ap (λ listing. with_neighbour biases reference listing up 2) is_none)) (with_neighbour-weight biases reference no_listing up 2) in
    let second : weight_in two ≤ weight_in one + 2 = subst (λ listing. weight_in listing ≤ weight_in one + 2) (sym is_two) (with_neighbour-weight biases reference one neighbour 2) in
    omega (arith, first, second)

pub three-weight : (biases : SignBiases) (reference : Reference) (corner : Option MbMode) (two three : Listing) → weight_in two ≤ 4 → three ≡ with_neighbour biases reference two corner 1 → weight_in three ≤ 5
three-weight biases reference corner two three light is_three =
    let third : weight_in three ≤ weight_in two + 1 = subst (λ listing. weight_in listing ≤ weight_in two + 1) (sym is_three) (with_neighbour-weight biases reference two corner 1) in
    omega (arith, light, third)

pub three-third : (biases : SignBiases) (reference : Reference) (corner : Option MbMode) (two three : Listing) → length two.listed < 3 → three ≡ with_neighbour biases reference two corner 1 → ThirdWeighs 1 three.listed
three-third biases reference corner two three few is_three = subst (λ listing. ThirdWeighs 1 listing.listed) (sym is_three) (with_neighbour-third biases reference two corner 1 few)
