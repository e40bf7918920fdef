-- Near vectors by the parts from which the code makes them
use Rattle.std.proofs.Common.{◌≡◌, ℕ, ◌+◌, ◌-◌, ◌*◌, ◌<◌, ◌≤◌, true, false, ℤ, pos, neg_ℤ, refl, ◌∙◌, sym, arith}
use Rattle.std.specs.Prelude.{Option, Some, None, nat_lt, if◌then◌else◌}
use Rattle.std.specs.Int.{int_max, int_min}
use Rattle.std.proofs.lemmas.Bool.Decides.{nat_tests}
use Rattle.frame_header.specs.declared.references.Reference.{Reference}
use Rattle.frame_header.specs.declared.context.SignBiases.{SignBiases}
use Rattle.mode_parser.specs.declared.records.MbMode.{MbMode}
use Rattle.mode_parser.specs.declared.nearby.MbPosition.{MbPosition}
use Rattle.mode_parser.specs.declared.neighbours.Weighted.{Weighted}
use Rattle.mode_parser.specs.RecordList.{as_moved}
use Rattle.mode_parser.specs.NearVectors.{Listing, no_listing, listing_of, with_neighbour, splits, clamped_component, listed_at, first_in, near_in, near_of}

pub clamped_component-is : (place count : ℕ) (z bits least most clamp result : ℤ) → least ≡ neg_ℤ (pos (64 * (place + 1))) → most ≡ pos (64 * (count - place)) → bits ≡ z → clamp ≡ int_max least (int_min bits most) → result ≡ clamp → result ≡ clamped_component place count z
clamped_component-is place count z bits least most clamp result is_least is_most is_z clamps same = same ∙ clamps ∙ rw (is_least, is_most, is_z) refl

near-is : (above left above_left : Option MbMode) (reference : Reference) (biases : SignBiases) (place : MbPosition) (listing : Listing) (first second : Weighted) (split : ℕ) →
    listing ≡ listing_of above left above_left reference biases → first ≡ first_in listing.listed → second ≡ listed_at listing.listed 1 → split ≡ 2 * (splits above + splits left) + splits above_left →
    near_of above left above_left reference biases place ≡ (if nat_lt first.weight second.weight then near_in place listing.zeros second first split else near_in place listing.zeros first second split)
unfolding near_of
near-is above left above_left reference biases place listing first second split same is_first is_second is_split =
    rw (← same, is_first, is_second, is_split) refl

pub near-less : (above left above_left : Option MbMode) (reference : Reference) (biases : SignBiases) (place : MbPosition) (listing : Listing) (first second : Weighted) (split : ℕ) → first.weight < second.weight →
    listing ≡ listing_of above left above_left reference biases → first ≡ first_in listing.listed → second ≡ listed_at listing.listed 1 → split ≡ 2 * (splits above + splits left) + splits above_left →
    near_in place listing.zeros second first split ≡ near_of above left above_left reference biases place
near-less above left above_left reference biases place listing first second split order same is_first is_second is_split =
    let test : nat_lt first.weight second.weight ≡ true = grind (arith, nat_tests) in
    let told = near-is above left above_left reference biases place listing first second split same is_first is_second is_split in
    sym (rw test at told)

pub near-more : (above left above_left : Option MbMode) (reference : Reference) (biases : SignBiases) (place : MbPosition) (listing : Listing) (first second : Weighted) (split : ℕ) → second.weight ≤ first.weight →
    listing ≡ listing_of above left above_left reference biases → first ≡ first_in listing.listed → second ≡ listed_at listing.listed 1 → split ≡ 2 * (splits above + splits left) + splits above_left →
    near_in place listing.zeros first second split ≡ near_of above left above_left reference biases place
near-more above left above_left reference biases place listing first second split order same is_first is_second is_split =
    let test : nat_lt first.weight second.weight ≡ false = grind (arith, nat_tests) in
    let told = near-is above left above_left reference biases place listing first second split same is_first is_second is_split in
    sym (rw test at told)

neighbour-as_moved : (biases : SignBiases) (reference : Reference) (before : Listing) (macroblock : Option MbMode) (weight : ℕ) → with_neighbour biases reference before (as_moved macroblock) weight ≡ with_neighbour biases reference before macroblock weight
neighbour-as_moved biases reference before None weight = refl
neighbour-as_moved biases reference before (Some macroblock) weight = refl

splits-as_moved : (macroblock : Option MbMode) → splits (as_moved macroblock) ≡ splits macroblock
splits-as_moved None = refl
splits-as_moved (Some macroblock) = refl

listing-as_moved : (above left above_left : Option MbMode) (reference : Reference) (biases : SignBiases) → listing_of (as_moved above) (as_moved left) (as_moved above_left) reference biases ≡ listing_of above left above_left reference biases
unfolding listing_of
listing-as_moved above left above_left reference biases =
    rw (neighbour-as_moved biases reference no_listing above 2, neighbour-as_moved biases reference (with_neighbour biases reference no_listing above 2) left 2, neighbour-as_moved biases reference (with_neighbour biases reference (with_neighbour biases reference no_listing above 2) left 2) above_left 1) refl

-- near vectors depend on no more of the neighbours
pub near-as_moved : (above left above_left : Option MbMode) (reference : Reference) (biases : SignBiases) (place : MbPosition) → near_of (as_moved above) (as_moved left) (as_moved above_left) reference biases place ≡ near_of above left above_left reference biases place
unfolding near_of
near-as_moved above left above_left reference biases place =
    rw (listing-as_moved above left above_left reference biases, splits-as_moved above, splits-as_moved left, splits-as_moved above_left) refl
