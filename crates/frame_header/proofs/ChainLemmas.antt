-- The fields of a header are chains of reads.
use Rattle.std.proofs.Common.{ℕ, zero, suc, ◌<◌, Bool, List, [], slice_index_or, refl}
use Rattle.std.specs.Prelude.{slice_index, slice_set}
use Rattle.bool_coder.specs.Reading.{Reading}
use Rattle.bool_coder.specs.Chains.{AreProbabilities, IsChain}
use Rattle.bool_coder.proofs.Chains.{chains, are_bytes, probabilities, bind-chain, if-chain, give-chain, read-chain}
use Rattle.vp8_tables.specs.declared.vectors.TheConstants.{VECTOR_UPDATE_PROBABILITIES}
use Rattle.frame_header.specs.declared.context.Segments.{Segments}
use Rattle.frame_header.specs.declared.context.FilterDeltas.{FilterDeltas}
use Rattle.frame_header.specs.declared.context.Context.{Context}
use Rattle.frame_header.specs.declared.context.Probabilities.{Probabilities}
use Rattle.frame_header.specs.declared.context.SignBiases.{SignBiases}
use Rattle.frame_header.specs.Fields.{four_signed, colors, segment_data, map_probability, map_probabilities, segment_updates, segmentation, filter, delta, four_deltas, deltas, adjustment, partition_count, fields}
use Rattle.frame_header.specs.InterFields.{reference_probabilities, y_modes, uv_modes, vector_probability, vectors, inter_fields}
use Rattle.frame_header.specs.References.{golden_copy, altref_copy, inter_refreshes, refreshes}
use Rattle.frame_header.specs.TrailingFields.{quantizers, updated, skip_probability, after_skip, trailing_fields}
use Rattle.frame_header.specs.Updates.{first_updated}

four_signed-chain : (count : ℕ) → IsChain (four_signed count)
unfolding four_signed
four_signed-chain count = search chains depth 12

colors-chain : IsChain colors
unfolding colors
colors-chain = search chains

segment_data-chain : IsChain segment_data
unfolding segment_data
segment_data-chain = search (chains, four_signed-chain)

map_probability-chain : IsChain map_probability
unfolding map_probability
map_probability-chain = search chains

map_probabilities-chain : IsChain map_probabilities
unfolding map_probabilities
map_probabilities-chain = search (chains, map_probability-chain)

segment_updates-chain : (before : Segments) → IsChain (segment_updates before)
unfolding segment_updates
segment_updates-chain before = search (chains, segment_data-chain, map_probabilities-chain) depth 12

segmentation-chain : (before : Segments) → IsChain (segmentation before)
unfolding segmentation
segmentation-chain before = search (chains, segment_updates-chain)

filter-chain : IsChain filter
unfolding filter
filter-chain = search chains

delta-chain : (before : _) → IsChain (delta before)
unfolding delta
delta-chain before = search chains

four_deltas-chain : (before : _) → IsChain (four_deltas before)
unfolding four_deltas
four_deltas-chain before = search (chains, delta-chain) depth 12

deltas-chain : (before : FilterDeltas) → IsChain (deltas before)
unfolding deltas
deltas-chain before = search (chains, four_deltas-chain)

adjustment-chain : (before : FilterDeltas) → IsChain (adjustment before)
unfolding adjustment
adjustment-chain before = search (chains, deltas-chain)

partition_count-chain : IsChain partition_count
unfolding partition_count
partition_count-chain = search chains

pub fields-chain : (is_key : Bool) (before : Context) → IsChain (fields is_key before)
unfolding fields
fields-chain is_key before = search (chains, colors-chain, segmentation-chain, filter-chain, adjustment-chain, partition_count-chain) depth 12

-- a probability is updated if a bit read with the update's probability is set
first_updated-chain : (way : ℕ → ℕ → Reading ℕ) (count : ℕ) (updates before : List ℕ) → ((update now : ℕ) → update < 256 → IsChain (way update now)) → AreProbabilities updates → IsChain (first_updated way count updates before)
unfolding first_updated
first_updated-chain way zero updates before is small = give-chain before
first_updated-chain way (suc place) updates before is small =
    bind-chain (first_updated-chain way place updates before is small) (λ done. bind-chain (is (slice_index updates place) (slice_index done place) (small place)) (λ here. give-chain (slice_set done place here)))

updated-chain : (update before : ℕ) → update < 256 → IsChain (updated update before)
unfolding updated
updated-chain update before small = search (chains, read-chain)

vector_probability-chain : (update before : ℕ) → update < 256 → IsChain (vector_probability update before)
unfolding vector_probability
vector_probability-chain update before small = search (chains, read-chain)

reference_probabilities-chain : IsChain reference_probabilities
unfolding reference_probabilities
reference_probabilities-chain = search chains

y_modes-chain : (before : List ℕ) → IsChain (y_modes before)
unfolding y_modes
y_modes-chain before = search chains depth 12

uv_modes-chain : (before : List ℕ) → IsChain (uv_modes before)
unfolding uv_modes
uv_modes-chain before = search chains depth 12

golden_copy-chain : (is_refreshed : Bool) → IsChain (golden_copy is_refreshed)
unfolding golden_copy
golden_copy-chain is_refreshed = search chains

altref_copy-chain : (is_refreshed : Bool) → IsChain (altref_copy is_refreshed)
unfolding altref_copy
altref_copy-chain is_refreshed = search chains

inter_refreshes-chain : IsChain inter_refreshes
unfolding inter_refreshes
inter_refreshes-chain = search (chains, golden_copy-chain, altref_copy-chain) depth 16

refreshes-chain : (is_key : Bool) (before : SignBiases) → IsChain (refreshes is_key before)
unfolding refreshes
refreshes-chain is_key before = search (chains, inter_refreshes-chain)

quantizers-chain : IsChain quantizers
unfolding quantizers
quantizers-chain = search chains depth 16

skip_probability-chain : IsChain skip_probability
unfolding skip_probability
skip_probability-chain = search chains

-- the two rows of update probabilities of vectors
row-small : AreProbabilities (slice_index_or VECTOR_UPDATE_PROBABILITIES 0 [])
unfolding are_bytes
row-small = probabilities (slice_index_or VECTOR_UPDATE_PROBABILITIES 0 []) refl

column-small : AreProbabilities (slice_index_or VECTOR_UPDATE_PROBABILITIES 1 [])
unfolding are_bytes
column-small = probabilities (slice_index_or VECTOR_UPDATE_PROBABILITIES 1 []) refl

row-chain : (before : List ℕ) → IsChain (first_updated vector_probability 19 (slice_index_or VECTOR_UPDATE_PROBABILITIES 0 []) before)
row-chain before = first_updated-chain vector_probability 19 (slice_index_or VECTOR_UPDATE_PROBABILITIES 0 []) before vector_probability-chain row-small

column-chain : (before : List ℕ) → IsChain (first_updated vector_probability 19 (slice_index_or VECTOR_UPDATE_PROBABILITIES 1 []) before)
column-chain before = first_updated-chain vector_probability 19 (slice_index_or VECTOR_UPDATE_PROBABILITIES 1 []) before vector_probability-chain column-small

vectors-chain : (before : List (List ℕ)) → IsChain (vectors before)
unfolding vectors
vectors-chain before = search (chains, row-chain, column-chain)

inter_fields-chain : (before : Probabilities) → IsChain (inter_fields before)
unfolding inter_fields
inter_fields-chain before = search (chains, reference_probabilities-chain, y_modes-chain, uv_modes-chain, vectors-chain) depth 12

after_skip-chain : (is_key : Bool) (before : Probabilities) → IsChain (after_skip is_key before)
after_skip-chain is_key before = if-chain is_key (give-chain _) (inter_fields-chain before)

pub trailing_fields-chain : (is_key : Bool) (updates : List ℕ) (before : Context) → AreProbabilities updates → IsChain (trailing_fields is_key updates before)
unfolding trailing_fields
trailing_fields-chain is_key updates before small =
    let coefficients : (probs : List ℕ) → IsChain (first_updated updated 1056 updates probs) = λ probs. first_updated-chain updated 1056 updates probs updated-chain small in
    search (chains, quantizers-chain, refreshes-chain, coefficients, skip_probability-chain, after_skip-chain) depth 12
