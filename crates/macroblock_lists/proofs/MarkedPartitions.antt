-- The readers of marked partitions.
use Rattle.std.proofs.Common.{◌≡◌, ℕ, List, map, length, replicate, sym, ap, ◌∙◌, refl}
use Rattle.std.proofs.lemmas.Simd.{map-map}
use Rattle.bool_coder.specs.Reader.{Reader, started}
use Rattle.frame_header.specs.declared.header.Header.{Header}
use Rattle.frame_header.specs.declared.places.PartitionRange.{PartitionRange}
use Rattle.mode_parser.specs.declared.records.MbMode.{MbMode}
use Rattle.reference_frames.specs.FrameTokens.{TokenState, outside, token_state}
use Rattle.macroblock_lists.specs.PartitionEnds.{frame_token_ends, marked_text, token_ends}

-- readers at the start of texts that are the marked partitions
pub marked_readers : {T : Type 0} (text_in : T → List ℕ) (zeros : ℕ) (packet : List ℕ) (texts : List T) (places : List PartitionRange)
    → map text_in texts ≡ map (marked_text zeros packet) places → map (λ t. started (text_in t)) texts ≡ map (λ place. started (marked_text zeros packet place)) places
marked_readers text_in zeros packet texts places are =
    sym (map-map started text_in texts) ∙ ap (λ (ts : List (List ℕ)). map started ts) are ∙ map-map started (marked_text zeros packet) places

-- what was read past the ends, by the state after all tokens
pub token_ends_are : (zeros : ℕ) (packet : List ℕ) (header : Header) (columns : ℕ) (modes : List MbMode) (readers : List Reader) (places : List PartitionRange) (state : TokenState)
    → places ≡ header.partitions.items → readers ≡ map (λ place. started (marked_text zeros packet place)) places
    → state ≡ token_state header columns (record { readers = readers; above = replicate columns outside; left = outside }) modes (length modes)
    → token_ends zeros places state.readers ≡ frame_token_ends zeros packet header columns modes
unfolding frame_token_ends
token_ends_are blanks packet header columns modes readers places state places_are readers_are state_is =
    rw (state_is, readers_are, places_are) refl
