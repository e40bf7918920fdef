-- What the bits and the splits of records mean.
use Rattle.std.specs.Prelude.{◌≡◌, ℕ, ◌+◌, ◌<◌, min, is_some, IfSome, List, map, slice_index, slice_index_or, Option}
use Rattle.std.specs.List.{range_with_len, sum}
use Rattle.bool_coder.specs.Reader.{Reader}
use Rattle.bool_coder.specs.Chains.{IsChain}
use Rattle.bool_coder.specs.Taken.{taken}
use Rattle.vp8_tables.specs.Tables.{TableEntries}
use Rattle.frame_header.specs.declared.header.Header.{Header}
use Rattle.mode_parser.specs.declared.records.MbMode.{MbMode}
use Rattle.mode_parser.specs.declared.records.Split.{Split}
use Rattle.mode_parser.specs.Vectors.{MotionVector, zero_vector}
use Rattle.mode_parser.specs.NearVectors.{is_split_mode}
use Rattle.mode_parser.specs.FrameModes.{first_modes, mode_at}
use Rattle.mode_parser.specs.RecordFacts.{left_after, record_bits, split_at, starts_of}
use Rattle.mode_parser.specs.Chains.{HaveProbabilities}

-- each block has the vector of the block at which its part starts
abbrev pub ShareVectors : Split → List MotionVector → Type 0
ShareVectors split vectors = (n : ℕ) → n < 16 → slice_index_or vectors n zero_vector ≡ slice_index_or vectors (slice_index (starts_of split) n) zero_vector

-- the split by the start of a record is that of the whole record: there is one if the mode is `mv_split`, and its parts share vectors
pub record IsSplitOf (split : Option Split) (macroblock : MbMode) : Type 0 where
  pub has : is_some split ≡ is_split_mode macroblock.y_mode
  pub parts : IfSome split (λ s. ShareVectors s macroblock.vectors)

abbrev pub SplitsAreOfRecords : Type 0
SplitsAreOfRecords = (tables : TableEntries) (header : Header) (columns rows : ℕ) (segments : Option (List ℕ)) (place : ℕ) (before : List MbMode) (r : Reader) → IsSplitOf (split_at header columns rows segments place before r).0 (mode_at tables header columns rows segments place before r).0

-- the start of a record is a chain of reads too
abbrev pub SplitsAreChains : Type 0
SplitsAreChains = (tables : TableEntries) (header : Header) (columns rows : ℕ) (segments : Option (List ℕ)) (place : ℕ) (before : List MbMode) → HaveProbabilities tables header → IsChain (split_at header columns rows segments place before)

-- the bits of a record are those that its chain of reads takes in, as far as so many are left
abbrev pub BitsAreTakenIn : Type 0
BitsAreTakenIn = (tables : TableEntries) (header : Header) (columns rows : ℕ) (segments : Option (List ℕ)) (place : ℕ)
    → let before = first_modes place tables header columns rows segments header.reader in
    (reads : IsChain (mode_at tables header columns rows segments place before.0)) → record_bits tables header columns rows segments place ≡ min (taken reads.chain before.1) (left_after place tables header columns rows segments)

-- the bits of the first n records are those that are left before them and not after them
abbrev pub BitsAddUp : Type 0
BitsAddUp = (tables : TableEntries) (header : Header) (columns rows : ℕ) (segments : Option (List ℕ)) (n : ℕ) → HaveProbabilities tables header
    → sum (map (record_bits tables header columns rows segments) (range_with_len 0 n)) + left_after n tables header columns rows segments ≡ left_after 0 tables header columns rows segments
