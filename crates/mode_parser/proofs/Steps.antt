-- One sub block more, and one macroblock more
use Rattle.std.proofs.Common.{◌≡◌, ℕ, zero, suc, ◌+◌, ◌<◌, ◌≤◌, true, List, [], ◌∷◌, ◌++◌, length, take, refl, ap, add-one, length-append, arith}
use Rattle.std.specs.Prelude.{Option, slice_index, nat_le}
use Rattle.std.proofs.lemmas.Bool.{and_parts, leb-true}
use Rattle.std.proofs.Math.ListN.{set}
use Rattle.std.proofs.lemmas.List.{take_more_set}
use Rattle.bool_coder.specs.Reader.{Reader}
use Rattle.vp8_tables.specs.Tables.{TableEntries}
use Rattle.intra_predict.specs.declared.modes.SubMode.{SubMode}
use Rattle.mode_parser.specs.declared.records.MbMode.{MbMode}
use Rattle.vp8_tables.specs.declared.modes.TheConstants.{INTER_SUB_PROBABILITIES}
use Rattle.mode_parser.specs.Vectors.{MotionVector}
use Rattle.mode_parser.specs.SubModes.{mode_above, mode_left, sub_mode, key_sub_mode, first_sub_modes}
use Rattle.mode_parser.specs.InterRecords.{first_inter_sub_modes, block_vector, first_vectors, are_starts}
use Rattle.frame_header.specs.declared.header.Header.{Header}
use Rattle.mode_parser.specs.FrameModes.{first_modes}
use Rattle.mode_parser.specs.Appending.{one_more}

pub first_sub_modes-none : (tables : TableEntries) (above left : Option MbMode) (start : Reader) → first_sub_modes 0 tables above left start ≡ ([], start)
unfolding first_sub_modes
first_sub_modes-none tables above left start = refl

first_sub_modes-suc : (n : ℕ) (tables : TableEntries) (above left : Option MbMode) (before : List SubMode) (mode : SubMode) (start r s : Reader) → first_sub_modes n tables above left start ≡ (before, r) → key_sub_mode tables (mode_above above before n) (mode_left left before n) r ≡ (mode, s) → first_sub_modes (suc n) tables above left start ≡ (before ++ mode ∷ [], s)
unfolding first_sub_modes
first_sub_modes-suc n tables above left before mode start r s done told = rw (done, told) refl

-- the modes read so far are at the front of an array
pub first_sub_modes-more : (n : ℕ) (tables : TableEntries) (above left : Option MbMode) (modes : List SubMode) (mode : SubMode) (start r s : Reader) → n < length modes → first_sub_modes n tables above left start ≡ (take n modes, r) → key_sub_mode tables (mode_above above (take n modes) n) (mode_left left (take n modes) n) r ≡ (mode, s) → first_sub_modes (n + 1) tables above left start ≡ (take (n + 1) (set modes n mode), s)
first_sub_modes-more n tables above left modes mode start r s below done told =
    rw (take_more_set modes n mode below, add-one) (first_sub_modes-suc n tables above left (take n modes) mode start r s done told)

pub first_modes-none : (tables : TableEntries) (header : Header) (columns rows : ℕ) (map : Option (List ℕ)) (start : Reader) → first_modes 0 tables header columns rows map start ≡ ([], start)
unfolding first_modes
first_modes-none tables header columns rows map start = refl

first_modes-suc : (place : ℕ) (tables : TableEntries) (header : Header) (columns rows : ℕ) (map : Option (List ℕ)) (before after : List MbMode) (start r s : Reader) → length before ≡ place → first_modes place tables header columns rows map start ≡ (before, r) → one_more tables header columns rows map before r ≡ (after, s) → first_modes (suc place) tables header columns rows map start ≡ (after, s)
unfolding first_modes
first_modes-suc place tables header columns rows map before after start r s count done told = rw (done, ← count) told

pub first_modes-more : (place : ℕ) (tables : TableEntries) (header : Header) (columns rows : ℕ) (map : Option (List ℕ)) (before after : List MbMode) (start r s : Reader) → length before ≡ place → first_modes place tables header columns rows map start ≡ (before, r) → one_more tables header columns rows map before r ≡ (after, s) → first_modes (place + 1) tables header columns rows map start ≡ (after, s)
first_modes-more place tables header columns rows map before after start r s count done told =
    rw add-one (first_modes-suc place tables header columns rows map before after start r s count done told)

-- one macroblock more has a record more
pub one_more-length : (tables : TableEntries) (header : Header) (columns rows : ℕ) (map : Option (List ℕ)) (before after : List MbMode) (r s : Reader) → one_more tables header columns rows map before r ≡ (after, s) → length after ≡ length before + 1
one_more-length tables header columns rows map before after r s told = rw (← ap (λ p. p.0) told, length-append) refl

pub first_inter_sub_modes-none : (start : Reader) → first_inter_sub_modes 0 start ≡ ([], start)
unfolding first_inter_sub_modes
first_inter_sub_modes-none start = refl

first_inter_sub_modes-suc : (n : ℕ) (before : List SubMode) (mode : SubMode) (start r s : Reader) → first_inter_sub_modes n start ≡ (before, r) → sub_mode INTER_SUB_PROBABILITIES r ≡ (mode, s) → first_inter_sub_modes (suc n) start ≡ (before ++ mode ∷ [], s)
unfolding first_inter_sub_modes
first_inter_sub_modes-suc n before mode start r s done told = rw (done, told) refl

pub first_inter_sub_modes-more : (n : ℕ) (modes : List SubMode) (mode : SubMode) (start r s : Reader) → n < length modes → first_inter_sub_modes n start ≡ (take n modes, r) → sub_mode INTER_SUB_PROBABILITIES r ≡ (mode, s) → first_inter_sub_modes (n + 1) start ≡ (take (n + 1) (set modes n mode), s)
first_inter_sub_modes-more n modes mode start r s below done told =
    rw (take_more_set modes n mode below, add-one) (first_inter_sub_modes-suc n (take n modes) mode start r s done told)

pub first_vectors-none : (starts : List ℕ) (probabilities : List (List ℕ)) (best : MotionVector) (above left : Option MbMode) (start : Reader) → first_vectors 0 starts probabilities best above left start ≡ ([], start)
unfolding first_vectors
first_vectors-none starts probabilities best above left start = refl

first_vectors-suc : (n : ℕ) (starts : List ℕ) (probabilities : List (List ℕ)) (best : MotionVector) (above left : Option MbMode) (before : List MotionVector) (here : MotionVector) (start r s : Reader) → first_vectors n starts probabilities best above left start ≡ (before, r) → block_vector (slice_index starts n) probabilities best above left before n r ≡ (here, s) → first_vectors (suc n) starts probabilities best above left start ≡ (before ++ here ∷ [], s)
unfolding first_vectors
first_vectors-suc n starts probabilities best above left before here start r s done told = rw (done, told) refl

pub first_vectors-more : (n : ℕ) (starts : List ℕ) (probabilities : List (List ℕ)) (best : MotionVector) (above left : Option MbMode) (vectors : List MotionVector) (here : MotionVector) (start r s : Reader) → n < length vectors → first_vectors n starts probabilities best above left start ≡ (take n vectors, r) → block_vector (slice_index starts n) probabilities best above left (take n vectors) n r ≡ (here, s) → first_vectors (n + 1) starts probabilities best above left start ≡ (take (n + 1) (set vectors n here), s)
first_vectors-more n starts probabilities best above left vectors here start r s below done told =
    rw (take_more_set vectors n here below, add-one) (first_vectors-suc n starts probabilities best above left (take n vectors) here start r s done told)

-- a part starts at one of the blocks up to each of its own
pub are_starts-at : (block : ℕ) (starts : List ℕ) (k : ℕ) → are_starts block starts ≡ true → slice_index starts k ≤ block + k
are_starts-at block [] k are = omega arith
are_starts-at block (start ∷ starts) zero are = let here : start ≤ block = leb-true start block (and_parts (nat_le start block) (are_starts (suc block) starts) are).0 in omega arith
are_starts-at block (start ∷ starts) (suc k) are = let rest : are_starts (suc block) starts ≡ true = (and_parts (nat_le start block) (are_starts (suc block) starts) are).1 in let later : slice_index starts k ≤ suc block + k = are_starts-at (suc block) starts k rest in omega arith
