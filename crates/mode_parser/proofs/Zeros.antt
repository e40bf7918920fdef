-- The result of a reader with only zeros before it
use Rattle.std.proofs.Common.{◌≡◌, ◌∙◌, ℕ, zero, suc, Bool, true, false, List, [], ◌∷◌, replicate, refl, arith}
use Rattle.std.specs.Prelude.{nat_le, nat_lt, ◌==◌, Option, Some, None, slice_index, if◌then◌else◌}
use Rattle.std.specs.List.{list_all}
use Rattle.std.proofs.lemmas.Bool.{and_parts, eqb-true}
use Rattle.std.proofs.lemmas.Bool.Decides.{nat_tests}
use Rattle.bool_coder.specs.Reading.{give}
use Rattle.bool_coder.specs.Reader.{Reader, next_bit, after_bit, doubled, renewed, split_of, read}
use Rattle.vp8_tables.specs.Tables.{TableEntries, key_sub_nodes_of}
use Rattle.vp8_tables.specs.declared.modes.TheConstants.{SUB_TREE, KEY_Y_TREE, KEY_Y_PROBABILITIES, UV_TREE, KEY_UV_PROBABILITIES, SEGMENT_TREE}
use Rattle.intra_predict.specs.declared.modes.WholeMode.TheVariants.{Dc as WholeDc}
use Rattle.intra_predict.specs.declared.modes.SubMode.{SubMode}
use Rattle.intra_predict.specs.declared.modes.SubMode.TheVariants.{Dc}
use Rattle.mode_parser.specs.declared.records.YMode.{YMode}
use Rattle.mode_parser.specs.declared.records.YMode.TheVariants.{B}
use Rattle.frame_header.specs.declared.header.Header.{Header}
use Rattle.mode_parser.specs.declared.records.MbMode.{MbMode}
use Rattle.mode_parser.specs.SubModes.{number_of, mode_above, mode_left, key_sub_mode, first_sub_modes}
use Rattle.mode_parser.specs.Records.{skip, key_y_mode, chroma_mode, no_sub_modes, key_sub_modes, key_mode}
use Rattle.mode_parser.specs.FrameModes.{prediction_at, mode_at, first_modes}
use Rattle.mode_parser.specs.Segments.{segment_number, kept_segment, segment_at}
use Rattle.mode_parser.specs.KeyShape.{ReadsZeros, dc_record}
use Rattle.mode_parser.proofs.KeyShapes.{replicate-push}
use Rattle.mode_parser.proofs.KeyTrees.{sub_mode-leaf, key_y_mode-leaf, chroma_mode-leaf, segment_number-leaf}
use Rattle.mode_parser.proofs.Walks.{leaf_below-on, leaf_below-end}

next-zero : (rest : List ℕ) → list_all (λ bit. bit == 0) rest ≡ true → next_bit rest ≡ 0
next-zero [] zeros = refl
next-zero (bit ∷ rest) zeros = eqb-true _ _ (and_parts _ _ zeros).0

after-zero : (rest : List ℕ) → list_all (λ bit. bit == 0) rest ≡ true → list_all (λ bit. bit == 0) (after_bit rest) ≡ true
after-zero [] zeros = refl
after-zero (bit ∷ rest) zeros = (and_parts _ _ zeros).1

doubled-zeros : (r : Reader) → ReadsZeros r → ReadsZeros (doubled r)
doubled-zeros r zeros =
    let next : next_bit r.rest ≡ 0 = next-zero r.rest zeros.rest in
    record { window = omega (arith, next, zeros.window); rest = after-zero r.rest zeros.rest }

renewed-zeros : (n : ℕ) (r : Reader) → ReadsZeros r → ReadsZeros (renewed n r)
unfolding renewed
renewed-zeros zero r zeros = zeros
renewed-zeros (suc n) r zeros =
    elim (nat_lt r.range 128) as (λ b. ReadsZeros (if b then renewed n (doubled r) else r)) [
      | true ↦ renewed-zeros n (doubled r) (doubled-zeros r zeros)
      | false ↦ zeros
    ]

-- a reading gave a value, and left only zeros
pub record Gives {A : Type 0} (told : A × Reader) (value : A) : Type 0 where
  pub same : told.0 ≡ value
  pub zeros : ReadsZeros told.1

read-zeros : (prob : ℕ) (r : Reader) → ReadsZeros r → Gives (read prob r) false
unfolding read
read-zeros prob r zeros =
    let below : nat_le (split_of prob r.range) r.d ≡ false = grind (arith, nat_tests, zeros.window) in
    rw below (record { same = refl; zeros = renewed-zeros 7 (record r { range = split_of prob r.range }) (record { window = zeros.window; rest = zeros.rest }) })

read-false : (prob : ℕ) (r : Reader) → ReadsZeros r → read prob r ≡ (false, (read prob r).1)
read-false prob r zeros = rw (← (read-zeros prob r zeros).same) refl

-- a walk that the first bit ends returns that leaf
gives : {A : Type 0} (told : A × Reader) (value : A) (r : Reader) → told ≡ (value, r) → ReadsZeros r → Gives told value
gives told value r is zeros = rw is (record { same = refl; zeros = zeros })

skip-zeros : (skip_probability : Option ℕ) (r : Reader) → ReadsZeros r → Gives (skip skip_probability r) false
unfolding skip
skip-zeros None r zeros = record { same = refl; zeros = zeros }
skip-zeros (Some prob) r zeros = read-zeros prob r zeros

if_same : (b : Bool) (x : ℕ) → x ≡ 0 → (if b then x else 0) ≡ 0
if_same true x same = same
if_same false x same = refl

key_y_mode-zeros : (r : Reader) → ReadsZeros r → Gives (key_y_mode r) B
key_y_mode-zeros r zeros =
    gives _ _ _ (key_y_mode-leaf _ _ _ (leaf_below-end 7 KEY_Y_TREE KEY_Y_PROBABILITIES 0 _ _ _ false (read-false 145 r zeros) refl refl)) (read-zeros 145 r zeros).zeros

key_uv_mode-zeros : (r : Reader) → ReadsZeros r → Gives (chroma_mode KEY_UV_PROBABILITIES r) WholeDc
key_uv_mode-zeros r zeros =
    gives _ _ _ (chroma_mode-leaf _ _ _ _ (leaf_below-end 5 UV_TREE KEY_UV_PROBABILITIES 0 _ _ _ false (read-false 142 r zeros) refl refl)) (read-zeros 142 r zeros).zeros

key_sub_mode-zeros : (tables : TableEntries) (above left : SubMode) (r : Reader) → ReadsZeros r → Gives (key_sub_mode tables above left r) Dc
key_sub_mode-zeros tables above left r zeros =
    let prob : ℕ = slice_index (key_sub_nodes_of tables (number_of above) (number_of left)) 0 in
    gives _ _ _ (sub_mode-leaf _ _ _ _ (leaf_below-end 17 SUB_TREE _ 0 _ _ _ false (read-false prob r zeros) refl refl)) (read-zeros prob r zeros).zeros

first_sub_modes-zeros : (n : ℕ) (tables : TableEntries) (above left : Option MbMode) (r : Reader) → ReadsZeros r → Gives (first_sub_modes n tables above left r) (replicate n Dc)
unfolding first_sub_modes
first_sub_modes-zeros zero tables above left r zeros = record { same = refl; zeros = zeros }
first_sub_modes-zeros (suc n) tables above left r zeros =
    let before = first_sub_modes-zeros n tables above left r zeros in
    let modes : List SubMode = (first_sub_modes n tables above left r).0 in
    let here = key_sub_mode-zeros tables (mode_above above modes n) (mode_left left modes n) _ before.zeros in
    record { same = rw (here.same, before.same) (replicate-push n Dc); zeros = here.zeros }

key_sub_modes-zeros : (y_mode : YMode) (tables : TableEntries) (above left : Option MbMode) (r : Reader) → y_mode ≡ B → ReadsZeros r → Gives (key_sub_modes y_mode tables above left r) no_sub_modes
unfolding key_sub_modes
key_sub_modes-zeros y_mode tables above left r is zeros = rw is (first_sub_modes-zeros 16 tables above left r zeros)

key_mode-zeros : (tables : TableEntries) (skip_probability : Option ℕ) (above left : Option MbMode) (r : Reader) → ReadsZeros r → Gives (key_mode tables skip_probability above left r) dc_record
unfolding key_mode
key_mode-zeros tables skip_probability above left r zeros =
    let skipped = skip-zeros skip_probability r zeros in
    let luma = key_y_mode-zeros _ skipped.zeros in
    let subs = key_sub_modes-zeros _ tables above left _ luma.same luma.zeros in
    let chroma = key_uv_mode-zeros _ subs.zeros in
    record { same = rw (skipped.same, subs.same, chroma.same, luma.same) refl; zeros = chroma.zeros }

kept_segment-key : (is_key : Bool) (map : Option (List ℕ)) (place : ℕ) → is_key ≡ true → kept_segment is_key map place ≡ 0
kept_segment-key is_key map place key = rw key refl

segment_number-zeros : (probabilities : List ℕ) (r : Reader) → ReadsZeros r → Gives (segment_number probabilities r) 0
segment_number-zeros probabilities r zeros =
    let first = read-zeros (slice_index probabilities 0) r zeros in
    let second = read-zeros (slice_index probabilities 1) (read (slice_index probabilities 0) r).1 first.zeros in
    let walk = leaf_below-on 5 SEGMENT_TREE probabilities 0 _ _ _ false (read-false _ r zeros) refl refl ∙ leaf_below-end 4 SEGMENT_TREE probabilities 2 _ _ _ false (read-false _ _ first.zeros) refl refl in
    gives _ _ _ (segment_number-leaf probabilities 0 _ _ walk) second.zeros

segment_at-zeros : (header : Header) (map : Option (List ℕ)) (place : ℕ) (r : Reader) → header.is_key ≡ true → ReadsZeros r → Gives (segment_at header map place r) 0
unfolding segment_at
segment_at-zeros header map place r key zeros =
    let kept : (if header.segmentation.is_enabled then kept_segment header.is_key map place else 0) ≡ 0 = if_same header.segmentation.is_enabled _ (kept_segment-key header.is_key map place key) in
    elim header.segmentation.updates_map as (λ b. Gives ((if b then segment_number header.segmentation.map_probabilities else give (if header.segmentation.is_enabled then kept_segment header.is_key map place else 0)) r) 0) [
      | true ↦ segment_number-zeros header.segmentation.map_probabilities r zeros
      | false ↦ record { same = kept; zeros = zeros }
    ]

prediction_at-zeros : (tables : TableEntries) (header : Header) (columns rows place : ℕ) (before : List MbMode) (r : Reader) → header.is_key ≡ true → ReadsZeros r → Gives (prediction_at tables header columns rows place before r) dc_record
prediction_at-zeros tables header columns rows place before r key zeros = rw key (key_mode-zeros tables header.skip_probability _ _ r zeros)

mode_at-zeros : (tables : TableEntries) (header : Header) (columns rows : ℕ) (map : Option (List ℕ)) (place : ℕ) (before : List MbMode) (r : Reader) → header.is_key ≡ true → ReadsZeros r → Gives (mode_at tables header columns rows map place before r) dc_record
unfolding mode_at
mode_at-zeros tables header columns rows map place before r key zeros =
    let segment = segment_at-zeros header map place r key zeros in
    let rest = prediction_at-zeros tables header columns rows place before _ key segment.zeros in
    record { same = rw (rest.same, segment.same) refl; zeros = rest.zeros }

pub first_modes-zeros : (count : ℕ) (tables : TableEntries) (header : Header) (columns rows : ℕ) (map : Option (List ℕ)) (r : Reader) → header.is_key ≡ true → ReadsZeros r → Gives (first_modes count tables header columns rows map r) (replicate count dc_record)
unfolding first_modes
first_modes-zeros zero tables header columns rows map r key zeros = record { same = refl; zeros = zeros }
first_modes-zeros (suc count) tables header columns rows map r key zeros =
    let before = first_modes-zeros count tables header columns rows map r key zeros in
    let here = mode_at-zeros tables header columns rows map count _ _ key before.zeros in
    record { same = rw (here.same, before.same) (replicate-push count dc_record); zeros = here.zeros }
