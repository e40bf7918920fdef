-- The modes of a hold frame.
use Rattle.std.specs.Prelude.{Option, replicate, nat_lt, ◌==◌}
use Rattle.std.proofs.Common.{◌≡◌, ℕ, zero, suc, ◌+◌, ◌-◌, ◌*◌, ◌/◌, ◌%◌, ◌<◌, ◌≤◌, inl, inr, Bool, true, false, List, [], ◌∷◌, Some, None, refl, ap, ◌∙◌, arith, eq-eqb}
use Rattle.std.proofs.Math.Nat.{zero-mod, div-eq_of_lt, div-add-mod, mod-lt, mul-zero}
use Rattle.std.proofs.lemmas.Bool.{lt-ltb, le-ltb, ne_eqb, cases_lt, cases_eq}
use Rattle.vp8_tables.specs.Tables.{TableEntries}
use Rattle.vp8_tables.specs.declared.modes.TheConstants.{VECTOR_MODE_TREE}
use Rattle.bool_coder.specs.Reader.{Reader, read}
use Rattle.intra_predict.specs.declared.modes.WholeMode.TheVariants.{Dc}
use Rattle.mode_parser.specs.declared.records.YMode.TheVariants.{Inter}
use Rattle.mode_parser.specs.declared.records.VectorMode.TheVariants.{Zero}
use Rattle.mode_parser.specs.declared.records.MbMode.{MbMode}
use Rattle.mode_parser.specs.declared.nearby.MbPosition.{MbPosition}
use Rattle.mode_parser.specs.Records.{skip, no_sub_modes, no_vectors}
use Rattle.mode_parser.specs.InterRecords.{which_reference, vector_mode, counted_probability, counted_probabilities, vectors_by, referenced_mode, inter_mode}
use Rattle.mode_parser.specs.NearVectors.{near_of, listing_of}
use Rattle.mode_parser.specs.Segments.{segment_at}
use Rattle.mode_parser.specs.FrameModes.{record_above, record_left, record_above_left, place_of, mode_at, first_modes}
use Rattle.mode_parser.proofs.KeyShapes.{replicate-push}
use Rattle.mode_parser.proofs.Walks.{leaf_below-end}
use Rattle.bool_coder.specs.Trees.{leaf}
use Rattle.frame_header.specs.declared.references.Reference.TheVariants.{Last}
use Rattle.frame_header.specs.declared.context.Context.{Context}
use Rattle.packet_forge.specs.Pairs.{hold_macroblock, macroblock_pairs, zero_vector_probability}
use Rattle.packet_forge.proofs.Readings.{Reads, reads_both}
use Rattle.packet_forge.proofs.BlankModes.{skip-1}
use Rattle.packet_forge.proofs.Frames.{slice_get-replicate}
use Rattle.packet_forge.proofs.HoldFields.{no_biases, hold_references}
use Rattle.packet_forge.proofs.HoldHeaders.{hold_header_of}

-- the record of each macroblock
abbrev pub hold_mode : MbMode
hold_mode = record { segment = 0; is_skipped = true; y_mode = Inter Last Zero; sub_modes = no_sub_modes; uv_mode = Dc; vectors = no_vectors }

-- a neighbour that is in the frame or not
abbrev neighbour : Bool → Option MbMode
neighbour true = Some hold_mode
neighbour false = None

-- the probability of a zero vector between such neighbours
odds_none : (place : MbPosition) → counted_probability (near_of None None None Last no_biases place).counts 0 ≡ 7
unfolding near_of listing_of
odds_none place = refl

odds_left : (place : MbPosition) → counted_probability (near_of None (Some hold_mode) None Last no_biases place).counts 0 ≡ 135
unfolding near_of listing_of
odds_left place = refl

odds_above : (place : MbPosition) → counted_probability (near_of (Some hold_mode) None None Last no_biases place).counts 0 ≡ 135
unfolding near_of listing_of
odds_above place = refl

odds_both : (place : MbPosition) → counted_probability (near_of (Some hold_mode) (Some hold_mode) (Some hold_mode) Last no_biases place).counts 0 ≡ 234
unfolding near_of listing_of
odds_both place = refl

which_reference-last : (r s : Reader) → read 255 r ≡ (false, s) → which_reference hold_references r ≡ (Last, s)
unfolding which_reference
which_reference-last r s told = rw told refl

vector_mode-zero : (counts : List ℕ) (r s : Reader) → read (counted_probability counts 0) r ≡ (false, s) → vector_mode counts r ≡ (Zero, s)
unfolding vector_mode leaf
vector_mode-zero counts r s told =
    let walk = leaf_below-end 7 VECTOR_MODE_TREE (counted_probabilities counts) 0 r s false false told refl refl in
    rw walk refl

inter_mode-hold : (context : Context) (end : ℕ) (reader : Reader) (place : MbPosition) (above left above_left : Option MbMode) (odds : ℕ) (r s : Reader) → counted_probability (near_of above left above_left Last no_biases place).counts 0 ≡ odds → Reads ((true, 1) ∷ (true, 1) ∷ (false, 255) ∷ (false, odds) ∷ []) r s → inter_mode (hold_header_of context end reader) place above left above_left r ≡ (hold_mode, s)
unfolding inter_mode referenced_mode vectors_by
inter_mode-hold context end reader place above left above_left odds r s odds_are h =
    let a = h.mid in
    let b = h.following.mid in
    let c = h.following.following.mid in
    let skipped : skip (Some 1) r ≡ (true, a) = skip-1 r a h.bit in
    let referenced : read 1 a ≡ (true, b) = h.following.bit in
    let from : which_reference hold_references b ≡ (Last, c) = which_reference-last b c h.following.following.bit in
    let zero_read : read odds c ≡ (false, s) = h.following.following.following.bit ∙ ap (λ (t : Reader). (false, t)) h.following.following.following.following in
    let mode : vector_mode (near_of above left above_left Last no_biases place).counts c ≡ (Zero, s) = vector_mode-zero (near_of above left above_left Last no_biases place).counts c s (rw odds_are zero_read) in
    rw (skipped, referenced, from, mode) refl

segment_at-hold : (context : Context) (end : ℕ) (reader : Reader) (map : Option (List ℕ)) (place : ℕ) (r : Reader) → segment_at (hold_header_of context end reader) map place r ≡ (0, r)
unfolding segment_at
segment_at-hold context end reader map place r = refl

-- the neighbours of a macroblock that follows records that are all the same
record HasNeighbours (columns place : ℕ) (has_above has_left has_both : Bool) : Type 0 where
  above : record_above (replicate place hold_mode) columns place ≡ neighbour has_above
  left : record_left (replicate place hold_mode) columns place ≡ neighbour has_left
  above_left : record_above_left (replicate place hold_mode) columns place ≡ neighbour has_both
  row : nat_lt 0 (place / columns) ≡ has_above
  column : nat_lt 0 (place % columns) ≡ has_left

mode_with : (tables : TableEntries) (context : Context) (end : ℕ) (reader : Reader) (columns rows : ℕ) (map : Option (List ℕ)) (place : ℕ) (has_above has_left has_both : Bool) (r s : Reader) → HasNeighbours columns place has_above has_left has_both →
    counted_probability (near_of (neighbour has_above) (neighbour has_left) (neighbour has_both) Last no_biases (place_of columns rows place)).counts 0 ≡ zero_vector_probability has_above has_left → Reads (hold_macroblock columns place) r s →
    mode_at tables (hold_header_of context end reader) columns rows map place (replicate place hold_mode) r ≡ (hold_mode, s)
unfolding mode_at
mode_with tables context end reader columns rows map place has_above has_left has_both r s near odds h =
    let segment = segment_at-hold context end reader map place r in
    let h' : Reads ((true, 1) ∷ (true, 1) ∷ (false, 255) ∷ (false, zero_vector_probability has_above has_left) ∷ []) r s = rw (near.row, near.column) at h in
    let here = inter_mode-hold context end reader (place_of columns rows place) (neighbour has_above) (neighbour has_left) (neighbour has_both) (zero_vector_probability has_above has_left) r s odds h' in
    rw (segment, near.above, near.left, near.above_left, here) refl

mode_at-hold : (tables : TableEntries) (context : Context) (end : ℕ) (reader : Reader) (columns rows : ℕ) (map : Option (List ℕ)) (place : ℕ) (r s : Reader) → 0 < columns → Reads (hold_macroblock columns place) r s → mode_at tables (hold_header_of context end reader) columns rows map place (replicate place hold_mode) r ≡ (hold_mode, s)
mode_at-hold tables context end reader columns rows map place r s some h =
    elim (cases_lt place columns) [
      | inl first_row ↦
          let top : nat_lt place columns ≡ true = lt-ltb place columns first_row in
          let no_row : place / columns ≡ 0 = div_small place columns first_row in
          elim (cases_eq (place % columns) 0) [
            | inl edge ↦
                let at_edge : (place % columns == 0) ≡ true = eq-eqb (place % columns) 0 edge in
                mode_with tables context end reader columns rows map place false false false r s
                (record { above = rw top refl; left = rw at_edge refl; above_left = rw top refl; row = rw no_row refl; column = rw edge refl })
                (odds_none (place_of columns rows place)) h
            | inr inner ↦
                let inside : (place % columns == 0) ≡ false = ne_eqb (place % columns) 0 inner in
                let before : place - 1 < place = positive_before place columns inner in
                mode_with tables context end reader columns rows map place false true false r s
                (record { above = rw top refl; left = rw inside (slice_get-replicate place (place - 1) hold_mode before); above_left = rw top refl; row = rw no_row refl; column = lt-ltb 0 (place % columns) (omega (arith, inner)) })
                (odds_left (place_of columns rows place)) h
          ]
      | inr below ↦
          let under : nat_lt place columns ≡ false = le-ltb place columns below in
          let some_row : 0 < place / columns = div_large place columns some below in
          let upper : place - columns < place = omega (arith, some, below) in
          elim (cases_eq (place % columns) 0) [
            | inl edge ↦
                let at_edge : (place % columns == 0) ≡ true = eq-eqb (place % columns) 0 edge in
                mode_with tables context end reader columns rows map place true false false r s
                (record { above = rw under (slice_get-replicate place (place - columns) hold_mode upper); left = rw at_edge refl; above_left = rw (under, at_edge) refl; row = lt-ltb 0 (place / columns) some_row; column = rw edge refl })
                (odds_above (place_of columns rows place)) h
            | inr inner ↦
                let inside : (place % columns == 0) ≡ false = ne_eqb (place % columns) 0 inner in
                let before : place - 1 < place = omega (arith, some, below) in
                let both : place - columns - 1 < place = omega (arith, some, below) in
                mode_with tables context end reader columns rows map place true true true r s
                (record { above = rw under (slice_get-replicate place (place - columns) hold_mode upper); left = rw inside (slice_get-replicate place (place - 1) hold_mode before); above_left = rw (under, inside) (slice_get-replicate place (place - columns - 1) hold_mode both); row = lt-ltb 0 (place / columns) some_row; column = lt-ltb 0 (place % columns) (omega (arith, inner)) })
                (odds_both (place_of columns rows place)) h
          ]
    ]
  where
    div_small : (a b : ℕ) → a < b → a / b ≡ 0
    div_small a b h = div-eq_of_lt h

    div_large : (a b : ℕ) → 0 < b → b ≤ a → 0 < a / b
    div_large a b h k =
        elim (cases_eq (a / b) 0) [
          | inl none ↦
              let whole : b * (a / b) + a % b ≡ a = div-add-mod a b in
              let small : a % b < b = mod-lt a h in
              let less : b * (a / b) ≡ 0 = rw none (mul-zero b) in
              absurd (omega (arith, whole, less, small, k))
          | inr some ↦ omega (arith, some)
        ]

    positive_before : (a b : ℕ) → (a % b ≡ 0 → ⊥) → a - 1 < a
    positive_before zero b h = absurd (h (zero-mod b))
    positive_before (suc a) b h = omega arith

pub first_modes-hold : (count : ℕ) (tables : TableEntries) (context : Context) (end : ℕ) (reader : Reader) (columns rows : ℕ) (map : Option (List ℕ)) (r s : Reader) → 0 < columns → Reads (macroblock_pairs (hold_macroblock columns) count) r s → first_modes count tables (hold_header_of context end reader) columns rows map r ≡ (replicate count hold_mode, s)
unfolding first_modes macroblock_pairs
first_modes-hold zero tables context end reader columns rows map r s some h = ap (λ (t : Reader). ([], t)) h
first_modes-hold (suc count) tables context end reader columns rows map r s some h =
    let both = reads_both (macroblock_pairs (hold_macroblock columns) count) (hold_macroblock columns count) r s h in
    let before = first_modes-hold count tables context end reader columns rows map r both.mid some both.front in
    let here = mode_at-hold tables context end reader columns rows map count both.mid s some both.following in
    rw (before, here) (ap (λ (ms : List MbMode). (ms, s)) (replicate-push count hold_mode))
