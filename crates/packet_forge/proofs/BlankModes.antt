-- The modes of a blank frame.
use Rattle.std.specs.Prelude.{Option, replicate}
use Rattle.std.proofs.Common.{◌≡◌, ℕ, zero, suc, true, false, List, [], Some, refl, ap, ◌∙◌}
use Rattle.vp8_tables.specs.Tables.{TableEntries}
use Rattle.vp8_tables.specs.declared.modes.TheConstants.{KEY_Y_TREE, KEY_Y_PROBABILITIES, UV_TREE, KEY_UV_PROBABILITIES}
use Rattle.bool_coder.specs.Reader.{Reader, read}
use Rattle.intra_predict.specs.declared.modes.WholeMode.TheVariants.{Dc}
use Rattle.mode_parser.specs.declared.records.YMode.TheVariants.{Whole}
use Rattle.mode_parser.specs.declared.records.MbMode.{MbMode}
use Rattle.mode_parser.specs.Records.{skip, key_y_mode, chroma_mode, no_sub_modes, no_vectors, key_sub_modes, key_mode}
use Rattle.mode_parser.specs.Segments.{segment_at}
use Rattle.mode_parser.specs.FrameModes.{mode_at, first_modes}
use Rattle.mode_parser.proofs.KeyShapes.{replicate-push}
use Rattle.mode_parser.proofs.KeyTrees.{key_y_mode-leaf, chroma_mode-leaf}
use Rattle.mode_parser.proofs.Walks.{leaf_below-on, leaf_below-end}
use Rattle.packet_forge.specs.Pairs.{blank_macroblock, macroblock_pairs}
use Rattle.packet_forge.proofs.Readings.{Reads, reads_both}
use Rattle.packet_forge.proofs.ForgedHeaders.{blank_header_of}

-- the record of each macroblock
abbrev pub grey_mode : MbMode
grey_mode = record { segment = 0; is_skipped = true; y_mode = Whole Dc; sub_modes = no_sub_modes; uv_mode = Dc; vectors = no_vectors }

pub skip-1 : (r s : Reader) → read 1 r ≡ (true, s) → skip (Some 1) r ≡ (true, s)
unfolding skip
skip-1 r s told = told

key_y_mode-dc : (r a b c : Reader) → read 145 r ≡ (true, a) → read 156 a ≡ (false, b) → read 163 b ≡ (false, c) → key_y_mode r ≡ (Whole Dc, c)
key_y_mode-dc r a b c first second third =
    key_y_mode-leaf 0 r c
    (leaf_below-on 7 KEY_Y_TREE KEY_Y_PROBABILITIES 0 r a true true first refl refl
    ∙ leaf_below-on 6 KEY_Y_TREE KEY_Y_PROBABILITIES 2 a b false false second refl refl
    ∙ leaf_below-end 5 KEY_Y_TREE KEY_Y_PROBABILITIES 4 b c false false third refl refl)

chroma_mode-dc : (r s : Reader) → read 142 r ≡ (false, s) → chroma_mode KEY_UV_PROBABILITIES r ≡ (Dc, s)
chroma_mode-dc r s told = chroma_mode-leaf KEY_UV_PROBABILITIES 0 r s (leaf_below-end 5 UV_TREE KEY_UV_PROBABILITIES 0 r s false false told refl refl)

key_sub_modes-whole : (tables : TableEntries) (above left : Option MbMode) (r : Reader) → key_sub_modes (Whole Dc) tables above left r ≡ (no_sub_modes, r)
unfolding key_sub_modes
key_sub_modes-whole tables above left r = refl

key_mode-grey : (tables : TableEntries) (above left : Option MbMode) (r s : Reader) → Reads blank_macroblock r s → key_mode tables (Some 1) above left r ≡ (grey_mode, s)
unfolding key_mode
key_mode-grey tables above left r s h =
    let a = h.mid in
    let d = h.following.following.following.mid in
    let skipped : skip (Some 1) r ≡ (true, a) = skip-1 r a h.bit in
    let luma : key_y_mode a ≡ (Whole Dc, d) = key_y_mode-dc a h.following.mid h.following.following.mid d h.following.bit h.following.following.bit h.following.following.following.bit in
    let subs : key_sub_modes (Whole Dc) tables above left d ≡ (no_sub_modes, d) = key_sub_modes-whole tables above left d in
    let chroma : chroma_mode KEY_UV_PROBABILITIES d ≡ (Dc, s) = chroma_mode-dc d s (h.following.following.following.following.bit ∙ ap (λ (t : Reader). (false, t)) h.following.following.following.following.following) in
    rw (skipped, luma, subs, chroma) refl

segment_at-blank : (tables : TableEntries) (width height end : ℕ) (reader : Reader) (map : Option (List ℕ)) (place : ℕ) (r : Reader) → segment_at (blank_header_of tables width height end reader) map place r ≡ (0, r)
unfolding segment_at
segment_at-blank tables width height end reader map place r = refl

mode_at-grey : (tables : TableEntries) (width height end : ℕ) (reader : Reader) (columns rows : ℕ) (map : Option (List ℕ)) (place : ℕ) (before : List MbMode) (r s : Reader) → Reads blank_macroblock r s → mode_at tables (blank_header_of tables width height end reader) columns rows map place before r ≡ (grey_mode, s)
unfolding mode_at
mode_at-grey tables width height end reader columns rows map place before r s h =
    let segment = segment_at-blank tables width height end reader map place r in
    rw (segment, key_mode-grey tables _ _ r s h) refl

pub first_modes-grey : (count : ℕ) (tables : TableEntries) (width height end : ℕ) (reader : Reader) (columns rows : ℕ) (map : Option (List ℕ)) (r s : Reader) → Reads (macroblock_pairs (λ place. blank_macroblock) count) r s → first_modes count tables (blank_header_of tables width height end reader) columns rows map r ≡ (replicate count grey_mode, s)
unfolding first_modes macroblock_pairs
first_modes-grey zero tables width height end reader columns rows map r s h = ap (λ (t : Reader). ([], t)) h
first_modes-grey (suc count) tables width height end reader columns rows map r s h =
    let both = reads_both (macroblock_pairs (λ place. blank_macroblock) count) blank_macroblock r s h in
    let before = first_modes-grey count tables width height end reader columns rows map r both.mid both.front in
    let here = mode_at-grey tables width height end reader columns rows map count (replicate count grey_mode) both.mid s both.following in
    rw (before, here) (ap (λ (ms : List MbMode). (ms, s)) (replicate-push count grey_mode))
