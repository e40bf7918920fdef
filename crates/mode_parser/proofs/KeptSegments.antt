-- The segments of a frame that does not update the segment map
use Rattle.std.proofs.Common.{◌≡◌, ℕ, zero, suc, false, List, [], ◌∷◌, ◌++◌, ◌+◌, map, refl, subst, arith, add-one}
use Rattle.std.specs.Prelude.{Option, if◌then◌else◌}
use Rattle.std.specs.List.{range_with_len}
use Rattle.std.proofs.lemmas.List.{map-append}
use Rattle.std.proofs.lemmas.List.FromFn.{map-range_with_len_more}
use Rattle.bool_coder.specs.Reader.{Reader}
use Rattle.vp8_tables.specs.Tables.{TableEntries}
use Rattle.frame_header.specs.declared.header.Header.{Header}
use Rattle.mode_parser.specs.declared.records.MbMode.{MbMode}
use Rattle.mode_parser.specs.Segments.{kept_segment, segment_at}
use Rattle.mode_parser.specs.FrameModes.{mode_at, first_modes}

-- the segment of a macroblock that is not read
abbrev untold : Header → Option (List ℕ) → ℕ → ℕ
untold header before place = if header.segmentation.is_enabled then kept_segment header.is_key before place else 0

mode_at-segment : (tables : TableEntries) (header : Header) (columns rows : ℕ) (before : Option (List ℕ)) (place : ℕ) (records : List MbMode) (r : Reader) → header.segmentation.updates_map ≡ false → (mode_at tables header columns rows before place records r).0.segment ≡ untold header before place
unfolding mode_at segment_at
mode_at-segment tables header columns rows before place records r kept = rw kept refl

untold-more : (header : Header) (before : Option (List ℕ)) (count : ℕ) → map (untold header before) (range_with_len 0 (suc count)) ≡ map (untold header before) (range_with_len 0 count) ++ untold header before count ∷ []
untold-more header before count =
    let more : map (untold header before) (range_with_len 0 (count + 1)) ≡ map (untold header before) (range_with_len 0 count) ++ untold header before count ∷ [] = map-range_with_len_more {X = ℕ} (untold header before) 0 count count (omega arith) in
    subst (λ n. map (untold header before) (range_with_len 0 n) ≡ map (untold header before) (range_with_len 0 count) ++ untold header before count ∷ []) (add-one count) more

pub first_modes-segments : (count : ℕ) (tables : TableEntries) (header : Header) (columns rows : ℕ) (before : Option (List ℕ)) (r : Reader) → header.segmentation.updates_map ≡ false → map (λ macroblock. macroblock.segment) (first_modes count tables header columns rows before r).0 ≡ map (untold header before) (range_with_len 0 count)
unfolding first_modes
first_modes-segments zero tables header columns rows before r kept = refl
first_modes-segments (suc count) tables header columns rows before r kept =
    let done = first_modes count tables header columns rows before r in
    rw (map-append, first_modes-segments count tables header columns rows before r kept, mode_at-segment tables header columns rows before count done.0 done.1 kept, untold-more header before count) refl
