-- A level that is clamped
use Rattle.std.proofs.Common.{◌≡◌, ℕ, ℤ, pos, negsuc, Bool, false, List, refl, arith}
use Rattle.std.specs.Prelude.{Some, min, slice_get, slice_index_or, unsigned_abs}
use Rattle.std.specs.Int.{int_max, int_min}
use Rattle.std.proofs.lemmas.Int.{ints}
use Rattle.frame_header.specs.declared.header.Header.{Header}
use Rattle.mode_parser.specs.declared.records.MbMode.{MbMode}
use Rattle.loop_filter.specs.Levels.{clamped_level, level_of, record_by}
use Rattle.loop_filter.specs.Frames.{strength_at, strength_of}

held-is : (n : ℕ) → unsigned_abs (int_max (pos 0) (int_min (pos n) (pos 63))) ≡ min n 63
held-is n = grind (arith, ints)

pub clamped-is : (level : ℤ) → unsigned_abs (int_max (pos 0) (int_min level (pos 63))) ≡ clamped_level level
clamped-is (pos n) = held-is n
clamped-is (negsuc n) = refl

-- the limits of the macroblock at an index, by the segment and the mode of its record
pub strength_at-is : (header : Header) (records : List MbMode) (flags : List Bool) (place : ℕ) (mode : MbMode) → slice_get records place ≡ Some mode → strength_of header (record_by mode.segment mode.y_mode) (slice_index_or flags place false) ≡ strength_at header records flags place
unfolding strength_at strength_of level_of
strength_at-is header records flags place mode is = rw is refl
