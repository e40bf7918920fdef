-- What every record has in common, what every record of a key frame has besides, and the record read from zeros.
use Rattle.std.specs.Prelude.{◌≡◌, ◌==◌, true, false, length}
use Rattle.std.specs.List.{list_all}
use Rattle.bool_coder.specs.Reader.{Reader}
use Rattle.intra_predict.specs.declared.modes.WholeMode.{WholeMode}
use Rattle.intra_predict.specs.declared.modes.WholeMode.TheVariants.{Dc}
use Rattle.mode_parser.specs.declared.records.YMode.TheVariants.{Whole, B}
use Rattle.mode_parser.specs.declared.records.MbMode.{MbMode}
use Rattle.mode_parser.specs.Records.{no_sub_modes, no_vectors}

-- it has 16 sub block modes and 16 vectors
pub record HasShape (macroblock : MbMode) : Type 0 where
  pub sub_modes : length macroblock.sub_modes ≡ 16
  pub vectors : length macroblock.vectors ≡ 16

-- it has 16 sub block modes, which are DC if luma is predicted as a whole, and no vectors
pub record HasKeyShape (macroblock : MbMode) : Type 0 where
  pub sixteen : length macroblock.sub_modes ≡ 16
  pub whole : (mode : WholeMode) → macroblock.y_mode ≡ Whole mode → macroblock.sub_modes ≡ no_sub_modes
  pub vectors : macroblock.vectors ≡ no_vectors

-- a reader that has only zeros in its window and after it
pub record ReadsZeros (r : Reader) : Type 0 where
  pub window : r.d ≡ 0
  pub rest : list_all (λ bit. bit == 0) r.rest ≡ true

-- a macroblock that is not skipped, with sub block modes that are all DC, and chroma mode DC
abbrev pub dc_record : MbMode
dc_record = record { segment = 0; is_skipped = false; y_mode = B; sub_modes = no_sub_modes; uv_mode = Dc; vectors = no_vectors }
