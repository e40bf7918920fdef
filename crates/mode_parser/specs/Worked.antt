-- Examples that laws speak of.
use Rattle.std.specs.Prelude.{ℕ, Bool, true, false, ℤ, pos, List, [], ◌∷◌, replicate}
use Rattle.intra_predict.specs.declared.modes.WholeMode.TheVariants.{Dc}
use Rattle.frame_header.specs.declared.references.Reference.{Reference}
use Rattle.frame_header.specs.declared.context.SignBiases.{SignBiases}
use Rattle.mode_parser.specs.declared.records.VectorMode.{VectorMode}
use Rattle.mode_parser.specs.declared.records.YMode.TheVariants.{Inter}
use Rattle.mode_parser.specs.declared.records.MbMode.{MbMode}
use Rattle.mode_parser.specs.declared.nearby.MbPosition.{MbPosition}
use Rattle.mode_parser.specs.declared.nearby.Near.{Near}
use Rattle.mode_parser.specs.Vectors.{MotionVector}
use Rattle.mode_parser.specs.Records.{no_sub_modes}

-- a vector to the right
abbrev pub right_by : ℤ → MotionVector
right_by x = record { x = x; y = pos 0 }

-- a macroblock whose blocks all have one vector
abbrev pub moved : Reference → VectorMode → MotionVector → MbMode
moved reference mode vector = record { segment = 0; is_skipped = false; y_mode = Inter reference mode; sub_modes = no_sub_modes; uv_mode = Dc; vectors = replicate 16 vector }

-- golden has a sign bias
abbrev pub golden_biased : SignBiases
golden_biased = record { golden = true; altref = false }

-- the second macroblock of the second row of a frame of three by three
abbrev pub middle : MbPosition
middle = record { column = 1; row = 1; columns = 3; rows = 3 }

-- near vectors to the right, with their counts
abbrev pub near_right : List ℕ → ℤ → ℤ → ℤ → Near
near_right counts best nearest near = record { counts = counts; best = right_by best; nearest = right_by nearest; near = right_by near }

-- the bits of a row of 16 and of a column of 0, with the default probabilities (RFC 6386, section 17.2)
abbrev pub down_by_16 : List (Bool × ℕ)
down_by_16 = (true, 162) ∷ (false, 128) ∷ (false, 129) ∷ (false, 132) ∷ (false, 254) ∷ (false, 254) ∷ (false, 239) ∷ (false, 206) ∷ (false, 178) ∷ (true, 145) ∷ (false, 75) ∷ (false, 128) ∷ (false, 164) ∷ (false, 204) ∷ (false, 170) ∷ (false, 119) ∷ []
