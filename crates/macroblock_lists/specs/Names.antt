-- The names of modes and references in RFC 6386.
use Rattle.std.specs.Prelude.{ℕ, List, codes}
use Rattle.intra_predict.specs.declared.modes.WholeMode.{WholeMode}
use Rattle.intra_predict.specs.declared.modes.WholeMode.TheVariants as whole
use Rattle.intra_predict.specs.declared.modes.SubMode.{SubMode}
use Rattle.intra_predict.specs.declared.modes.SubMode.TheVariants as sub
use Rattle.frame_header.specs.declared.references.Reference.{Reference}
use Rattle.frame_header.specs.declared.references.Reference.TheVariants.{Last, Golden, Altref}
use Rattle.mode_parser.specs.declared.records.Split.{Split}
use Rattle.mode_parser.specs.declared.records.Split.TheVariants as splits
use Rattle.mode_parser.specs.declared.records.VectorMode.{VectorMode}
use Rattle.mode_parser.specs.declared.records.VectorMode.TheVariants as vectors
use Rattle.mode_parser.specs.declared.records.YMode.{YMode}
use Rattle.mode_parser.specs.declared.records.YMode.TheVariants.{Whole, B, Inter}

-- a whole block's mode (section 8.2)
abbrev pub whole_name : WholeMode → List ℕ
whole_name whole.Dc = codes "DC_PRED"
whole_name whole.V = codes "V_PRED"
whole_name whole.H = codes "H_PRED"
whole_name whole.Tm = codes "TM_PRED"

-- a sub block's mode (section 8.2)
abbrev pub sub_name : SubMode → List ℕ
sub_name sub.Dc = codes "B_DC_PRED"
sub_name sub.Tm = codes "B_TM_PRED"
sub_name sub.Ve = codes "B_VE_PRED"
sub_name sub.He = codes "B_HE_PRED"
sub_name sub.Ld = codes "B_LD_PRED"
sub_name sub.Rd = codes "B_RD_PRED"
sub_name sub.Vr = codes "B_VR_PRED"
sub_name sub.Vl = codes "B_VL_PRED"
sub_name sub.Hd = codes "B_HD_PRED"
sub_name sub.Hu = codes "B_HU_PRED"

-- the source of a macroblock's vectors (section 16.3)
abbrev pub vector_mode_name : VectorMode → List ℕ
vector_mode_name vectors.Zero = codes "mv_zero"
vector_mode_name vectors.Nearest = codes "mv_nearest"
vector_mode_name vectors.Near = codes "mv_near"
vector_mode_name vectors.New = codes "mv_new"
vector_mode_name vectors.Split = codes "mv_split"

-- the parts of a split macroblock (section 16.4)
abbrev pub split_name : Split → List ℕ
split_name splits.TopBottom = codes "mv_top_bottom"
split_name splits.LeftRight = codes "mv_left_right"
split_name splits.Quarters = codes "mv_quarters"
split_name splits.Sixteenths = codes "MV_16"

-- the luma mode
abbrev pub luma_name : YMode → List ℕ
luma_name (Whole mode) = whole_name mode
luma_name B = codes "B_PRED"
luma_name (Inter reference mode) = vector_mode_name mode

-- the reference, `intra` if there is none
abbrev pub which_name : Reference → List ℕ
which_name Last = codes "last"
which_name Golden = codes "golden"
which_name Altref = codes "altref"

abbrev pub reference_name : YMode → List ℕ
reference_name (Whole mode) = codes "intra"
reference_name B = codes "intra"
reference_name (Inter reference mode) = which_name reference
