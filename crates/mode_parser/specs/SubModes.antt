-- The sub block modes of a macroblock in a key frame (RFC 6386, sections 11.2 and 11.3).
use Rattle.std.specs.Prelude.{ℕ, zero, suc, ◌+◌, ◌-◌, ◌%◌, ◌==◌, nat_lt, Option, Some, None, List, [], ◌∷◌, ◌++◌, slice_index_or, if◌then◌else◌}
use Rattle.bool_coder.specs.Reading.{Reading, ◌>>=◌, give}
use Rattle.bool_coder.specs.Trees.{leaf}
use Rattle.vp8_tables.specs.Tables.{TableEntries, key_sub_nodes_of}
use Rattle.vp8_tables.specs.declared.modes.TheConstants.{SUB_TREE}
use Rattle.intra_predict.specs.declared.modes.WholeMode.{WholeMode}
use Rattle.intra_predict.specs.declared.modes.WholeMode.TheVariants.{Dc as WholeDc, V, H, Tm as WholeTm}
use Rattle.intra_predict.specs.declared.modes.SubMode.{SubMode}
use Rattle.intra_predict.specs.declared.modes.SubMode.TheVariants.{Dc, Tm, Ve, He, Ld, Rd, Vr, Vl, Hd, Hu}
use Rattle.mode_parser.specs.declared.records.YMode.{YMode}
use Rattle.mode_parser.specs.declared.records.YMode.TheVariants.{Whole, B, Inter}
use Rattle.mode_parser.specs.declared.records.MbMode.{MbMode}

-- the modes of sub blocks in the order of their numbers, which are the leaves of their tree (section 11.2)
abbrev pub sub_modes : List SubMode
sub_modes = Dc ∷ Tm ∷ Ve ∷ He ∷ Ld ∷ Rd ∷ Vr ∷ Vl ∷ Hd ∷ Hu ∷ []

abbrev pub sub_mode_of : ℕ → SubMode
sub_mode_of number = slice_index_or sub_modes number Hu

-- the number of a sub block's mode
abbrev pub number_of : SubMode → ℕ
number_of Dc = 0
number_of Tm = 1
number_of Ve = 2
number_of He = 3
number_of Ld = 4
number_of Rd = 5
number_of Vr = 6
number_of Vl = 7
number_of Hd = 8
number_of Hu = 9

-- the sub block mode as which a whole block's mode counts for its neighbours (section 11.3)
abbrev pub counterpart : WholeMode → SubMode
counterpart WholeDc = Dc
counterpart V = Ve
counterpart H = He
counterpart WholeTm = Tm

-- the mode of sub block n of a macroblock, as its neighbours take it; outside the frame it is DC (section 11.3). No macroblock
-- of a key frame has a reference
abbrev pub counted_mode : YMode → List SubMode → ℕ → SubMode
counted_mode (Whole mode) modes n = counterpart mode
counted_mode B modes n = slice_index_or modes n Dc
counted_mode (Inter reference mode) modes n = Dc

abbrev pub context_in : Option MbMode → ℕ → SubMode
context_in None n = Dc
context_in (Some macroblock) n = counted_mode macroblock.y_mode macroblock.sub_modes n

-- the mode above sub block n, in its own macroblock, of which those before it are known, or in the one above
abbrev pub mode_above : Option MbMode → List SubMode → ℕ → SubMode
mode_above above before n = if nat_lt n 4 then context_in above (n + 12) else slice_index_or before (n - 4) Dc

-- the mode to the left of sub block n, in its own macroblock or in the one to the left
abbrev pub mode_left : Option MbMode → List SubMode → ℕ → SubMode
mode_left left before n = if n % 4 == 0 then context_in left (n + 3) else slice_index_or before (n - 1) Dc

-- a mode by the probabilities of the tree's nodes (section 11.2)
unfoldable pub sub_mode : List ℕ → Reading SubMode
sub_mode nodes = do
  number ← leaf SUB_TREE nodes
  give (sub_mode_of number)

-- the mode of a sub block below and to the right of these (section 11.3)
abbrev pub key_sub_mode : TableEntries → SubMode → SubMode → Reading SubMode
key_sub_mode tables above left = sub_mode (key_sub_nodes_of tables (number_of above) (number_of left))

-- the modes of the first n sub blocks, in raster order
unfoldable pub first_sub_modes : ℕ → TableEntries → Option MbMode → Option MbMode → Reading (List SubMode)
first_sub_modes zero tables above left = give []
first_sub_modes (suc n) tables above left = do
  before ← first_sub_modes n tables above left
  mode ← key_sub_mode tables (mode_above above before n) (mode_left left before n)
  give (before ++ mode ∷ [])
