-- Modes by the leaf to which a walk leads
use Rattle.std.proofs.Common.{◌≡◌, ℕ, List, slice_index_or, refl}
use Rattle.bool_coder.specs.Reader.{Reader}
use Rattle.bool_coder.specs.Trees.{leaf_below, leaf}
use Rattle.vp8_tables.specs.declared.modes.TheConstants.{SUB_TREE, KEY_Y_TREE, KEY_Y_PROBABILITIES, UV_TREE, SEGMENT_TREE}
use Rattle.intra_predict.specs.declared.modes.WholeMode.TheVariants.{Tm}
use Rattle.mode_parser.specs.declared.records.YMode.TheVariants.{B}
use Rattle.mode_parser.specs.SubModes.{sub_mode_of, sub_mode}
use Rattle.mode_parser.specs.Segments.{segment_number}
use Rattle.mode_parser.specs.Records.{y_modes, uv_modes, key_y_mode, chroma_mode}

pub sub_mode-leaf : (nodes : List ℕ) (number : ℕ) (r s : Reader) → leaf_below 18 SUB_TREE nodes 0 r ≡ (number, s) → sub_mode nodes r ≡ (sub_mode_of number, s)
unfolding sub_mode leaf
sub_mode-leaf nodes number r s told = rw told refl

pub key_y_mode-leaf : (number : ℕ) (r s : Reader) → leaf_below 8 KEY_Y_TREE KEY_Y_PROBABILITIES 0 r ≡ (number, s) → key_y_mode r ≡ (slice_index_or y_modes number B, s)
unfolding key_y_mode leaf
key_y_mode-leaf number r s told = rw told refl

pub chroma_mode-leaf : (probabilities : List ℕ) (number : ℕ) (r s : Reader) → leaf_below 6 UV_TREE probabilities 0 r ≡ (number, s) → chroma_mode probabilities r ≡ (slice_index_or uv_modes number Tm, s)
unfolding chroma_mode leaf
chroma_mode-leaf probabilities number r s told = rw told refl

pub segment_number-leaf : (probabilities : List ℕ) (number : ℕ) (r s : Reader) → leaf_below 6 SEGMENT_TREE probabilities 0 r ≡ (number, s) → segment_number probabilities r ≡ (number, s)
unfolding segment_number leaf
segment_number-leaf probabilities number r s told = rw told refl
