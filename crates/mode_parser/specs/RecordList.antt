-- The records of a frame as they are stored: modes of sub blocks and vectors of split macroblocks are in lists of their own.
use Rattle.std.specs.Prelude.{◌≡◌, ◌<◌, Bool, true, false, Option, Some, None, List, length, replicate, slice_index_or, if◌then◌else◌}
use Rattle.intra_predict.specs.declared.modes.SubMode.{SubMode}
use Rattle.intra_predict.specs.declared.modes.WholeMode.{WholeMode}
use Rattle.intra_predict.specs.declared.modes.WholeMode.TheVariants.{Dc}
use Rattle.mode_parser.specs.declared.records.YMode.{YMode}
use Rattle.mode_parser.specs.declared.records.YMode.TheVariants.{Whole, B, Inter}
use Rattle.mode_parser.specs.declared.records.MbMode.{MbMode}
use Rattle.mode_parser.specs.declared.record_list.Stored.{Stored}
use Rattle.mode_parser.specs.declared.record_list.Record.{Record}
use Rattle.mode_parser.specs.declared.record_list.Neighbour.{Neighbour}
use Rattle.mode_parser.specs.declared.record_list.Moved.{Moved}
use Rattle.mode_parser.specs.Records.{no_sub_modes, no_vectors}
use Rattle.mode_parser.specs.NearVectors.{is_split_mode, vector_of}
use Rattle.mode_parser.specs.Vectors.{MotionVector}

-- whether a macroblock has modes of sub blocks (`B_PRED`)
abbrev pub has_sub_modes : YMode → Bool
has_sub_modes B = true
has_sub_modes (Whole mode) = false
has_sub_modes (Inter reference mode) = false

-- a stored record, with the lists in which its modes of sub blocks or its vectors are
abbrev pub stored_with : List (List SubMode) → List (List MotionVector) → Stored → MbMode
stored_with sub_modes vectors stored = record {
  segment = stored.segment;
  is_skipped = stored.is_skipped;
  y_mode = stored.y_mode;
  sub_modes = if has_sub_modes stored.y_mode then slice_index_or sub_modes stored.side no_sub_modes else no_sub_modes;
  uv_mode = stored.uv_mode;
  vectors = if is_split_mode stored.y_mode then slice_index_or vectors stored.side no_vectors else replicate 16 stored.vector;
}

-- the lists have what it needs, and its own vector is that of its last luma block
pub record IsInside (sub_modes : List (List SubMode)) (vectors : List (List MotionVector)) (stored : Stored) : Type 0 where
  pub modes : has_sub_modes stored.y_mode ≡ true → stored.side < length sub_modes
  pub split : is_split_mode stored.y_mode ≡ true → stored.side < length vectors
  pub last : vector_of (stored_with sub_modes vectors stored) ≡ stored.vector

-- the record that is read where it is stored
unfoldable pub mode_of : Record → MbMode
mode_of r = stored_with r.lists.now.sub_modes.items r.lists.now.vectors.items r.stored

-- a macroblock next to another one, if it is inside the frame
abbrev pub neighbour_of : Neighbour → Option MbMode
neighbour_of n = if n.is_inside then Some (stored_with n.lists.now.sub_modes.items n.lists.now.vectors.items n.stored) else None

-- its own vector is that of its last luma block
abbrev pub HasLastVector : Neighbour → Type 0
HasLastVector n = vector_of (stored_with n.lists.now.sub_modes.items n.lists.now.vectors.items n.stored) ≡ n.stored.vector

-- a record of this mode whose luma blocks all have this vector
abbrev pub moved_by : YMode → MotionVector → MbMode
moved_by y_mode vector = record { segment = 0; is_skipped = false; y_mode = y_mode; sub_modes = no_sub_modes; uv_mode = Dc; vectors = replicate 16 vector }

-- a neighbour, by the part of it on which near vectors depend
abbrev pub moved_mode : Moved → Option MbMode
moved_mode n = if n.is_inside then Some (moved_by n.y_mode n.vector) else None

abbrev pub as_moved : Option MbMode → Option MbMode
as_moved None = None
as_moved (Some mode) = Some (moved_by mode.y_mode (vector_of mode))

-- the luma mode of a macroblock without a reference: that of the whole block, or `B_PRED`
abbrev pub own_or_whole : Option WholeMode → YMode
own_or_whole None = B
own_or_whole (Some mode) = Whole mode
