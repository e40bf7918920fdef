use Rattle.std.specs.Prelude.{◌≡◌, ℕ, true, false, pos, negsuc, List, [], ◌∷◌, ◌++◌, Some, None, replicate, slice_set}
use Rattle.vp8_tables.specs.Tables.{TableEntries}
use Rattle.bool_coder.specs.Reader.{started}
use Rattle.frame_header.specs.Contexts.{default_context}
use Rattle.frame_header.specs.Fields.{fields}
use Rattle.frame_header.specs.References.{all_refreshed}
use Rattle.frame_header.specs.InterFields.{no_reference_probabilities}
use Rattle.frame_header.specs.TrailingFields.{trailing_fields}
use Rattle.frame_header.specs.declared.trailing_fields.TrailingFields.{TrailingFields}
use Rattle.frame_header.specs.declared.context.Context.{Context}
use Rattle.frame_header.specs.declared.fields.Fields.{Fields}
use Rattle.frame_header.specs.declared.header.Header.{Header}

-- the bytes after the tag of a key frame of 16 by 16 samples
abbrev pub after_tag : List ℕ
after_tag = 0x9D ∷ 0x01 ∷ 0x2A ∷ 0x10 ∷ 0 ∷ 0x10 ∷ 0 ∷ []

-- a first partition that sets fields of each kind, up to the end of the header, as an encoder of its own wrote it, for the
-- update probability 255
abbrev pub written_fields : List ℕ
written_fields =
    0x7E ∷ 0x29 ∷ 0x29 ∷ 0x7F ∷ 0xBF ∷ 0xD1 ∷ 0x50 ∷ 0x1C ∷ 0x84 ∷ 0x0F ∷ 0x6D ∷ 0xE1 ∷ 0x10 ∷ 0xBF ∷ 0xC9 ∷ 0x98 ∷ 0x24 ∷ 0xD6 ∷ 0x77 ∷ 0xDF ∷ 0xDC ∷
    0xFD ∷ 0xC8 ∷ 0x00 ∷ 0xD9 ∷ 0x03 ∷ 0xA6 ∷ 0x80 ∷ []

-- the fields that it was made of
abbrev pub fields_written : Fields
fields_written = record {
  colors = record { color_space = false; clamping_type = true };
  segmentation = record { is_enabled = true; updates_map = true; updates_data = true; map_probabilities = 200 ∷ 255 ∷ 3 ∷ [] };
  filter = record { is_simple = true; level = 45; sharpness = 5 };
  adjusts_level = true;
  partition_count = 4;
}

-- the context that it was made of, after the default one
abbrev pub context_written : TableEntries → Context
context_written tables = record (default_context tables) {
  segments = record {
    is_absolute = true;
    quantizers = pos 10 ∷ negsuc 19 ∷ pos 0 ∷ pos 127 ∷ [];
    levels = negsuc 62 ∷ pos 0 ∷ pos 5 ∷ pos 0 ∷ [];
  };
  deltas = record {
    reference = pos 2 ∷ pos 0 ∷ negsuc 1 ∷ pos 63 ∷ [];
    mode = pos 0 ∷ negsuc 11 ∷ pos 1 ∷ pos 0 ∷ [];
  };
}

-- tables whose update probabilities are all 255
abbrev pub worked_tables : TableEntries
worked_tables = record { coefficients = replicate 1056 128; updates = replicate 1056 255; key_subs = [] }

-- the fields after the number of token partitions
abbrev pub trailing_written : TrailingFields
trailing_written = record {
  quantizers = record { y_ac_index = 53; y_dc_delta = negsuc 2; y2_dc_delta = pos 0; y2_ac_delta = pos 15; uv_dc_delta = negsuc 14; uv_ac_delta = pos 7 };
  references = all_refreshed;
  refreshes_entropy = false;
  skip_probability = Some 77;
  reference_probabilities = no_reference_probabilities;
}

-- the context after them, of which the second and the last coefficient probability are new
abbrev pub trailing_context : Context
trailing_context =
    let before = context_written worked_tables in
    record before { probabilities = record before.probabilities { coefficients = slice_set (slice_set (replicate 1056 128) 1 200) 1055 3 } }

-- the bits read after the number of token partitions
abbrev pub trailing_read : TrailingFields × Context
trailing_read =
    let read = fields true (default_context worked_tables) (started written_fields) in
    (trailing_fields true worked_tables.updates read.0.1 read.1).0

-- the first partition of a key frame with refresh_entropy, as that encoder wrote it
abbrev pub written_key_frame : List ℕ
written_key_frame = 0x80 ∷ 0x19 ∷ 0x94 ∷ 0xFF ∷ 0x6E ∷ 0xDE ∷ 0x0E ∷ 0x00 ∷ 0x00 ∷ []

-- its packet: two token partitions, of which the first has one byte and the second has two
abbrev pub key_frame_packet : List ℕ
key_frame_packet = 0x30 ∷ 1 ∷ 0 ∷ after_tag ++ written_key_frame ++ 1 ∷ 0 ∷ 0 ∷ 0 ∷ 0 ∷ 0 ∷ []

-- its context, of which the first coefficient probability is new
abbrev pub key_frame_context : Context
key_frame_context =
    let before = default_context worked_tables in
    record before { probabilities = record before.probabilities { coefficients = slice_set (replicate 1056 128) 0 7 } }

-- the header that it was made of, except the reader after it
abbrev pub IsKeyFrameWritten : Header → Type 0
IsKeyFrameWritten header =
    (header.width ≡ 16) × (header.height ≡ 16) × (header.is_shown ≡ true) × (header.colors ≡ record { color_space = true; clamping_type = false })
    × (header.filter ≡ record { is_simple = false; level = 0; sharpness = 3 })
    × (header.quantizers ≡ record { y_ac_index = 100; y_dc_delta = pos 0; y2_dc_delta = pos 2; y2_ac_delta = pos 0; uv_dc_delta = pos 0; uv_ac_delta = negsuc 0 })
    × (header.refreshes_entropy ≡ true) × (header.skip_probability ≡ None)
    × (header.partitions.items ≡ record { start = 22; length = 1 } ∷ record { start = 23; length = 2 } ∷ [])
    × (header.context ≡ key_frame_context) × (header.context_after ≡ key_frame_context)
