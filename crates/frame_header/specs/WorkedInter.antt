-- The header of a worked packet without a key tag.
use Rattle.std.specs.Prelude.{◌≡◌, ℕ, true, false, pos, negsuc, List, [], ◌∷◌, Some, slice_set, slice_index_or}
use Rattle.vp8_tables.specs.declared.vectors.TheConstants.{DEFAULT_VECTOR_PROBABILITIES}
use Rattle.frame_header.specs.Contexts.{default_context}
use Rattle.frame_header.specs.Worked.{worked_tables}
use Rattle.frame_header.specs.declared.context.Context.{Context}
use Rattle.frame_header.specs.declared.header.Header.{Header}
use Rattle.frame_header.specs.declared.references.Reference.TheVariants.{Golden, Altref}

-- a packet whose first partition sets fields of each kind, as an encoder of its own wrote it for the update probability 255
-- of coefficients; one token partition of two bytes follows it
abbrev pub inter_packet : List ℕ
inter_packet =
    0x41 ∷ 0x03 ∷ 0x00 ∷ 0x40 ∷ 0x5A ∷ 0x2C ∷ 0x24 ∷ 0x82 ∷ 0xA2 ∷ 0x70 ∷ 0xA9 ∷ 0xFC ∷ 0x09 ∷ 0x00 ∷ 0x82 ∷ 0x4E ∷ 0xB8 ∷ 0x6C ∷ 0x43 ∷ 0xB6 ∷ 0xED ∷
    0xA4 ∷ 0x73 ∷ 0x23 ∷ 0x56 ∷ 0x4C ∷ 0xD1 ∷ 0xE0 ∷ 0x00 ∷ 0 ∷ 0 ∷ []

-- the context before it
abbrev pub inter_before : Context
inter_before = record (default_context worked_tables) { sign_biases = record { golden = false; altref = true } }

-- its context, if it does not refresh its probabilities
abbrev pub inter_left : Context
inter_left = record inter_before {
  deltas = record {
    reference = pos 0 ∷ negsuc 4 ∷ pos 0 ∷ pos 0 ∷ [];
    mode = pos 0 ∷ pos 0 ∷ pos 9 ∷ pos 0 ∷ [];
  };
  sign_biases = record { golden = true; altref = false };
}

-- its context. Of the coefficients the third is 9, the luma modes are 1, 2, 3 and 4, of the row the first is 1, for 0, and
-- the last is 200, for 100, and of the column the fourth is 10, for 5
abbrev pub inter_context : Context
inter_context = record inter_left {
  probabilities = record inter_left.probabilities {
    coefficients = slice_set inter_left.probabilities.coefficients 2 9;
    vectors = slice_set (slice_set (slice_index_or DEFAULT_VECTOR_PROBABILITIES 0 []) 0 1) 18 200
        ∷ slice_set (slice_index_or DEFAULT_VECTOR_PROBABILITIES 1 []) 3 10 ∷ [];
    y_modes = 1 ∷ 2 ∷ 3 ∷ 4 ∷ [];
  };
}

-- the header that it was made of, except the reader after it
abbrev pub IsInterWritten : Header → Type 0
IsInterWritten header =
    (header.is_key ≡ false) × (header.is_shown ≡ false) × (header.filter ≡ record { is_simple = true; level = 0; sharpness = 2 }) × (header.adjusts_level ≡ true)
    × (header.quantizers ≡ record { y_ac_index = 42; y_dc_delta = pos 0; y2_dc_delta = pos 0; y2_ac_delta = negsuc 2; uv_dc_delta = pos 0; uv_ac_delta = pos 0 })
    × (header.references ≡ record { refreshes_last = true; refreshes_golden = false; refreshes_altref = false; golden_copy = Some Altref; altref_copy = Some Golden })
    × (header.refreshes_entropy ≡ false) × (header.skip_probability ≡ Some 50) × (header.reference_probabilities ≡ record { intra = 11; last = 22; golden = 33 })
    × (header.partitions.items ≡ record { start = 29; length = 2 } ∷ [])
    × (header.context ≡ inter_context) × (header.context_after ≡ inter_left)
