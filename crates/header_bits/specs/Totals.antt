-- The bits of all fields of a header in its first partition add up to the booleans that it takes (RFC 6386, section 19.2).
use Rattle.std.specs.Prelude.{◌≡◌, ℕ, ◌+◌, Bool, List, Option, is_some, IfOk, if◌then◌else◌}
use Rattle.std.specs.List.{sum}
use Rattle.vp8_tables.specs.Tables.{TableEntries}
use Rattle.bool_coder.specs.Reader.{started}
use Rattle.bool_coder.specs.Reading.{Reading, ◌>>=◌, give}
use Rattle.frame_header.specs.Contexts.{first_context}
use Rattle.frame_header.specs.Fields.{fields}
use Rattle.frame_header.specs.Header.{header_of}
use Rattle.frame_header.specs.Tags.{has_key_tag}
use Rattle.frame_header.specs.TrailingFields.{trailing_fields}
use Rattle.frame_header.specs.declared.context.Context.{Context}
use Rattle.frame_header.specs.declared.fields.Segmentation.{Segmentation}
use Rattle.frame_header.specs.declared.header.Header.{Header}
use Rattle.frame_header.specs.declared.references.ReferenceUpdates.{ReferenceUpdates}
use Rattle.header_bits.specs.Asked.{Asks}
use Rattle.header_bits.specs.Bits.{all_bits, first_text, header_bits}
use Rattle.header_bits.specs.declared.bits.DeltaBits.{DeltaBits}
use Rattle.header_bits.specs.declared.bits.HeaderBits.{HeaderBits}
use Rattle.header_bits.specs.declared.bits.InterBits.{InterBits}
use Rattle.header_bits.specs.declared.bits.SegmentBits.{SegmentBits}

-- update_segmentation(), after its flag
abbrev pub segment_total : Segmentation → SegmentBits → ℕ
segment_total segmentation bits =
    1 + (if segmentation.is_enabled then 2 else 0) + (if segmentation.updates_data then 1 else 0) + sum bits.quantizers + sum bits.levels + sum bits.map_probabilities

-- mb_lf_adjustments()
abbrev pub delta_total : Bool → DeltaBits → ℕ
delta_total is_enabled bits = 1 + (if is_enabled then 1 else 0) + sum bits.references + sum bits.modes

-- the fields of references
abbrev pub reference_total : Bool → ReferenceUpdates → ℕ
reference_total is_key updates = if is_key then 1 else 6 + (if updates.refreshes_golden then 0 else 2) + (if updates.refreshes_altref then 0 else 2)

abbrev pub inter_total : Bool → InterBits → ℕ
inter_total is_key bits = if is_key then 0 else 24 + bits.y_modes + bits.uv_modes + bits.vectors

-- all fields of the first partition, in their order
abbrev pub total : Header → HeaderBits → ℕ
total header bits =
    (if header.is_key then 2 else 0) + segment_total header.segmentation bits.segments + 10 + delta_total header.adjusts_level bits.deltas + 2
    + 7 + sum bits.quantizers + reference_total header.is_key header.references + bits.coefficients + (if is_some header.skip_probability then 9 else 1)
    + inter_total header.is_key bits.inter

-- what reads the header of a packet from its first partition, with the context for the frame
abbrev pub header_reading : TableEntries → Option Context → List ℕ → Reading Context
header_reading tables before packet = do
  first ← fields (has_key_tag packet) (first_context tables (has_key_tag packet) before)
  rest ← trailing_fields (has_key_tag packet) tables.updates first.1
  give rest.1

-- each accepted header takes that many booleans
abbrev pub BitsAddUp : Type 0
BitsAddUp = (tables : TableEntries) (before : Option Context) (packet : List ℕ) → IfOk (header_of tables before packet) (λ header. Asks (header_reading tables before packet) (started (first_text packet)) (total header (header_bits tables packet)))

-- and its bits are read up to where it ends
abbrev pub BitsEndThere : Type 0
BitsEndThere = (tables : TableEntries) (before : Option Context) (packet : List ℕ) → IfOk (header_of tables before packet) (λ header. (all_bits (has_key_tag packet) tables.updates (started (first_text packet))).1 ≡ header.reader)
