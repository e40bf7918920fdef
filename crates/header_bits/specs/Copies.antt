-- The numbers of copy_buffer_to_golden and copy_buffer_to_arf as they are coded (RFC 6386, sections 9.7 and 19.2).
use Rattle.std.specs.Prelude.{◌≡◌, ℕ, Bool, ◌==◌, if◌then◌else◌, List, Option, Some, None, IfOk}
use Rattle.vp8_tables.specs.Tables.{TableEntries}
use Rattle.bool_coder.specs.Reader.{Reader, started}
use Rattle.bool_coder.specs.Reading.{Reading, ◌>>=◌, give, flag, literal}
use Rattle.frame_header.specs.Header.{header_of}
use Rattle.frame_header.specs.Tags.{has_key_tag}
use Rattle.frame_header.specs.declared.context.Context.{Context}
use Rattle.frame_header.specs.declared.references.Reference.{Reference}
use Rattle.frame_header.specs.declared.references.Reference.TheVariants.{Last, Golden, Altref}
use Rattle.frame_header.specs.declared.references.ReferenceUpdates.{ReferenceUpdates}
use Rattle.header_bits.specs.Bits.{first_bits, first_text, quantizer_bits}
use Rattle.header_bits.specs.declared.copies.CopyNumbers.{CopyNumbers}

-- a number of two bits, unless the reference is refreshed
unfoldable pub copy_number : Bool → Reading ℕ
copy_number is_refreshed = if is_refreshed then give 0 else literal 2

-- after refresh_golden_frame and refresh_alternate_frame
unfoldable pub inter_copies : Reading CopyNumbers
inter_copies = do
  golden ← flag
  altref ← flag
  to_golden ← copy_number golden
  to_altref ← copy_number altref
  give (record { golden = to_golden; altref = to_altref })

-- a key frame has none
abbrev pub no_copies : CopyNumbers
no_copies = record { golden = 0; altref = 0 }

-- at the first field of references
abbrev pub reference_copies : Bool → Reader → CopyNumbers
reference_copies is_key reader = if is_key then no_copies else (inter_copies reader).0

-- after the fields before them
unfoldable pub copies_in : Bool → Reading CopyNumbers
copies_in is_key = do
  first ← first_bits is_key
  quantizers ← quantizer_bits
  if is_key then give no_copies else inter_copies

-- the numbers of a packet's header
unfoldable pub copy_numbers : List ℕ → CopyNumbers
copy_numbers packet = (copies_in (has_key_tag packet) (started (first_text packet))).0

-- the reference that each number names: 1 is last, 2 is the other one, 0 and 3 are none
abbrev pub golden_source : ℕ → Option Reference
golden_source number = if number == 1 then Some Last else if number == 2 then Some Altref else None

abbrev pub altref_source : ℕ → Option Reference
altref_source number = if number == 1 then Some Last else if number == 2 then Some Golden else None

-- decoding copies the references that the numbers name
abbrev pub AreNamed : CopyNumbers → ReferenceUpdates → Type 0
AreNamed numbers updates = (updates.golden_copy ≡ golden_source numbers.golden) × (updates.altref_copy ≡ altref_source numbers.altref)

abbrev pub CopiesAreNamed : Type 0
CopiesAreNamed = (tables : TableEntries) (before : Option Context) (packet : List ℕ) → IfOk (header_of tables before packet) (λ header. AreNamed (copy_numbers packet) header.references)
