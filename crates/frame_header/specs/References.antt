use Rattle.std.specs.Prelude.{Bool, true, Option, Some, None, ◌==◌, if◌then◌else◌}
use Rattle.bool_coder.specs.Reading.{Reading, ◌>>=◌, give, flag, literal}
use Rattle.frame_header.specs.declared.context.SignBiases.{SignBiases}
use Rattle.frame_header.specs.declared.references.Reference.{Reference}
use Rattle.frame_header.specs.declared.references.Reference.TheVariants.{Last, Golden, Altref}
use Rattle.frame_header.specs.declared.references.ReferenceUpdates.{ReferenceUpdates}
use Rattle.frame_header.specs.declared.references.Refreshes.{Refreshes}

-- a key frame becomes each of the references (RFC 6386, section 9.7)
abbrev pub all_refreshed : ReferenceUpdates
all_refreshed = record { refreshes_last = true; refreshes_golden = true; refreshes_altref = true; golden_copy = None; altref_copy = None }

-- the reference of which golden becomes a copy if it is not refreshed (copy_buffer_to_golden): 1 is last, 2 is altref, 0 and 3 are none (RFC 6386, section 9.7)
unfoldable pub golden_copy : Bool → Reading (Option Reference)
golden_copy is_refreshed = if is_refreshed then give None else (do
  source ← literal 2
  give (if source == 1 then Some Last else if source == 2 then Some Altref else None))

-- the reference of which altref becomes a copy if it is not refreshed (copy_buffer_to_alternate): 1 is last, 2 is golden, 0 and 3 are none (RFC 6386, section 9.7)
unfoldable pub altref_copy : Bool → Reading (Option Reference)
altref_copy is_refreshed = if is_refreshed then give None else (do
  source ← literal 2
  give (if source == 1 then Some Last else if source == 2 then Some Golden else None))

-- refresh_golden_frame, refresh_alternate_frame, copy_buffer_to_golden, copy_buffer_to_alternate, sign_bias_golden,
-- sign_bias_alternate, refresh_entropy_probs and refresh_last of an inter frame (RFC 6386, sections 9.7, 9.8 and 19.2)
unfoldable pub inter_refreshes : Reading (Refreshes × SignBiases)
inter_refreshes = do
  golden ← flag
  altref ← flag
  to_golden ← golden_copy golden
  to_altref ← altref_copy altref
  golden_bias ← flag
  altref_bias ← flag
  entropy ← flag
  last ← flag
  let references : ReferenceUpdates = record { refreshes_last = last; refreshes_golden = golden; refreshes_altref = altref; golden_copy = to_golden; altref_copy = to_altref }
  give (record { references = references; refreshes_entropy = entropy }, record { golden = golden_bias; altref = altref_bias })

-- the parts of a frame that are saved, and the sign biases; a key frame has refresh_entropy_probs only (RFC 6386, section 19.2)
unfoldable pub refreshes : Bool → SignBiases → Reading (Refreshes × SignBiases)
refreshes is_key before = if is_key then (do
  entropy ← flag
  give (record { references = all_refreshed; refreshes_entropy = entropy }, before)) else inter_refreshes
