-- The references before and after a frame (RFC 6386, section 9.7).
use Rattle.std.specs.Prelude.{Option, Some, None, if◌then◌else◌}
use Rattle.frame_header.specs.declared.references.Reference.{Reference}
use Rattle.frame_header.specs.declared.references.Reference.TheVariants.{Last, Golden, Altref}
use Rattle.frame_header.specs.declared.references.ReferenceUpdates.{ReferenceUpdates}
use Rattle.pixel_planes.specs.Pictures.{PictureSamples}
use Rattle.reference_frames.specs.declared.references.References.{References}

-- the picture of a reference
abbrev pub picture_in : References → Reference → PictureSamples
picture_in references Last = references.last
picture_in references Golden = references.golden
picture_in references Altref = references.altref

-- the picture that a reference becomes by a copy, if there is one
abbrev pub copied : References → Option Reference → PictureSamples → PictureSamples
copied references None own = own
copied references (Some reference) own = picture_in references reference

abbrev pub altref_copied : ReferenceUpdates → References → References
altref_copied updates references = record references { altref = copied references updates.altref_copy references.altref }

abbrev pub golden_copied : ReferenceUpdates → References → References
golden_copied updates references = record references { golden = copied references updates.golden_copy references.golden }

-- the frame's own picture instead of each reference that it refreshes
abbrev pub refreshed : ReferenceUpdates → PictureSamples → References → References
refreshed updates picture references = record {
  last = if updates.refreshes_last then picture else references.last;
  golden = if updates.refreshes_golden then picture else references.golden;
  altref = if updates.refreshes_altref then picture else references.altref;
}

-- the references after a frame: first altref is copied, then golden, and then the refreshes are done
abbrev pub references_after : ReferenceUpdates → PictureSamples → References → References
references_after updates picture references = refreshed updates picture (golden_copied updates (altref_copied updates references))
