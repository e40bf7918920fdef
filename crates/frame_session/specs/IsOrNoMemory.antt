-- Results that may be out of memory instead.
use Rattle.std.specs.Prelude.{◌≡◌, Result, Ok, Err}
use Rattle.pixel_planes.specs.Pictures.{PictureSamples, IsWholePicture}
use Rattle.script_nodes.specs.Shown.{Shown, Shows}
use Rattle.frame_session.specs.declared.refusal.Refusal.{Refusal}
use Rattle.frame_session.specs.declared.refusal.Refusal.TheVariants as refusals

-- NoMemory may be reported instead of this result: it is decided only after memory was requested
abbrev pub MayRunOutOfMemory : {A : Type 0} → Result A Refusal → Type 0
MayRunOutOfMemory (Ok a) = Unit {0}
MayRunOutOfMemory (Err (refusals.Packet source place cause)) = Unit {0}
MayRunOutOfMemory (Err refusals.CropOutside) = Unit {0}
MayRunOutOfMemory (Err refusals.SizeDiffers) = Unit {0}
MayRunOutOfMemory (Err refusals.TooLarge) = Unit {0}
MayRunOutOfMemory (Err refusal) = ⊥

-- the result is the wanted one, or NoMemory where that may be reported instead
abbrev pub IsOrNoMemory : {A : Type 0} → Result A Refusal → Result A Refusal → Type 0
IsOrNoMemory want (Err refusals.NoMemory) = MayRunOutOfMemory want
IsOrNoMemory want result = want ≡ result

-- the result is a whole picture that shows the wanted frame, or a refusal that may be reported
abbrev pub IsFrameOrNoMemory : Result Shown Refusal → Result PictureSamples Refusal → Type 0
IsFrameOrNoMemory want (Ok picture) = (shown : Shown) × (want ≡ Ok shown) × Shows picture shown × IsWholePicture picture
IsFrameOrNoMemory want (Err refusal) = IsOrNoMemory want (Err refusal)
