-- What the picture of a cached state takes.
use Rattle.std.specs.Prelude.{ℕ, ◌+◌, ◌*◌, nat_le, List, [], ◌++◌, Option, Some, None, codes, if◌then◌else◌}
use Rattle.std.specs.Fmt.{decimal}
use Rattle.pixel_planes.specs.Pictures.{macroblocks}
use Rattle.stream_steps.specs.PlaneBytes.{plane_bytes}
use Rattle.serve_arguments.specs.declared.capacities.Capacity.{Capacity}
use Rattle.serve_arguments.specs.declared.capacities.Capacity.TheVariants.{States, Bytes}

-- the bytes of the three planes of so many macroblocks: 16x16 samples each in luma, 8x8 in chroma
abbrev pub planes_bytes : (columns rows : ℕ) → ℕ
planes_bytes columns rows = plane_bytes (16 * columns) (16 * rows) + 2 * plane_bytes (8 * columns) (8 * rows)

-- the bytes of a picture of this shown width and height
abbrev pub picture_bytes : ℕ × ℕ → ℕ
picture_bytes size = planes_bytes (macroblocks size.0) (macroblocks size.1)

-- the text that reports what a state takes, after as many decoding steps as states are cached; nothing if no key packet has a size
abbrev pub cache_text : (states : ℕ) → Option (ℕ × ℕ) → (decoded : ℕ) → List ℕ
cache_text states None decoded = []
cache_text states (Some size) decoded =
    if nat_le states decoded then codes "cache: " ++ decimal states ++ codes " states of " ++ decimal (picture_bytes size) ++ codes " bytes each\n" else []

-- the report at the end of a run: nothing if the capacity is a number of bytes
abbrev pub cache_report : Capacity → Option (ℕ × ℕ) → (decoded : ℕ) → List ℕ
cache_report (States count) size decoded = cache_text count size decoded
cache_report (Bytes bytes) size decoded = []
