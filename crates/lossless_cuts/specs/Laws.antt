-- Laws about exports.
use Rattle.std.specs.Prelude.{ℕ, List, None}
use Rattle.vp8_tables.specs.declared.tables.Tables.{Tables}
use Rattle.pixel_planes.specs.Pictures.{PictureSamples}
use Rattle.lossless_cuts.specs.Exports.{AreDecoded, ShowsExactly}
use Rattle.lossless_cuts.specs.declared.targets.Target.{Target}
use Rattle.lossless_cuts.specs.Plans.{exported, written}

-- the packets of frames that decoding accepts, padded, show exactly these frames: no packet is refused, and frame n has the picture of frame
-- n, sample for sample
abbrev pub ExportsShowTheirFrames : Tables → Type 0
ExportsShowTheirFrames tables =
    (streams : List (List (List ℕ))) (targets : List Target) (pictures : List PictureSamples) → AreDecoded tables streams targets pictures
    → ShowsExactly tables (written (exported tables streams None targets)) pictures
