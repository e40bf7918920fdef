-- The value of a state: what its packets leave for the packets after them (RFC 6386, section 9).
use Rattle.std.specs.Prelude.{◌≡◌, ℕ, ◌*◌, List, length}
use Rattle.frame_header.specs.declared.context.Context.{Context}
use Rattle.pixel_planes.specs.Pictures.{PictureSamples, macroblocks}
use Rattle.reference_frames.specs.declared.references.References.{References}

-- the context that the last header left, the segment of each macroblock, and the references, which have one size
pub record StateValue : Type 0 where
  pub context : Context
  pub segment_map : List ℕ
  pub references : References

-- a picture has this shown size
abbrev pub HasSize : PictureSamples → ℕ → ℕ → Type 0
HasSize picture width height = (picture.width ≡ width) × (picture.height ≡ height)

-- golden and altref have the shown size of last
abbrev pub HaveOneSize : References → Type 0
HaveOneSize references = HasSize references.golden references.last.width references.last.height × HasSize references.altref references.last.width references.last.height

-- each macroblock of a frame of the references' size has a segment
abbrev pub HasMap : StateValue → Type 0
HasMap state = length state.segment_map ≡ macroblocks state.references.last.width * macroblocks state.references.last.height

-- the invariant of each state: a segment for each macroblock, and references of one size
abbrev pub IsState : StateValue → Type 0
IsState state = HasMap state × HaveOneSize state.references
