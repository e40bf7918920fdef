-- Vectors that hold the columns across an edge between rows, in all three planes.
use Rattle.std.specs.Prelude.{◌≡◌, ℕ, ◌+◌, ◌<◌, List}
use Rattle.loop_filter.specs.Edges.{line_in}
use Rattle.loop_filter.specs.Lanes.{line_at}
use Rattle.loop_filter.specs.declared.joined_edges.JoinedTaps.{JoinedTaps}
use Rattle.loop_filter.specs.declared.joined_edges.Starts.{Starts}

-- the lines are the columns of these samples that begin at the starts
pub record HoldColumns (taps : JoinedTaps) (at : Starts) (y u v : List ℕ) : Type 0 where
  pub luma : (i : ℕ) → i < 16 → line_at taps.luma i ≡ line_in y (at.luma + i) at.luma_stride
  pub chroma_u : (i : ℕ) → i < 8 → line_at taps.chroma i ≡ line_in u (at.chroma + i) at.chroma_stride
  pub chroma_v : (i : ℕ) → i < 8 → line_at taps.chroma (8 + i) ≡ line_in v (at.chroma + i) at.chroma_stride
