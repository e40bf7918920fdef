-- An edge is filtered line by line (RFC 6386, section 15.1).
use Rattle.std.specs.Prelude.{ℕ, zero, suc, ◌+◌, ◌*◌, List, slice_index, slice_set}
use Rattle.loop_filter.specs.Lines.{Line}

-- the line that begins at an index, with samples `across` apart
abbrev pub line_in : List ℕ → ℕ → ℕ → Line
line_in samples at across = record {
  p3 = slice_index samples at;
  p2 = slice_index samples (at + across);
  p1 = slice_index samples (at + 2 * across);
  p0 = slice_index samples (at + 3 * across);
  q0 = slice_index samples (at + 4 * across);
  q1 = slice_index samples (at + 5 * across);
  q2 = slice_index samples (at + 6 * across);
  q3 = slice_index samples (at + 7 * across);
}

-- the samples with that line written over those at its indices
unfoldable pub with_line : List ℕ → ℕ → ℕ → Line → List ℕ
with_line samples at across l =
    let left = slice_set (slice_set (slice_set (slice_set samples at l.p3) (at + across) l.p2) (at + 2 * across) l.p1) (at + 3 * across) l.p0 in
    slice_set (slice_set (slice_set (slice_set left (at + 4 * across) l.q0) (at + 5 * across) l.q1) (at + 6 * across) l.q2) (at + 7 * across) l.q3

-- the samples after `n` lines of an edge: the first line begins at `start`, each further one `between` samples after the one before it, and each has its samples `across` apart
unfoldable pub lines_filtered : (Line → Line) → ℕ → ℕ → ℕ → List ℕ → ℕ → List ℕ
lines_filtered filter start between across samples zero = samples
lines_filtered filter start between across samples (suc n) =
    let before = lines_filtered filter start between across samples n in
    with_line before (start + n * between) across (filter (line_in before (start + n * between) across))
