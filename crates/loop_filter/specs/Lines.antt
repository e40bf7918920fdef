-- How one line of samples across an edge is filtered (RFC 6386, sections 15.2 and 15.3).
use Rattle.std.specs.Prelude.{ℕ, ◌+◌, ◌*◌, ◌/◌, Bool, true, false, ◌&&◌, ◌||◌, if◌then◌else◌, nat_le, nat_lt, List, slice_index, ℤ, pos, ◌+ℤ◌, ◌-ℤ◌, ◌*ℤ◌, unsigned_abs}
use Rattle.std.specs.Int.{abs_diff, int_shr, saturate_to_bits}
use Rattle.loop_filter.specs.declared.edge_limits.EdgeLimits.{EdgeLimits}
use Rattle.loop_filter.specs.declared.edge_limits.EdgeFilter.{EdgeFilter}
use Rattle.loop_filter.specs.declared.edge_limits.EdgeFilter.TheVariants.{Simple, Inner, Macroblock}

-- the samples of a line across an edge: p0 and q0 are at the edge, on either side of it
pub record Line : Type 0 where
  pub p3 : ℕ
  pub p2 : ℕ
  pub p1 : ℕ
  pub p0 : ℕ
  pub q0 : ℕ
  pub q1 : ℕ
  pub q2 : ℕ
  pub q3 : ℕ

-- a line of which only the four samples next to the edge are used
abbrev pub line_of_four : List ℕ → Line
line_of_four samples = record { p3 = 0; p2 = 0; p1 = slice_index samples 0; p0 = slice_index samples 1; q0 = slice_index samples 2; q1 = slice_index samples 3; q2 = 0; q3 = 0 }

-- a sample as a number from -128 to 127 (`u2s` in RFC 6386)
abbrev pub as_signed : ℕ → ℤ
as_signed s = pos s -ℤ pos 128

-- a number clamped to -128 to 127 (`c` in RFC 6386)
abbrev pub clamped : ℤ → ℤ
clamped z = saturate_to_bits 7 z

-- the sample of a number, clamped (`s2u` in RFC 6386)
abbrev pub sample : ℤ → ℕ
sample z = unsigned_abs (clamped z +ℤ pos 128)

-- a sample with a number added, and with a number subtracted
unfoldable pub raised : ℕ → ℤ → ℕ
raised s d = sample (as_signed s +ℤ d)

unfoldable pub lowered : ℕ → ℤ → ℕ
lowered s d = sample (as_signed s -ℤ d)

-- whether the step at the edge is within its limit, `edge_limit` (`simple_segment` in RFC 6386)
abbrev pub is_small_step : ℕ → Line → Bool
is_small_step limit l = nat_le (abs_diff l.p0 l.q0 * 2 + abs_diff l.p1 l.q1 / 2) limit

-- whether adjacent samples on either side of the edge differ by no more than the interior limit
abbrev pub is_smooth : ℕ → Line → Bool
is_smooth limit l =
    nat_le (abs_diff l.p3 l.p2) limit && nat_le (abs_diff l.p2 l.p1) limit && nat_le (abs_diff l.p1 l.p0) limit
    && nat_le (abs_diff l.q1 l.q0) limit && nat_le (abs_diff l.q2 l.q1) limit && nat_le (abs_diff l.q3 l.q2) limit

-- whether a normal filter changes the line (`filter_yes` in RFC 6386)
unfoldable pub is_filtered : EdgeLimits → Line → Bool
is_filtered limits l = is_small_step limits.edge l && is_smooth limits.interior l

-- whether the samples at the edge differ from their neighbours by more than the threshold: high edge variance (`hev` in RFC 6386)
unfoldable pub has_high_edge_variance : ℕ → Line → Bool
has_high_edge_variance threshold l = nat_lt threshold (abs_diff l.p1 l.p0) || nat_lt threshold (abs_diff l.q1 l.q0)

-- three times the difference of the samples at the edge, with or without the difference of the next outer samples (`a` of `common_adjust` in RFC 6386)
unfoldable pub shortfall : Bool → Line → ℤ
shortfall with_outer l = clamped ((if with_outer then clamped (as_signed l.p1 -ℤ as_signed l.q1) else pos 0) +ℤ (pos 3 *ℤ (as_signed l.q0 -ℤ as_signed l.p0)))

-- an eighth of a number that n was added to, rounded down
unfoldable pub eighth : ℕ → ℤ → ℤ
eighth n a = int_shr (clamped (a +ℤ pos n)) 3

-- the samples at the edge, moved toward each other by an eighth of a number (`common_adjust` in RFC 6386)
abbrev pub adjusted : ℤ → Line → Line
adjusted a l = record l { p0 = raised l.p0 (eighth 3 a); q0 = lowered l.q0 (eighth 4 a) }

-- and the next outer ones by half of the change of q0
abbrev pub outer_adjusted : ℤ → Line → Line
outer_adjusted a l =
    let half = int_shr (eighth 4 a +ℤ pos 1) 1 in
    record l { p1 = raised l.p1 half; q1 = lowered l.q1 half }

-- a number times k, in 128ths, rounded
unfoldable pub share : ℕ → ℤ → ℤ
share k w = clamped (int_shr ((pos k *ℤ w) +ℤ pos 63) 7)

-- three samples on either side of the edge, moved toward each other by 27, 18 and 9 128ths of a number
abbrev pub smoothed : ℤ → Line → Line
smoothed w l = record l {
  p2 = raised l.p2 (share 9 w);
  p1 = raised l.p1 (share 18 w);
  p0 = raised l.p0 (share 27 w);
  q0 = lowered l.q0 (share 27 w);
  q1 = lowered l.q1 (share 18 w);
  q2 = lowered l.q2 (share 9 w);
}

-- the simple filter (section 15.2, `simple_segment`)
unfoldable pub simple_line : ℕ → Line → Line
simple_line limit l = if is_small_step limit l then adjusted (shortfall true l) l else l

-- the normal filter of an edge between blocks of one macroblock (section 15.3, `subblock_filter`)
unfoldable pub inner_line : EdgeLimits → Line → Line
inner_line limits l =
    if is_filtered limits l
    then (if has_high_edge_variance limits.variance l then adjusted (shortfall true l) l else outer_adjusted (shortfall false l) (adjusted (shortfall false l) l))
    else l

-- the normal filter of an edge between macroblocks (section 15.3, `MBfilter`)
unfoldable pub macroblock_line : EdgeLimits → Line → Line
macroblock_line limits l =
    if is_filtered limits l
    then (if has_high_edge_variance limits.variance l then adjusted (shortfall true l) l else smoothed (shortfall true l) l)
    else l

-- a line after each filter
abbrev pub filtered_line : EdgeFilter → EdgeLimits → Line → Line
filtered_line Simple limits l = simple_line limits.edge l
filtered_line Inner limits l = inner_line limits l
filtered_line Macroblock limits l = macroblock_line limits l

-- how many samples on each side of its edge a filter can change
abbrev pub reach : EdgeFilter → ℕ
reach Simple = 1
reach Inner = 2
reach Macroblock = 3
