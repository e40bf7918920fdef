-- One line after each filter, in one lane of each vector.
use Rattle.std.proofs.Common.{◌≡◌, ℕ, ◌<◌, Bool, true, false, cond, not, refl}
use Rattle.loop_filter.specs.declared.edge_limits.EdgeLimits.{EdgeLimits}
use Rattle.loop_filter.specs.Lines.{Line, is_filtered, has_high_edge_variance, is_small_step, shortfall, adjusted, outer_adjusted, smoothed, simple_line, inner_line, macroblock_line}
use Rattle.loop_filter.specs.Lanes.{sum_of, raised_by, lowered_by, difference_of, shortfall_from, eighth_of, half_of, adjustment_of, step_over_of, variance_over_of, excess_of, either_of}
use Rattle.loop_filter.proofs.Scalars.{off, raised_is, lowered_is, eighth3_is, eighth4_is, half_is, share27_is, share18_is, share9_is, raised_none, lowered_none, raised_first, raised_second, lowered_first, lowered_second, eighth_small, share_small, lack_true, lack_false, lack_small, step_is, filtered_is, varied_is}

-- the four samples next to the edge have 8 bits
pub record IsNear (l : Line) : Type 0 where
  pub p1 : l.p1 < 256
  pub p0 : l.p0 < 256
  pub q0 : l.q0 < 256
  pub q1 : l.q1 < 256

-- the samples at the edge as lanes move them
abbrev pub moved : ℕ → Line → Line
moved w l = record l { p0 = raised_by 16 l.p0 (eighth_of 3 w); q0 = lowered_by 16 l.q0 (eighth_of 4 w) }

moved_none : (l : Line) → l.p0 < 256 → l.q0 < 256 → moved 128 l ≡ l
unfolding eighth_of
moved_none l b c = rw (raised_none 16 l.p0 b, lowered_none 16 l.q0 c) refl

moved_is : (w : ℕ) (l : Line) → w < 256 → l.p0 < 256 → l.q0 < 256 → moved w l ≡ adjusted (off 128 w) l
moved_is w l small b c = rw (eighth3_is w small, eighth4_is w small, raised_is 16 l.p0 (eighth_of 3 w) b, lowered_is 16 l.q0 (eighth_of 4 w) c) refl

-- the simple filter
simple_by : (b : Bool) (n : ℕ) (l : Line) → n < 256 → l.p0 < 256 → l.q0 < 256 → moved (cond b n 128) l ≡ cond b (adjusted (off 128 n) l) l
simple_by true n l small p q = moved_is n l small p q
simple_by false n l small p q = moved_none l p q

pub simple_lane : (limit : ℕ) (l : Line) → limit < 255 → IsNear l
    → moved (either_of (step_over_of limit l.p1 l.p0 l.q0 l.q1) (shortfall_from (difference_of l.p1 l.q1) l.p0 l.q0) 128) l ≡ simple_line limit l
unfolding simple_line
simple_lane limit l low near =
    rw (step_is limit l.p1 l.p0 l.q0 l.q1 low, lack_true l near.p1 near.p0 near.q0 near.q1)
    (simple_by (is_small_step limit l) (shortfall_from (difference_of l.p1 l.q1) l.p0 l.q0) l (lack_small _ _ _) near.p0 near.q0)

-- the normal filter between blocks of one macroblock
abbrev pub inner_moved : ℕ → ℕ → Line → Line
inner_moved w half l = record l { p1 = raised_by 8 l.p1 half; p0 = raised_by 16 l.p0 (eighth_of 3 w); q0 = lowered_by 16 l.q0 (eighth_of 4 w); q1 = lowered_by 8 l.q1 half }

inner_stays : (l : Line) → IsNear l → inner_moved 128 8 l ≡ l
unfolding eighth_of
inner_stays l near = rw (raised_none 8 l.p1 near.p1, raised_none 16 l.p0 near.p0, lowered_none 16 l.q0 near.q0, lowered_none 8 l.q1 near.q1) refl

inner_stays_halved : (l : Line) → IsNear l → inner_moved 128 (half_of (eighth_of 4 128)) l ≡ l
unfolding eighth_of half_of
inner_stays_halved l near = rw (raised_none 8 l.p1 near.p1, raised_none 16 l.p0 near.p0, lowered_none 16 l.q0 near.q0, lowered_none 8 l.q1 near.q1) refl

inner_high_variance : (w : ℕ) (l : Line) → w < 256 → IsNear l → inner_moved w 8 l ≡ adjusted (off 128 w) l
inner_high_variance w l small near = rw (raised_none 8 l.p1 near.p1, lowered_none 8 l.q1 near.q1) (moved_is w l small near.p0 near.q0)

inner_even : (w : ℕ) (l : Line) → w < 256 → IsNear l → inner_moved w (half_of (eighth_of 4 w)) l ≡ outer_adjusted (off 128 w) (adjusted (off 128 w) l)
inner_even w l small near =
    rw (eighth3_is w small, eighth4_is w small, half_is (eighth_of 4 w), raised_is 8 l.p1 (half_of (eighth_of 4 w)) near.p1, raised_is 16 l.p0 (eighth_of 3 w) near.p0, lowered_is 16 l.q0 (eighth_of 4 w) near.q0, lowered_is 8 l.q1 (half_of (eighth_of 4 w)) near.q1) refl

inner_by : (b v : Bool) (l : Line) → IsNear l
    → inner_moved (cond b (shortfall_from (cond (not v) 128 (difference_of l.p1 l.q1)) l.p0 l.q0) 128) (cond (not v) (half_of (eighth_of 4 (cond b (shortfall_from (cond (not v) 128 (difference_of l.p1 l.q1)) l.p0 l.q0) 128))) 8) l
    ≡ cond b (cond v (adjusted (shortfall true l) l) (outer_adjusted (shortfall false l) (adjusted (shortfall false l) l))) l
inner_by true true l near = rw (lack_true l near.p1 near.p0 near.q0 near.q1) (inner_high_variance _ l (lack_small _ _ _) near)
inner_by true false l near = rw (lack_false l near.p0 near.q0) (inner_even _ l (lack_small _ _ _) near)
inner_by false true l near = inner_stays l near
inner_by false false l near = inner_stays_halved l near

pub inner_lane : (limits : EdgeLimits) (l : Line) → limits.edge < 255 → IsNear l
    → (let v = variance_over_of limits.variance l.p1 l.p0 l.q0 l.q1 in
    let w = either_of (excess_of limits l) (shortfall_from (either_of v 128 (difference_of l.p1 l.q1)) l.p0 l.q0) 128 in
    inner_moved w (either_of v (half_of (eighth_of 4 w)) 8) l ≡ inner_line limits l)
unfolding inner_line
inner_lane limits l low near = rw (filtered_is limits l low, varied_is limits.variance l) (inner_by (is_filtered limits l) (has_high_edge_variance limits.variance l) l near)

-- the normal filter between macroblocks
abbrev pub wide_moved : ℕ → ℕ → Line → Line
wide_moved narrow wide l = record l {
  p2 = raised_by 9 l.p2 (adjustment_of 9 wide);
  p1 = raised_by 18 l.p1 (adjustment_of 18 wide);
  p0 = raised_by 43 l.p0 (sum_of (adjustment_of 27 wide) (eighth_of 3 narrow));
  q0 = lowered_by 43 l.q0 (sum_of (adjustment_of 27 wide) (eighth_of 4 narrow));
  q1 = lowered_by 18 l.q1 (adjustment_of 18 wide);
  q2 = lowered_by 9 l.q2 (adjustment_of 9 wide);
}

-- the samples that it moves have 8 bits
pub record IsWide (l : Line) : Type 0 where
  pub near : IsNear l
  pub p2 : l.p2 < 256
  pub q2 : l.q2 < 256

wide_narrow : (w : ℕ) (l : Line) → w < 256 → IsWide l → wide_moved w 128 l ≡ adjusted (off 128 w) l
unfolding adjustment_of
wide_narrow w l small wide =
    rw (
      raised_first l.p0 (eighth_of 3 w) (eighth_small 3 w),
      lowered_first l.q0 (eighth_of 4 w) (eighth_small 4 w),
      eighth3_is w small,
      eighth4_is w small,
      raised_is 16 l.p0 (eighth_of 3 w) wide.near.p0,
      lowered_is 16 l.q0 (eighth_of 4 w) wide.near.q0,
      raised_none 9 l.p2 wide.p2,
      raised_none 18 l.p1 wide.near.p1,
      lowered_none 18 l.q1 wide.near.q1,
      lowered_none 9 l.q2 wide.q2,
    ) refl

wide_smooth : (w : ℕ) (l : Line) → w < 256 → IsWide l → wide_moved 128 w l ≡ smoothed (off 128 w) l
unfolding eighth_of
wide_smooth w l small wide =
    rw (
      raised_second l.p0 (adjustment_of 27 w) (share_small w small),
      lowered_second l.q0 (adjustment_of 27 w) (share_small w small),
      share27_is w small,
      share18_is w small,
      share9_is w small,
      raised_is 9 l.p2 (adjustment_of 9 w) wide.p2,
      raised_is 18 l.p1 (adjustment_of 18 w) wide.near.p1,
      raised_is 27 l.p0 (adjustment_of 27 w) wide.near.p0,
      lowered_is 27 l.q0 (adjustment_of 27 w) wide.near.q0,
      lowered_is 18 l.q1 (adjustment_of 18 w) wide.near.q1,
      lowered_is 9 l.q2 (adjustment_of 9 w) wide.q2,
    ) refl

wide_stays : (l : Line) → IsWide l → wide_moved 128 128 l ≡ l
unfolding eighth_of adjustment_of
wide_stays l wide =
    rw (
      raised_none 43 l.p0 wide.near.p0,
      lowered_none 43 l.q0 wide.near.q0,
      raised_none 9 l.p2 wide.p2,
      raised_none 18 l.p1 wide.near.p1,
      lowered_none 18 l.q1 wide.near.q1,
      lowered_none 9 l.q2 wide.q2,
    ) refl

wide_by : (b v : Bool) (n : ℕ) (l : Line) → n < 256 → IsWide l
    → wide_moved (cond (not v) 128 (cond b n 128)) (cond (not v) (cond b n 128) 128) l ≡ cond b (cond v (adjusted (off 128 n) l) (smoothed (off 128 n) l)) l
wide_by true true n l small wide = wide_narrow n l small wide
wide_by true false n l small wide = wide_smooth n l small wide
wide_by false true n l small wide = wide_stays l wide
wide_by false false n l small wide = wide_stays l wide

pub macroblock_lane : (limits : EdgeLimits) (l : Line) → limits.edge < 255 → IsWide l
    → (let v = variance_over_of limits.variance l.p1 l.p0 l.q0 l.q1 in
    let w = either_of (excess_of limits l) (shortfall_from (difference_of l.p1 l.q1) l.p0 l.q0) 128 in
    wide_moved (either_of v 128 w) (either_of v w 128) l ≡ macroblock_line limits l)
unfolding macroblock_line
macroblock_lane limits l low wide =
    rw (filtered_is limits l low, varied_is limits.variance l, lack_true l wide.near.p1 wide.near.p0 wide.near.q0 wide.near.q1)
    (wide_by (is_filtered limits l) (has_high_edge_variance limits.variance l) (shortfall_from (difference_of l.p1 l.q1) l.p0 l.q0) l (lack_small _ _ _) wide)
