use Rattle.std.proofs.Common.{◌≡◌, ◌<◌, false, true}
use Rattle.pixel_planes.specs.PlaneSamples.{shown_of}
use Rattle.loop_filter.specs.Frames.{KeepSides, columns_in, planes_filtered, strength_at}
use Rattle.loop_filter.proofs.frames.frame.Given as goal

abbrev pub invariant-loop-my : goal.invariant-loop-my
invariant-loop-my l = record {
  value : 0 < l.fn.header.filter.level → shown_of l.planes ≡ planes_filtered l.fn.header.filter.is_simple (strength_at l.fn.header l.modes.records l.flags) (columns_in (shown_of l.initial.planes)) l.my (shown_of l.initial.planes);
  sides : KeepSides (shown_of l.initial.planes) (shown_of l.planes);
  unfiltered : l.fn.header.filter.level ≡ 0 → l.planes ≡ l.initial.planes;
  luma_border : 0 < l.fn.header.filter.level → l.planes.luma.border ≡ l.initial.planes.luma.border;
  luma_old : 0 < l.my → 0 < l.fn.header.filter.level → l.planes.luma.is_current ≡ false;
  chroma_borders : 0 < l.fn.header.filter.level → l.fn.header.filter.is_simple ≡ false → (l.planes.cb.border ≡ l.initial.planes.cb.border) × (l.planes.cr.border ≡ l.initial.planes.cr.border);
  chroma_old : 0 < l.my → 0 < l.fn.header.filter.level → l.fn.header.filter.is_simple ≡ false → (l.planes.cb.is_current ≡ false) × (l.planes.cr.is_current ≡ false);
  simple_cb : l.fn.header.filter.is_simple ≡ true → l.planes.cb ≡ l.initial.planes.cb;
  simple_cr : l.fn.header.filter.is_simple ≡ true → l.planes.cr ≡ l.initial.planes.cr;
}
