use Rattle.std.proofs.Common.{◌≡◌, ◌*◌, length, take, drop}
use Rattle.pixel_planes.specs.Layout.{rows_of}
use Rattle.pixel_planes.proofs.borders.pack.Given as goal

-- the rows so far are at the front, and the samples after them are unchanged
abbrev pub invariant-loop-y : goal.invariant-loop-y
invariant-loop-y l = record { len : length l.samples.items ≡ length l.initial.samples.items; rows : take (l.y * l.width) l.samples.items ≡ rows_of l.initial.samples.items l.first l.stride l.width l.y; rest : drop (l.y * l.width) l.samples.items ≡ drop (l.y * l.width) l.initial.samples.items }
