use Rattle.std.proofs.Common.{◌≡◌, length}
use Rattle.wokureti_c.specs.Rooms.{with_rows}
use Rattle.wokureti_c.proofs.rooms.put_plane.Given as goal

abbrev pub invariant-loop-y : goal.invariant-loop-y
invariant-loop-y l = (length l.room ≡ length l.fn.room) × (l.room ≡ with_rows l.picture l.component l.stride l.y l.fn.room)
