-- What the handle of C owns.
use Rattle.std.specs.Prelude.{Option, Some, None}
use base.Fml.{Fml, feq}
use denote.RawPtr.{Ptr, null_ptr}
use Rattle.std.specs.Box.Ownership.{box_owns}
use Rattle.std.specs.declared.alloc.Global.{Global}
use Rattle.std.specs.contracts.impls.GlobalAllocator.TheImpl.{ghosts}
use Rattle.wokureti_c.specs.declared.engine.Engine.{Engine}
use Rattle.wokureti_c.specs.contracts.engine.Engine as engine_type

-- a handle that holds nothing is null; one that holds an engine owns its box
abbrev pub held_owns : Global → Ptr → Option Engine → Fml
held_owns alloc at None = feq Ptr at null_ptr
held_owns alloc at (Some engine) = box_owns (ghosts.dealloc_token alloc) engine_type.the_row at engine
