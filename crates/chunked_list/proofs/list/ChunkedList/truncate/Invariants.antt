use Rattle.std.proofs.Common.{◌≡◌, length, take}
use Rattle.chunked_list.proofs.list.ChunkedList.truncate.Given as goal

abbrev pub invariant-pops : goal.invariant-pops
invariant-pops g l = take l.len l.self ≡ take l.len l.fn.self

abbrev pub decreases-pops : goal.decreases-pops
decreases-pops g l = length l.self
