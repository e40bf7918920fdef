use Rattle.std.proofs.Common.{◌≡◌, ◌+◌, ◌-◌, ◌<◌, ◌≤◌, get_or, slice_set}
use Rattle.chunked_list.specs.Chunks.{joined, rooms, sizes}
use Rattle.chunked_list.proofs.Joined.{with_between}
use Rattle.chunked_list.proofs.chunks.take_out.Given as goal

abbrev pub invariant-loop-k : goal.invariant-loop-k
invariant-loop-k g l = record {
  items : with_between l.k l.carried l.chunks.items ≡ joined l.fn.chunks.items;
  sizes : sizes l.chunks.items ≡ slice_set (sizes l.fn.chunks.items) l.last (get_or (sizes l.fn.chunks.items) l.last 0 - 1);
  room : 0 < get_or (rooms l.chunks.items) l.last 0;
  from : l.first + 1 ≤ l.k;
}
