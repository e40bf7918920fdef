use Rattle.std.proofs.Common.{◌≡◌, ◌+◌, get_or}
use Rattle.std.specs.List.{insert}
use Rattle.chunked_list.specs.Chunks.{before, joined, rooms, sizes}
use Rattle.chunked_list.proofs.Joined.{with_between}
use Rattle.chunked_list.proofs.chunks.put_in.Given as goal

abbrev pub invariant-loop-k : goal.invariant-loop-k
invariant-loop-k g l = record {
  items : with_between l.k l.carried l.chunks.items ≡ insert (joined l.fn.chunks.items) (before l.fn.first (sizes l.fn.chunks.items) + l.fn.at) l.fn.x;
  sizes : sizes l.chunks.items ≡ sizes l.fn.chunks.items;
  room : get_or (rooms l.chunks.items) l.last 0 ≡ get_or (rooms l.fn.chunks.items) l.last 0;
}
