use Rattle.std.proofs.Common.{◌≡◌, ℕ, suc, List, ◌+◌, ◌-◌, ◌<◌, ◌≤◌, Some, length, get_or, slice_get, slice_set, sym, ap, ◌∙◌, subst, arith, rules}
use Rattle.std.specs.List.{remove}
use Rattle.std.proofs.lemmas.List.{get_or-set_other}
use Rattle.chunked_list.specs.Chunks.{before, joined, rooms, sizes}
use Rattle.chunked_list.proofs.Joined.{element_between, element_of, first_out, left_front, passed_down, removed_from, removed_over, with_between}
use Rattle.chunked_list.proofs.Sizes.{as_many, before_set, room_here, room_other, size_at, sizes_same, sizes_set}
use Rattle.chunked_list.proofs.chunks.take_out.Goals as goal

pub returns-then-first-last-clause-value : goal.returns-then-first-last-clause-value
returns-then-first-last-clause-value g c =
    let cs = c.args.chunks.now.items in
    let is : c.args.first ≡ c.args.last = c.if-first-last.true in
    let within : c.args.last < length cs = search (rules, arith) in
    let size : get_or (sizes cs) c.args.last 0 ≡ c.index_mut.result.now.len = size_at c.args.last cs c.index_mut.result.now within c.index_mut.ensures.value in
    let here : c.args.at < get_or (sizes cs) c.args.last 0 = subst (λ (k : ℕ). c.args.at < get_or (sizes cs) k 0) is c.requires.within in
    ap (λ (k : ℕ). slice_get (joined cs) (before k (sizes cs) + c.args.at)) is
    ∙ element_of c.args.last c.args.at cs c.index_mut.result.now c.take.result within c.index_mut.ensures.value (omega (arith, here, size)) c.take.ensures.value

pub returns-then-first-last-clause-items : goal.returns-then-first-last-clause-items
returns-then-first-last-clause-items g c =
    let cs = c.args.chunks.now.items in
    let is : c.args.first ≡ c.args.last = c.if-first-last.true in
    let within : c.args.last < length cs = search (rules, arith) in
    let size : get_or (sizes cs) c.args.last 0 ≡ c.index_mut.result.now.len = size_at c.args.last cs c.index_mut.result.now within c.index_mut.ensures.value in
    let here : c.args.at < get_or (sizes cs) c.args.last 0 = subst (λ (k : ℕ). c.args.at < get_or (sizes cs) k 0) is c.requires.within in
    removed_from c.args.last c.args.at cs c.index_mut.result.now c.take.new.chunk within c.index_mut.ensures.value (omega (arith, here, size)) c.take.ensures.items
    ∙ ap (λ (k : ℕ). remove (joined cs) (before k (sizes cs) + c.args.at)) (sym is)

pub returns-then-first-last-clause-sizes : goal.returns-then-first-last-clause-sizes
returns-then-first-last-clause-sizes g c =
    let cs = c.args.chunks.now.items in
    let within : c.args.last < length cs = search (rules, arith) in
    let size : get_or (sizes cs) c.args.last 0 ≡ c.index_mut.result.now.len = size_at c.args.last cs c.index_mut.result.now within c.index_mut.ensures.value in
    let less : c.take.new.chunk.len + 1 ≡ c.index_mut.result.now.len = c.take.ensures.len in
    let one : c.take.new.chunk.len ≡ get_or (sizes cs) c.args.last 0 - 1 = omega (arith, size, less) in
    sizes_set c.args.last cs c.take.new.chunk ∙ ap (λ (n : ℕ). slice_set (sizes cs) c.args.last n) one

pub returns-then-first-last-clause-room : goal.returns-then-first-last-clause-room
returns-then-first-last-clause-room g c =
    let cs = c.args.chunks.now.items in
    let within : c.args.last < length cs = search (rules, arith) in
    let less : c.take.new.chunk.len + 1 ≡ c.index_mut.result.now.len = c.take.ensures.len in
    let same : c.take.new.chunk.cap ≡ c.index_mut.result.now.cap = c.take.ensures.capacity in
    let fits : c.index_mut.result.now.len ≤ c.index_mut.result.now.cap = c.index_mut.result.now.small.1 in
    let room : get_or (rooms (slice_set cs c.args.last c.take.new.chunk)) c.args.last 0 ≡ c.take.new.chunk.cap - c.take.new.chunk.len = room_here c.args.last cs c.take.new.chunk within in
    omega (arith, less, same, fits, room)

pub loop-k-init : goal.loop-k-init
loop-k-init g c =
    let cs = c.args.chunks.now.items in
    let within : c.args.last < length cs = search (rules, arith) in
    let size : get_or (sizes cs) c.args.last 0 ≡ c.index_mut-2.result.now.len = size_at c.args.last cs c.index_mut-2.result.now within c.index_mut-2.ensures.value in
    let less : c.take-carried.new.chunk.len + 1 ≡ c.index_mut-2.result.now.len = c.take-carried.ensures.len in
    let one : c.take-carried.new.chunk.len ≡ get_or (sizes cs) c.args.last 0 - 1 = omega (arith, size, less) in
    let same : c.take-carried.new.chunk.cap ≡ c.index_mut-2.result.now.cap = c.take-carried.ensures.capacity in
    let fits : c.index_mut-2.result.now.len ≤ c.index_mut-2.result.now.cap = c.index_mut-2.result.now.small.1 in
    let room : get_or (rooms (slice_set cs c.args.last c.take-carried.new.chunk)) c.args.last 0 ≡ c.take-carried.new.chunk.cap - c.take-carried.new.chunk.len = room_here c.args.last cs c.take-carried.new.chunk within in
    record {
      items = left_front c.args.last cs c.index_mut-2.result.now c.take-carried.new.chunk c.take-carried.result within c.index_mut-2.ensures.value
          (first_out c.index_mut-2.result.now.items c.take-carried.new.chunk.items c.take-carried.result c.take-carried.ensures.value c.take-carried.ensures.items);
      sizes = sizes_set c.args.last cs c.take-carried.new.chunk ∙ ap (λ (n : ℕ). slice_set (sizes cs) c.args.last n) one;
      room = omega (arith, less, same, fits, room);
      from = search (rules, arith);
    }

pub pass_down-carried-requires : goal.pass_down-carried-requires
pass_down-carried-requires g c =
    let cs = c.loop-k.chunks.items in
    let old = sizes c.args.chunks.now.items in
    let k = c.loop-k.k - 1 in
    let within : k < length cs = search (rules, arith) in
    let size : get_or (sizes cs) k 0 ≡ c.index_mut-in-loop-k.result.now.len = size_at k cs c.index_mut-in-loop-k.result.now within c.index_mut-in-loop-k.ensures.value in
    let many : length old ≡ length c.args.chunks.now.items = as_many c.args.chunks.now.items in
    let full : get_or old k 0 ≡ 1024 = c.requires.full k (search (rules, arith)) in
    let same : get_or (sizes cs) k 0 ≡ get_or old k 0 = ap (λ (ns : List ℕ). get_or ns k 0) c.loop-k.invariant.sizes ∙ get_or-set_other old c.args.last k (get_or old c.args.last 0 - 1) 0 (search (rules, arith)) in
    omega (arith, size, full, same)

pub loop-k-preserved : goal.loop-k-preserved
loop-k-preserved g c =
    let cs = c.loop-k.chunks.items in
    let k = c.loop-k.k - 1 in
    let within : k < length cs = search (rules, arith) in
    let less : k < c.args.last = search (rules, arith) in
    let one : suc k ≡ c.loop-k.k = search (rules, arith) in
    let same : get_or (rooms (slice_set cs k c.pass_down-carried.new.chunk)) c.args.last 0 ≡ get_or (rooms cs) c.args.last 0 = room_other k c.args.last cs c.pass_down-carried.new.chunk less in
    let some : 0 < get_or (rooms cs) c.args.last 0 = c.loop-k.invariant.room in
    record {
      items = passed_down k cs c.index_mut-in-loop-k.result.now c.pass_down-carried.new.chunk c.loop-k.carried c.pass_down-carried.result within c.index_mut-in-loop-k.ensures.value c.pass_down-carried.ensures.items
          ∙ ap (λ (i : ℕ). with_between i c.loop-k.carried cs) one ∙ c.loop-k.invariant.items;
      sizes = sizes_same k cs c.index_mut-in-loop-k.result.now c.pass_down-carried.new.chunk within c.index_mut-in-loop-k.ensures.value c.pass_down-carried.ensures.len ∙ c.loop-k.invariant.sizes;
      room = omega (arith, same, some);
      from = search (rules, arith);
    }

pub returns-clause-value : goal.returns-clause-value
returns-clause-value g c =
    let cs = c.loop-k.chunks.items in
    let old = sizes c.args.chunks.now.items in
    let less : c.args.first < c.args.last = search (rules, arith) in
    let within : c.args.first < length cs = search (rules, arith) in
    let size : get_or (sizes cs) c.args.first 0 ≡ c.index_mut-3.result.now.len = size_at c.args.first cs c.index_mut-3.result.now within c.index_mut-3.ensures.value in
    let same : get_or (sizes cs) c.args.first 0 ≡ get_or old c.args.first 0 = ap (λ (ns : List ℕ). get_or ns c.args.first 0) c.loop-k.invariant.sizes ∙ get_or-set_other old c.args.last c.args.first (get_or old c.args.last 0 - 1) 0 (search (rules, arith)) in
    let fits : c.args.at < get_or old c.args.first 0 = c.requires.within in
    let stays : before c.args.first (sizes cs) ≡ before c.args.first old = ap (λ (ns : List ℕ). before c.args.first ns) c.loop-k.invariant.sizes ∙ before_set c.args.first c.args.last (get_or old c.args.last 0 - 1) old c.requires.order.0 in
    let one : suc c.args.first ≡ c.loop-k.k = search (rules, arith) in
    let whole : with_between (suc c.args.first) c.loop-k.carried cs ≡ joined c.args.chunks.now.items = ap (λ (i : ℕ). with_between i c.loop-k.carried cs) one ∙ c.loop-k.invariant.items in
    ap (λ (i : ℕ). slice_get (joined c.args.chunks.now.items) (i + c.args.at)) (sym stays)
    ∙ ap (λ (xs : List g.row.T.Denot). slice_get xs (before c.args.first (sizes cs) + c.args.at)) (sym whole)
    ∙ element_between c.args.first c.args.at cs c.index_mut-3.result.now c.take_over.result c.loop-k.carried within c.index_mut-3.ensures.value (omega (arith, size, same, fits)) c.take_over.ensures.value

pub returns-clause-items : goal.returns-clause-items
returns-clause-items g c =
    let cs = c.loop-k.chunks.items in
    let old = sizes c.args.chunks.now.items in
    let less : c.args.first < c.args.last = search (rules, arith) in
    let within : c.args.first < length cs = search (rules, arith) in
    let size : get_or (sizes cs) c.args.first 0 ≡ c.index_mut-3.result.now.len = size_at c.args.first cs c.index_mut-3.result.now within c.index_mut-3.ensures.value in
    let same : get_or (sizes cs) c.args.first 0 ≡ get_or old c.args.first 0 = ap (λ (ns : List ℕ). get_or ns c.args.first 0) c.loop-k.invariant.sizes ∙ get_or-set_other old c.args.last c.args.first (get_or old c.args.last 0 - 1) 0 (search (rules, arith)) in
    let fits : c.args.at < get_or old c.args.first 0 = c.requires.within in
    let stays : before c.args.first (sizes cs) ≡ before c.args.first old = ap (λ (ns : List ℕ). before c.args.first ns) c.loop-k.invariant.sizes ∙ before_set c.args.first c.args.last (get_or old c.args.last 0 - 1) old c.requires.order.0 in
    let one : suc c.args.first ≡ c.loop-k.k = search (rules, arith) in
    let whole : with_between (suc c.args.first) c.loop-k.carried cs ≡ joined c.args.chunks.now.items = ap (λ (i : ℕ). with_between i c.loop-k.carried cs) one ∙ c.loop-k.invariant.items in
    removed_over c.args.first c.args.at cs c.index_mut-3.result.now c.take_over.new.chunk c.loop-k.carried within c.index_mut-3.ensures.value (omega (arith, size, same, fits)) c.take_over.ensures.items
    ∙ ap (λ (xs : List g.row.T.Denot). remove xs (before c.args.first (sizes cs) + c.args.at)) whole
    ∙ ap (λ (i : ℕ). remove (joined c.args.chunks.now.items) (i + c.args.at)) stays

pub returns-clause-sizes : goal.returns-clause-sizes
returns-clause-sizes g c =
    let cs = c.loop-k.chunks.items in
    let within : c.args.first < length cs = search (rules, arith) in
    sizes_same c.args.first cs c.index_mut-3.result.now c.take_over.new.chunk within c.index_mut-3.ensures.value c.take_over.ensures.len ∙ c.loop-k.invariant.sizes

pub returns-clause-room : goal.returns-clause-room
returns-clause-room g c =
    let cs = c.loop-k.chunks.items in
    let less : c.args.first < c.args.last = search (rules, arith) in
    let same : get_or (rooms (slice_set cs c.args.first c.take_over.new.chunk)) c.args.last 0 ≡ get_or (rooms cs) c.args.last 0 = room_other c.args.first c.args.last cs c.take_over.new.chunk less in
    let some : 0 < get_or (rooms cs) c.args.last 0 = c.loop-k.invariant.room in
    omega (arith, same, some)
