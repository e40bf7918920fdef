use Rattle.std.proofs.Common.{◌≡◌, ℕ, suc, List, [], ◌∷◌, ◌++◌, ◌+◌, ◌-◌, ◌<◌, ◌≤◌, Some, length, get_or, slice_get, slice_set, refl, sym, ap, ◌∙◌, subst, arith, rules}
use Rattle.std.specs.List.{insert, remove}
use Rattle.chunked_list.specs.Chunks.{AreFull, before, joined, rooms, sizes}
use Rattle.chunked_list.proofs.Joined.{entered, inserted_in, inserted_over, passed_up, with_between}
use Rattle.chunked_list.proofs.Sizes.{as_many, room_at, room_other, size_at, sizes_same, sizes_set}
use Rattle.chunked_list.proofs.chunks.put_in.Goals as goal

pub returns-then-first-last-clause-items : goal.returns-then-first-last-clause-items
returns-then-first-last-clause-items g c =
    let cs = c.args.chunks.now.items in
    let is : c.args.first ≡ c.args.last = c.if-first-last.true in
    let within : c.args.last < length cs = search (rules, arith) in
    let size : get_or (sizes cs) c.args.last 0 ≡ c.index_mut.result.now.len = size_at c.args.last cs c.index_mut.result.now within c.index_mut.ensures.value in
    let fits : c.args.at ≤ get_or (sizes cs) c.args.first 0 = c.requires.within in
    let here : c.args.at ≤ get_or (sizes cs) c.args.last 0 = subst (λ (k : ℕ). c.args.at ≤ get_or (sizes cs) k 0) is fits in
    inserted_in c.args.last c.args.at cs c.index_mut.result.now c.put.new.chunk c.args.x within c.index_mut.ensures.value (omega (arith, here, size)) c.put.ensures.items
    ∙ ap (λ (k : ℕ). insert (joined cs) (before k (sizes cs) + c.args.at) c.args.x) (sym is)

pub returns-then-first-last-clause-sizes : goal.returns-then-first-last-clause-sizes
returns-then-first-last-clause-sizes g c =
    let cs = c.args.chunks.now.items in
    let within : c.args.last < length cs = search (rules, arith) in
    let size : get_or (sizes cs) c.args.last 0 ≡ c.index_mut.result.now.len = size_at c.args.last cs c.index_mut.result.now within c.index_mut.ensures.value in
    sizes_set c.args.last cs c.put.new.chunk ∙ ap (λ (n : ℕ). slice_set (sizes cs) c.args.last n) (c.put.ensures.len ∙ ap (λ (n : ℕ). n + 1) (sym size))

pub loop-k-init : goal.loop-k-init
loop-k-init g c =
    let cs = c.args.chunks.now.items in
    let less : c.args.first < c.args.last = search (rules, arith) in
    let within : c.args.first < length cs = search (rules, arith) in
    let size : get_or (sizes cs) c.args.first 0 ≡ c.index_mut-2.result.now.len = size_at c.args.first cs c.index_mut-2.result.now within c.index_mut-2.ensures.value in
    let fits : c.args.at ≤ get_or (sizes cs) c.args.first 0 = c.requires.within in
    let one : c.args.first + 1 ≡ suc c.args.first = omega arith in
    record {
      items = ap (λ (k : ℕ). with_between k c.put_over-carried.result (slice_set cs c.args.first c.put_over-carried.new.chunk)) one
          ∙ inserted_over c.args.first c.args.at cs c.index_mut-2.result.now c.put_over-carried.new.chunk c.args.x c.put_over-carried.result within c.index_mut-2.ensures.value (omega (arith, size, fits)) c.put_over-carried.ensures.items;
      sizes = sizes_same c.args.first cs c.index_mut-2.result.now c.put_over-carried.new.chunk within c.index_mut-2.ensures.value c.put_over-carried.ensures.len;
      room = room_other c.args.first c.args.last cs c.put_over-carried.new.chunk less;
    }

pub pass_up-carried-requires : goal.pass_up-carried-requires
pass_up-carried-requires g c =
    let cs = c.loop-k.chunks.items in
    let within : c.loop-k.k < length cs = search (rules, arith) in
    let size : get_or (sizes cs) c.loop-k.k 0 ≡ c.index_mut-in-loop-k.result.now.len = size_at c.loop-k.k cs c.index_mut-in-loop-k.result.now within c.index_mut-in-loop-k.ensures.value in
    let many : length (sizes c.args.chunks.now.items) ≡ length c.args.chunks.now.items = as_many c.args.chunks.now.items in
    let full : get_or (sizes c.args.chunks.now.items) c.loop-k.k 0 ≡ 1024 = c.requires.full c.loop-k.k (search (rules, arith)) in
    let same : get_or (sizes cs) c.loop-k.k 0 ≡ get_or (sizes c.args.chunks.now.items) c.loop-k.k 0 = ap (λ (ns : List ℕ). get_or ns c.loop-k.k 0) c.loop-k.invariant.sizes in
    omega (arith, size, full, same)

pub loop-k-preserved : goal.loop-k-preserved
loop-k-preserved g c =
    let cs = c.loop-k.chunks.items in
    let within : c.loop-k.k < length cs = search (rules, arith) in
    let less : c.loop-k.k < c.args.last = search (rules, arith) in
    let one : c.loop-k.k + 1 ≡ suc c.loop-k.k = omega arith in
    record {
      items = ap (λ (k : ℕ). with_between k c.pass_up-carried.result (slice_set cs c.loop-k.k c.pass_up-carried.new.chunk)) one
          ∙ passed_up c.loop-k.k cs c.index_mut-in-loop-k.result.now c.pass_up-carried.new.chunk c.loop-k.carried c.pass_up-carried.result within c.index_mut-in-loop-k.ensures.value c.pass_up-carried.ensures.items
          ∙ c.loop-k.invariant.items;
      sizes = sizes_same c.loop-k.k cs c.index_mut-in-loop-k.result.now c.pass_up-carried.new.chunk within c.index_mut-in-loop-k.ensures.value c.pass_up-carried.ensures.len ∙ c.loop-k.invariant.sizes;
      room = room_other c.loop-k.k c.args.last cs c.pass_up-carried.new.chunk less ∙ c.loop-k.invariant.room;
    }

pub push_front_reserved-requires : goal.push_front_reserved-requires
push_front_reserved-requires g c =
    let cs = c.loop-k.chunks.items in
    let within : c.args.last < length cs = search (rules, arith) in
    let room : get_or (rooms cs) c.args.last 0 ≡ c.index_mut-3.result.now.cap - c.index_mut-3.result.now.len = room_at c.args.last cs c.index_mut-3.result.now within c.index_mut-3.ensures.value in
    let some : 0 < get_or (rooms c.args.chunks.now.items) c.args.last 0 = c.requires.room in
    let same : get_or (rooms cs) c.args.last 0 ≡ get_or (rooms c.args.chunks.now.items) c.args.last 0 = c.loop-k.invariant.room in
    omega (arith, room, some, same)

pub returns-clause-items : goal.returns-clause-items
returns-clause-items g c =
    let cs = c.loop-k.chunks.items in
    let within : c.args.last < length cs = search (rules, arith) in
    let at_end : c.args.last ≡ c.loop-k.k = search (rules, arith) in
    entered c.args.last cs c.index_mut-3.result.now c.push_front_reserved.new.self c.loop-k.carried within c.index_mut-3.ensures.value c.push_front_reserved.ensures.items
    ∙ ap (λ (k : ℕ). with_between k c.loop-k.carried cs) at_end ∙ c.loop-k.invariant.items

pub returns-clause-sizes : goal.returns-clause-sizes
returns-clause-sizes g c =
    let cs = c.loop-k.chunks.items in
    let within : c.args.last < length cs = search (rules, arith) in
    let size : get_or (sizes cs) c.args.last 0 ≡ c.index_mut-3.result.now.len = size_at c.args.last cs c.index_mut-3.result.now within c.index_mut-3.ensures.value in
    sizes_set c.args.last cs c.push_front_reserved.new.self
    ∙ ap (λ (n : ℕ). slice_set (sizes cs) c.args.last n) (c.push_front_reserved.ensures.len ∙ ap (λ (n : ℕ). n + 1) (sym size))
    ∙ ap (λ (ns : List ℕ). slice_set ns c.args.last (get_or ns c.args.last 0 + 1)) c.loop-k.invariant.sizes
