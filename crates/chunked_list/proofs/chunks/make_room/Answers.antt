use Rattle.std.proofs.Common.{◌≡◌, ℕ, List, [], ◌∷◌, ◌++◌, ◌+◌, ◌-◌, ◌<◌, ◌≤◌, Some, length, get_or, slice_get, slice_set, sym, ap, ◌∙◌, subst, arith, rules}
use Rattle.chunked_list.specs.Chunks.{AreFull, before, joined, rooms, sizes}
use Rattle.std.proofs.lemmas.Result.{on_ok_weaker}
use Rattle.chunked_list.proofs.Joined.{same_joined}
use Rattle.chunked_list.proofs.Sizes.{room_here, size_at, sizes_same}
use Rattle.chunked_list.proofs.chunks.make_room.Goals as goal

pub returns-clause-items : goal.returns-clause-items
returns-clause-items g c =
    let cs = c.args.chunks.now.items in
    let k = c.len-count.result - 1 in
    let within : k < length cs = search (rules, arith) in
    same_joined k cs c.index_mut.result.now c.reserve.new.self within c.index_mut.ensures.value c.reserve.ensures.items

pub returns-clause-full : goal.returns-clause-full
returns-clause-full g c =
    let cs = c.args.chunks.now.items in
    let k = c.len-count.result - 1 in
    let within : k < length cs = search (rules, arith) in
    subst (AreFull 1024) (sym (sizes_same k cs c.index_mut.result.now c.reserve.new.self within c.index_mut.ensures.value c.reserve.ensures.len)) c.requires

pub returns-clause-below : goal.returns-clause-below
returns-clause-below g c =
    let cs = c.args.chunks.now.items in
    let k = c.len-count.result - 1 in
    let within : k < length cs = search (rules, arith) in
    let last : c.args.chunks.now.len - 1 ≡ k = search (rules, arith) in
    let size : get_or (sizes cs) k 0 ≡ c.index.result.now.len = size_at k cs c.index.result.now within c.index.ensures in
    let few : get_or (sizes cs) k 0 < 1024 = search (rules, arith) in
    let same : get_or (sizes (slice_set cs k c.reserve.new.self)) (c.args.chunks.now.len - 1) 0 ≡ get_or (sizes cs) k 0 =
    ap (λ (i : ℕ). get_or (sizes (slice_set cs k c.reserve.new.self)) i 0) last
    ∙ ap (λ (ns : List ℕ). get_or ns k 0) (sizes_same k cs c.index_mut.result.now c.reserve.new.self within c.index_mut.ensures.value c.reserve.ensures.len) in
    on_ok_weaker c.reserve.result (λ _. omega (arith, few, same)) c.reserve.ensures.ok

pub returns-clause-room : goal.returns-clause-room
returns-clause-room g c =
    let cs = c.args.chunks.now.items in
    let k = c.len-count.result - 1 in
    let within : k < length cs = search (rules, arith) in
    let last : c.args.chunks.now.len - 1 ≡ k = search (rules, arith) in
    let same : get_or (rooms (slice_set cs k c.reserve.new.self)) (c.args.chunks.now.len - 1) 0 ≡ c.reserve.new.self.cap - c.reserve.new.self.len =
    ap (λ (i : ℕ). get_or (rooms (slice_set cs k c.reserve.new.self)) i 0) last ∙ room_here k cs c.reserve.new.self within in
    let len : c.reserve.new.self.len ≡ c.index_mut.result.now.len = c.reserve.ensures.len in
    on_ok_weaker c.reserve.result (λ fits. omega (arith, same, len, fits)) c.reserve.ensures.ok
