use Rattle.std.proofs.Common.{◌≡◌, ℕ, List, ◌+◌, ◌-◌, ◌/◌, ◌%◌, ◌<◌, ◌≤◌, Some, max, length, get_or, slice_get, slice_set, refl, ap, sym, ◌∙◌, subst, arith, rules}
use Rattle.std.specs.VecDeque.{deque_with_item}
use Rattle.std.proofs.lemmas.List.{length-set}
use Rattle.chunked_list.specs.Chunks.{AreFull, joined, sizes}
use Rattle.chunked_list.proofs.Joined.{element_of, get_is, set_in}
use Rattle.chunked_list.proofs.Sizes.{size_at, sizes_same}
use Rattle.chunked_list.proofs.Stored.{IsAt, stored_at}
use Rattle.chunked_list.proofs.list.ChunkedList.replace.Goals as goal

pub index_mut-requires : goal.index_mut-requires
index_mut-requires g c =
    let cs = c.self.inside.chunks.items in
    let within : c.args.at < length (joined cs) = subst (λ (xs : List g.row.T.Denot). c.args.at < length xs) (sym c.self.view_is) c.requires in
    let found : IsAt c.args.at (c.args.at / 1024) (c.args.at % 1024) cs = stored_at c.args.at (c.args.at / 1024) (c.args.at % 1024) cs c.self.invariant.full within refl refl in
    let chunk : c.args.at / 1024 < length cs = found.chunk in
    let count : length cs ≡ c.self.inside.chunks.len = search rules in
    omega (arith, chunk, count)

pub index_mut-requires-2 : goal.index_mut-requires-2
index_mut-requires-2 g c =
    let cs = c.self.inside.chunks.items in
    let within : c.args.at < length (joined cs) = subst (λ (xs : List g.row.T.Denot). c.args.at < length xs) (sym c.self.view_is) c.requires in
    let found : IsAt c.args.at (c.args.at / 1024) (c.args.at % 1024) cs = stored_at c.args.at (c.args.at / 1024) (c.args.at % 1024) cs c.self.invariant.full within refl refl in
    let size : get_or (sizes cs) (c.args.at / 1024) 0 ≡ c.index_mut.result.now.len = size_at (c.args.at / 1024) cs c.index_mut.result.now found.chunk c.index_mut.ensures.value in
    let place : c.args.at % 1024 < get_or (sizes cs) (c.args.at / 1024) 0 = found.place in
    omega (arith, place, size)

pub invariant_of-self : goal.invariant_of-self
invariant_of-self g c =
    let cs = c.self.inside.chunks.items in
    let a = c.args.at / 1024 in
    let r = c.args.at % 1024 in
    let new = deque_with_item c.index_mut.result.now r c.replace.new.dest in
    let within : c.args.at < length (joined cs) = subst (λ (xs : List g.row.T.Denot). c.args.at < length xs) (sym c.self.view_is) c.requires in
    let found : IsAt c.args.at a r cs = stored_at c.args.at a r cs c.self.invariant.full within refl refl in
    let size : get_or (sizes cs) a 0 ≡ c.index_mut.result.now.len = size_at a cs c.index_mut.result.now found.chunk c.index_mut.ensures.value in
    let place : r < get_or (sizes cs) a 0 = found.place in
    let fits : r < c.index_mut.result.now.len = omega (arith, place, size) in
    record {
      counted = c.self.invariant.counted ∙ sym (ap length (set_in a r cs c.index_mut.result.now new c.replace.new.dest found.chunk c.index_mut.ensures.value fits refl) ∙ length-set (joined cs) _ c.replace.new.dest);
      full = subst (AreFull 1024) (sym (sizes_same a cs c.index_mut.result.now new found.chunk c.index_mut.ensures.value refl)) c.self.invariant.full;
    }

pub returns-clause-value : goal.returns-clause-value
returns-clause-value g c =
    let cs = c.self.inside.chunks.items in
    let r = c.args.at % 1024 in
    let within : c.args.at < length (joined cs) = subst (λ (xs : List g.row.T.Denot). c.args.at < length xs) (sym c.self.view_is) c.requires in
    let found : IsAt c.args.at (c.args.at / 1024) r cs = stored_at c.args.at (c.args.at / 1024) r cs c.self.invariant.full within refl refl in
    let size : get_or (sizes cs) (c.args.at / 1024) 0 ≡ c.index_mut.result.now.len = size_at (c.args.at / 1024) cs c.index_mut.result.now found.chunk c.index_mut.ensures.value in
    let place : r < get_or (sizes cs) (c.args.at / 1024) 0 = found.place in
    let fits : r < c.index_mut.result.now.len = omega (arith, place, size) in
    ap (λ (xs : List g.row.T.Denot). slice_get xs c.args.at) (sym c.self.view_is)
    ∙ ap (λ (i : ℕ). slice_get (joined cs) i) (sym found.index)
    ∙ element_of (c.args.at / 1024) r cs c.index_mut.result.now c.index_mut-2.result.now found.chunk c.index_mut.ensures.value fits (get_is c.index_mut.result.now r c.index_mut-2.result.now fits c.index_mut-2.ensures.value)
    ∙ ap Some (sym c.replace.ensures.value)

pub returns-clause-items : goal.returns-clause-items
returns-clause-items g c =
    let cs = c.self.inside.chunks.items in
    let a = c.args.at / 1024 in
    let r = c.args.at % 1024 in
    let new = deque_with_item c.index_mut.result.now r c.replace.new.dest in
    let within : c.args.at < length (joined cs) = subst (λ (xs : List g.row.T.Denot). c.args.at < length xs) (sym c.self.view_is) c.requires in
    let found : IsAt c.args.at a r cs = stored_at c.args.at a r cs c.self.invariant.full within refl refl in
    let size : get_or (sizes cs) a 0 ≡ c.index_mut.result.now.len = size_at a cs c.index_mut.result.now found.chunk c.index_mut.ensures.value in
    let place : r < get_or (sizes cs) a 0 = found.place in
    let fits : r < c.index_mut.result.now.len = omega (arith, place, size) in
    set_in a r cs c.index_mut.result.now new c.replace.new.dest found.chunk c.index_mut.ensures.value fits refl
    ∙ ap (λ (i : ℕ). slice_set (joined cs) i c.replace.new.dest) found.index
    ∙ ap (λ (xs : List g.row.T.Denot). slice_set xs c.args.at c.replace.new.dest) c.self.view_is
    ∙ ap (λ (x : g.row.T.Denot). slice_set c.args.self.now c.args.at x) c.replace.ensures.after
