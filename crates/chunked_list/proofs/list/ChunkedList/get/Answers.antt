use Rattle.std.proofs.Common.{◌≡◌, ℕ, List, ◌+◌, ◌-◌, ◌/◌, ◌%◌, ◌<◌, ◌≤◌, Some, max, length, get_or, slice_get, slice_set, refl, ap, sym, ◌∙◌, subst, arith, rules}
use Rattle.chunked_list.specs.Chunks.{joined, sizes}
use Rattle.chunked_list.proofs.Joined.{element_of, get_is}
use Rattle.chunked_list.proofs.Sizes.{size_at}
use Rattle.chunked_list.proofs.Stored.{IsAt, stored_at}
use Rattle.chunked_list.proofs.list.ChunkedList.get.Goals as goal

pub index-requires : goal.index-requires
index-requires g c =
    let cs = c.self.inside.chunks.items in
    let within : c.args.at < length (joined cs) = subst (λ (xs : List g.row.T.Denot). c.args.at < length xs) (sym c.self.view_is) c.requires in
    let found : IsAt c.args.at (c.args.at / 1024) (c.args.at % 1024) cs = stored_at c.args.at (c.args.at / 1024) (c.args.at % 1024) cs c.self.invariant.full within refl refl in
    let chunk : c.args.at / 1024 < length cs = found.chunk in
    let count : length cs ≡ c.self.inside.chunks.len = search rules in
    omega (arith, chunk, count)

pub index-requires-2 : goal.index-requires-2
index-requires-2 g c =
    let cs = c.self.inside.chunks.items in
    let within : c.args.at < length (joined cs) = subst (λ (xs : List g.row.T.Denot). c.args.at < length xs) (sym c.self.view_is) c.requires in
    let found : IsAt c.args.at (c.args.at / 1024) (c.args.at % 1024) cs = stored_at c.args.at (c.args.at / 1024) (c.args.at % 1024) cs c.self.invariant.full within refl refl in
    let size : get_or (sizes cs) (c.args.at / 1024) 0 ≡ c.index.result.now.len = size_at (c.args.at / 1024) cs c.index.result.now found.chunk c.index.ensures in
    let place : c.args.at % 1024 < get_or (sizes cs) (c.args.at / 1024) 0 = found.place in
    omega (arith, place, size)

pub returns : goal.returns
returns g c =
    let cs = c.self.inside.chunks.items in
    let r = c.args.at % 1024 in
    let within : c.args.at < length (joined cs) = subst (λ (xs : List g.row.T.Denot). c.args.at < length xs) (sym c.self.view_is) c.requires in
    let found : IsAt c.args.at (c.args.at / 1024) r cs = stored_at c.args.at (c.args.at / 1024) r cs c.self.invariant.full within refl refl in
    let size : get_or (sizes cs) (c.args.at / 1024) 0 ≡ c.index.result.now.len = size_at (c.args.at / 1024) cs c.index.result.now found.chunk c.index.ensures in
    let place : r < get_or (sizes cs) (c.args.at / 1024) 0 = found.place in
    let fits : r < c.index.result.now.len = omega (arith, place, size) in
    ap (λ (xs : List g.row.T.Denot). slice_get xs c.args.at) (sym c.self.view_is)
    ∙ ap (λ (i : ℕ). slice_get (joined cs) i) (sym found.index)
    ∙ element_of (c.args.at / 1024) r cs c.index.result.now c.index-2.result.now found.chunk c.index.ensures fits (get_is c.index.result.now r c.index-2.result.now fits c.index-2.ensures)
