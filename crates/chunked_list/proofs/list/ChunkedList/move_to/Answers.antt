use Rattle.std.proofs.Common.{◌≡◌, ℕ, List, ◌+◌, ◌-◌, ◌/◌, ◌%◌, ◌<◌, ◌≤◌, Some, max, length, get_or, slice_get, slice_set, refl, ap, sym, ◌∙◌, subst, arith, rules}
use Rattle.std.specs.List.{insert, remove}
use Rattle.std.proofs.lemmas.List.Edits.{length-insert, length-remove}
use Rattle.std.proofs.lemmas.List.{get_or-set_other, length-set}
use Rattle.chunked_list.specs.Moves.{moved}
use Rattle.chunked_list.specs.Chunks.{AreFull, before, joined, sizes}
use Rattle.chunked_list.proofs.Sizes.{as_many, before_set}
use Rattle.chunked_list.proofs.Stored.{IsAt, moved_is, set_back, stored_at, within_set}
use Rattle.chunked_list.proofs.list.ChunkedList.move_to.Goals as goal

pub take_out-x-requires-clause-full : goal.take_out-x-requires-clause-full
take_out-x-requires-clause-full g c = λ k less.
    let cs = c.self.inside.chunks.items in
    let last = c.max-last.result / 1024 in
    let a = c.args.from / 1024 in
    let b = c.args.to / 1024 in
    let whole : length (joined cs) ≡ length c.args.self.now = ap length c.self.view_is in
    let top : c.max-last.result ≡ max c.args.from c.args.to = c.max-last.ensures in
    let most_in : c.max-last.result < length (joined cs) = omega (arith, whole, top, c.requires.0, c.requires.1) in
    let most : IsAt c.max-last.result last (c.max-last.result % 1024) cs = stored_at c.max-last.result last (c.max-last.result % 1024) cs c.self.invariant.full most_in refl refl in
    let from : IsAt c.args.from a (c.args.from % 1024) cs = stored_at c.args.from a (c.args.from % 1024) cs c.self.invariant.full (omega (arith, whole, c.requires.0)) refl refl in
    let to : IsAt c.args.to b (c.args.to % 1024) cs = stored_at c.args.to b (c.args.to % 1024) cs c.self.invariant.full (omega (arith, whole, c.requires.1)) refl refl in
    let from_order : a ≤ last = omega (arith, top) in
    let to_order : b ≤ last = omega (arith, top) in
    let last_in : last < length cs = most.chunk in
    let many : length (sizes cs) ≡ length cs = as_many cs in
    c.self.invariant.full.full k (omega (arith, less, last_in, many))

pub take_out-x-requires-clause-order : goal.take_out-x-requires-clause-order
take_out-x-requires-clause-order g c =
    let cs = c.self.inside.chunks.items in
    let last = c.max-last.result / 1024 in
    let a = c.args.from / 1024 in
    let b = c.args.to / 1024 in
    let whole : length (joined cs) ≡ length c.args.self.now = ap length c.self.view_is in
    let top : c.max-last.result ≡ max c.args.from c.args.to = c.max-last.ensures in
    let most_in : c.max-last.result < length (joined cs) = omega (arith, whole, top, c.requires.0, c.requires.1) in
    let most : IsAt c.max-last.result last (c.max-last.result % 1024) cs = stored_at c.max-last.result last (c.max-last.result % 1024) cs c.self.invariant.full most_in refl refl in
    let from : IsAt c.args.from a (c.args.from % 1024) cs = stored_at c.args.from a (c.args.from % 1024) cs c.self.invariant.full (omega (arith, whole, c.requires.0)) refl refl in
    let to : IsAt c.args.to b (c.args.to % 1024) cs = stored_at c.args.to b (c.args.to % 1024) cs c.self.invariant.full (omega (arith, whole, c.requires.1)) refl refl in
    let from_order : a ≤ last = omega (arith, top) in
    let to_order : b ≤ last = omega (arith, top) in
    let last_in : last < length cs = most.chunk in
    let count : length cs ≡ c.self.inside.chunks.len = search rules in
    (from_order, omega (arith, last_in, count))

pub take_out-x-requires-clause-within : goal.take_out-x-requires-clause-within
take_out-x-requires-clause-within g c =
    let cs = c.self.inside.chunks.items in
    let last = c.max-last.result / 1024 in
    let a = c.args.from / 1024 in
    let b = c.args.to / 1024 in
    let whole : length (joined cs) ≡ length c.args.self.now = ap length c.self.view_is in
    let top : c.max-last.result ≡ max c.args.from c.args.to = c.max-last.ensures in
    let most_in : c.max-last.result < length (joined cs) = omega (arith, whole, top, c.requires.0, c.requires.1) in
    let most : IsAt c.max-last.result last (c.max-last.result % 1024) cs = stored_at c.max-last.result last (c.max-last.result % 1024) cs c.self.invariant.full most_in refl refl in
    let from : IsAt c.args.from a (c.args.from % 1024) cs = stored_at c.args.from a (c.args.from % 1024) cs c.self.invariant.full (omega (arith, whole, c.requires.0)) refl refl in
    let to : IsAt c.args.to b (c.args.to % 1024) cs = stored_at c.args.to b (c.args.to % 1024) cs c.self.invariant.full (omega (arith, whole, c.requires.1)) refl refl in
    let from_order : a ≤ last = omega (arith, top) in
    let to_order : b ≤ last = omega (arith, top) in
    from.place

pub take_out-x-requires-clause-filled : goal.take_out-x-requires-clause-filled
take_out-x-requires-clause-filled g c =
    let cs = c.self.inside.chunks.items in
    let last = c.max-last.result / 1024 in
    let a = c.args.from / 1024 in
    let b = c.args.to / 1024 in
    let whole : length (joined cs) ≡ length c.args.self.now = ap length c.self.view_is in
    let top : c.max-last.result ≡ max c.args.from c.args.to = c.max-last.ensures in
    let most_in : c.max-last.result < length (joined cs) = omega (arith, whole, top, c.requires.0, c.requires.1) in
    let most : IsAt c.max-last.result last (c.max-last.result % 1024) cs = stored_at c.max-last.result last (c.max-last.result % 1024) cs c.self.invariant.full most_in refl refl in
    let from : IsAt c.args.from a (c.args.from % 1024) cs = stored_at c.args.from a (c.args.from % 1024) cs c.self.invariant.full (omega (arith, whole, c.requires.0)) refl refl in
    let to : IsAt c.args.to b (c.args.to % 1024) cs = stored_at c.args.to b (c.args.to % 1024) cs c.self.invariant.full (omega (arith, whole, c.requires.1)) refl refl in
    let from_order : a ≤ last = omega (arith, top) in
    let to_order : b ≤ last = omega (arith, top) in
    let some : c.max-last.result % 1024 < get_or (sizes cs) last 0 = most.place in
    omega (arith, some)

pub put_in-requires-clause-order : goal.put_in-requires-clause-order
put_in-requires-clause-order g c =
    let cs = c.self.inside.chunks.items in
    let last = c.max-last.result / 1024 in
    let a = c.args.from / 1024 in
    let b = c.args.to / 1024 in
    let whole : length (joined cs) ≡ length c.args.self.now = ap length c.self.view_is in
    let top : c.max-last.result ≡ max c.args.from c.args.to = c.max-last.ensures in
    let most_in : c.max-last.result < length (joined cs) = omega (arith, whole, top, c.requires.0, c.requires.1) in
    let most : IsAt c.max-last.result last (c.max-last.result % 1024) cs = stored_at c.max-last.result last (c.max-last.result % 1024) cs c.self.invariant.full most_in refl refl in
    let from : IsAt c.args.from a (c.args.from % 1024) cs = stored_at c.args.from a (c.args.from % 1024) cs c.self.invariant.full (omega (arith, whole, c.requires.0)) refl refl in
    let to : IsAt c.args.to b (c.args.to % 1024) cs = stored_at c.args.to b (c.args.to % 1024) cs c.self.invariant.full (omega (arith, whole, c.requires.1)) refl refl in
    let from_order : a ≤ last = omega (arith, top) in
    let to_order : b ≤ last = omega (arith, top) in
    let ns = sizes cs in
    let ns' = sizes c.take_out-x.new.chunks.items in
    let are : ns' ≡ slice_set ns last (get_or ns last 0 - 1) = c.take_out-x.ensures.sizes in
    let many : length ns ≡ length cs = as_many cs in
    let last_in : last < length cs = most.chunk in
    let same : length ns' ≡ length ns = ap length are ∙ length-set ns last (get_or ns last 0 - 1) in
    let many' : length ns' ≡ length c.take_out-x.new.chunks.items = as_many c.take_out-x.new.chunks.items in
    let count : length c.take_out-x.new.chunks.items ≡ c.take_out-x.new.chunks.len = search rules in
    (to_order, omega (arith, last_in, count, many, many', same))

pub put_in-requires-clause-full : goal.put_in-requires-clause-full
put_in-requires-clause-full g c = λ k less.
    let cs = c.self.inside.chunks.items in
    let last = c.max-last.result / 1024 in
    let a = c.args.from / 1024 in
    let b = c.args.to / 1024 in
    let whole : length (joined cs) ≡ length c.args.self.now = ap length c.self.view_is in
    let top : c.max-last.result ≡ max c.args.from c.args.to = c.max-last.ensures in
    let most_in : c.max-last.result < length (joined cs) = omega (arith, whole, top, c.requires.0, c.requires.1) in
    let most : IsAt c.max-last.result last (c.max-last.result % 1024) cs = stored_at c.max-last.result last (c.max-last.result % 1024) cs c.self.invariant.full most_in refl refl in
    let from : IsAt c.args.from a (c.args.from % 1024) cs = stored_at c.args.from a (c.args.from % 1024) cs c.self.invariant.full (omega (arith, whole, c.requires.0)) refl refl in
    let to : IsAt c.args.to b (c.args.to % 1024) cs = stored_at c.args.to b (c.args.to % 1024) cs c.self.invariant.full (omega (arith, whole, c.requires.1)) refl refl in
    let from_order : a ≤ last = omega (arith, top) in
    let to_order : b ≤ last = omega (arith, top) in
    let ns = sizes cs in
    let ns' = sizes c.take_out-x.new.chunks.items in
    let are : ns' ≡ slice_set ns last (get_or ns last 0 - 1) = c.take_out-x.ensures.sizes in
    let many : length ns ≡ length cs = as_many cs in
    let last_in : last < length cs = most.chunk in
    ap (λ (ms : List ℕ). get_or ms k 0) are ∙ get_or-set_other ns last k (get_or ns last 0 - 1) 0 (λ same. omega (arith, same, less)) ∙ c.self.invariant.full.full k (omega (arith, less, last_in, many))

pub put_in-requires-clause-within : goal.put_in-requires-clause-within
put_in-requires-clause-within g c =
    let cs = c.self.inside.chunks.items in
    let last = c.max-last.result / 1024 in
    let a = c.args.from / 1024 in
    let b = c.args.to / 1024 in
    let whole : length (joined cs) ≡ length c.args.self.now = ap length c.self.view_is in
    let top : c.max-last.result ≡ max c.args.from c.args.to = c.max-last.ensures in
    let most_in : c.max-last.result < length (joined cs) = omega (arith, whole, top, c.requires.0, c.requires.1) in
    let most : IsAt c.max-last.result last (c.max-last.result % 1024) cs = stored_at c.max-last.result last (c.max-last.result % 1024) cs c.self.invariant.full most_in refl refl in
    let from : IsAt c.args.from a (c.args.from % 1024) cs = stored_at c.args.from a (c.args.from % 1024) cs c.self.invariant.full (omega (arith, whole, c.requires.0)) refl refl in
    let to : IsAt c.args.to b (c.args.to % 1024) cs = stored_at c.args.to b (c.args.to % 1024) cs c.self.invariant.full (omega (arith, whole, c.requires.1)) refl refl in
    let from_order : a ≤ last = omega (arith, top) in
    let to_order : b ≤ last = omega (arith, top) in
    let ns = sizes cs in
    let ns' = sizes c.take_out-x.new.chunks.items in
    let are : ns' ≡ slice_set ns last (get_or ns last 0 - 1) = c.take_out-x.ensures.sizes in
    let many : length ns ≡ length cs = as_many cs in
    let last_in : last < length cs = most.chunk in
    let bound : c.args.to % 1024 ≤ get_or (slice_set ns last (get_or ns last 0 - 1)) b 0 = within_set last b (c.args.to % 1024) ns (omega (arith, last_in, many)) to.place in
    subst (λ (ms : List ℕ). c.args.to % 1024 ≤ get_or ms b 0) (sym are) bound

pub invariant_of-self : goal.invariant_of-self
invariant_of-self g c =
    let cs = c.self.inside.chunks.items in
    let last = c.max-last.result / 1024 in
    let a = c.args.from / 1024 in
    let b = c.args.to / 1024 in
    let whole : length (joined cs) ≡ length c.args.self.now = ap length c.self.view_is in
    let top : c.max-last.result ≡ max c.args.from c.args.to = c.max-last.ensures in
    let most_in : c.max-last.result < length (joined cs) = omega (arith, whole, top, c.requires.0, c.requires.1) in
    let most : IsAt c.max-last.result last (c.max-last.result % 1024) cs = stored_at c.max-last.result last (c.max-last.result % 1024) cs c.self.invariant.full most_in refl refl in
    let from : IsAt c.args.from a (c.args.from % 1024) cs = stored_at c.args.from a (c.args.from % 1024) cs c.self.invariant.full (omega (arith, whole, c.requires.0)) refl refl in
    let to : IsAt c.args.to b (c.args.to % 1024) cs = stored_at c.args.to b (c.args.to % 1024) cs c.self.invariant.full (omega (arith, whole, c.requires.1)) refl refl in
    let from_order : a ≤ last = omega (arith, top) in
    let to_order : b ≤ last = omega (arith, top) in
    let ns = sizes cs in
    let ns' = sizes c.take_out-x.new.chunks.items in
    let are : ns' ≡ slice_set ns last (get_or ns last 0 - 1) = c.take_out-x.ensures.sizes in
    let many : length ns ≡ length cs = as_many cs in
    let last_in : last < length cs = most.chunk in
    let start : before b ns' + c.args.to % 1024 ≡ c.args.to = ap (λ (n : ℕ). n + c.args.to % 1024) (ap (λ (ms : List ℕ). before b ms) are ∙ before_set b last (get_or ns last 0 - 1) ns to_order) ∙ to.index in
    let out : joined c.take_out-x.new.chunks.items ≡ remove (joined cs) c.args.from = c.take_out-x.ensures.items ∙ ap (λ (i : ℕ). remove (joined cs) i) from.index in
    let put : joined c.put_in.new.chunks.items ≡ insert (remove (joined cs) c.args.from) c.args.to c.take_out-x.result = c.put_in.ensures.items ∙ ap (λ (i : ℕ). insert (joined c.take_out-x.new.chunks.items) i c.take_out-x.result) start ∙ ap (λ (xs : List g.row.T.Denot). insert xs c.args.to c.take_out-x.result) out in
    let some : c.max-last.result % 1024 < get_or ns last 0 = most.place in
    let back : sizes c.put_in.new.chunks.items ≡ ns = c.put_in.ensures.sizes ∙ ap (λ (ms : List ℕ). slice_set ms last (get_or ms last 0 + 1)) are ∙ set_back last ns (omega (arith, last_in, many)) (omega (arith, some)) in
    let fewer : length (remove (joined cs) c.args.from) + 1 ≡ length (joined cs) = length-remove (joined cs) c.args.from (omega (arith, whole, c.requires.0)) in
    let again : length (insert (remove (joined cs) c.args.from) c.args.to c.take_out-x.result) ≡ length (remove (joined cs) c.args.from) + 1 = length-insert (remove (joined cs) c.args.from) c.args.to c.take_out-x.result (omega (arith, fewer, whole, c.requires.1)) in
    let long : length (joined c.put_in.new.chunks.items) ≡ length (insert (remove (joined cs) c.args.from) c.args.to c.take_out-x.result) = ap length put in
    let counted : c.self.inside.len ≡ length (joined cs) = c.self.invariant.counted in
    record { counted = omega (arith, fewer, again, long, counted); full = subst (AreFull 1024) (sym back) c.self.invariant.full }

pub returns : goal.returns
returns g c =
    let cs = c.self.inside.chunks.items in
    let last = c.max-last.result / 1024 in
    let a = c.args.from / 1024 in
    let b = c.args.to / 1024 in
    let whole : length (joined cs) ≡ length c.args.self.now = ap length c.self.view_is in
    let top : c.max-last.result ≡ max c.args.from c.args.to = c.max-last.ensures in
    let most_in : c.max-last.result < length (joined cs) = omega (arith, whole, top, c.requires.0, c.requires.1) in
    let most : IsAt c.max-last.result last (c.max-last.result % 1024) cs = stored_at c.max-last.result last (c.max-last.result % 1024) cs c.self.invariant.full most_in refl refl in
    let from : IsAt c.args.from a (c.args.from % 1024) cs = stored_at c.args.from a (c.args.from % 1024) cs c.self.invariant.full (omega (arith, whole, c.requires.0)) refl refl in
    let to : IsAt c.args.to b (c.args.to % 1024) cs = stored_at c.args.to b (c.args.to % 1024) cs c.self.invariant.full (omega (arith, whole, c.requires.1)) refl refl in
    let from_order : a ≤ last = omega (arith, top) in
    let to_order : b ≤ last = omega (arith, top) in
    let ns = sizes cs in
    let ns' = sizes c.take_out-x.new.chunks.items in
    let are : ns' ≡ slice_set ns last (get_or ns last 0 - 1) = c.take_out-x.ensures.sizes in
    let many : length ns ≡ length cs = as_many cs in
    let last_in : last < length cs = most.chunk in
    let start : before b ns' + c.args.to % 1024 ≡ c.args.to = ap (λ (n : ℕ). n + c.args.to % 1024) (ap (λ (ms : List ℕ). before b ms) are ∙ before_set b last (get_or ns last 0 - 1) ns to_order) ∙ to.index in
    let out : joined c.take_out-x.new.chunks.items ≡ remove (joined cs) c.args.from = c.take_out-x.ensures.items ∙ ap (λ (i : ℕ). remove (joined cs) i) from.index in
    let put : joined c.put_in.new.chunks.items ≡ insert (remove (joined cs) c.args.from) c.args.to c.take_out-x.result = c.put_in.ensures.items ∙ ap (λ (i : ℕ). insert (joined c.take_out-x.new.chunks.items) i c.take_out-x.result) start ∙ ap (λ (xs : List g.row.T.Denot). insert xs c.args.to c.take_out-x.result) out in
    let here : slice_get (joined cs) c.args.from ≡ Some c.take_out-x.result = ap (λ (i : ℕ). slice_get (joined cs) i) (sym from.index) ∙ c.take_out-x.ensures.value in
    put ∙ sym (moved_is c.args.from c.args.to (joined cs) c.take_out-x.result here) ∙ ap (λ (xs : List g.row.T.Denot). moved c.args.from c.args.to xs) c.self.view_is
