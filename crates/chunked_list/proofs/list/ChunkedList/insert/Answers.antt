use Rattle.std.proofs.Common.{◌≡◌, ℕ, List, ◌+◌, ◌-◌, ◌/◌, ◌%◌, ◌<◌, ◌≤◌, Some, max, length, get_or, slice_get, slice_set, refl, ap, sym, ◌∙◌, subst, arith, rules}
use Rattle.std.specs.List.{insert}
use Rattle.std.proofs.lemmas.List.Edits.{length-insert}
use Rattle.chunked_list.specs.Chunks.{AreFull, before, joined, sizes}
use Rattle.chunked_list.proofs.Sizes.{as_many}
use Rattle.chunked_list.proofs.Stored.{HasPlace, full_set, place_for}
use Rattle.chunked_list.proofs.list.ChunkedList.insert.Goals as goal

pub put_in-requires-clause-full : goal.put_in-requires-clause-full
put_in-requires-clause-full g c = λ k less.
    let cs = c.make_room.new.chunks.items in
    let many : length (sizes cs) ≡ length cs = as_many cs in
    c.make_room.ensures.full.full k (search (rules, arith))

pub put_in-requires-clause-order : goal.put_in-requires-clause-order
put_in-requires-clause-order g c =
    let cs = c.make_room.new.chunks.items in
    let last = c.len-last.result - 1 in
    let end : last + 1 ≡ length cs = search (rules, arith) in
    let count : length cs ≡ c.make_room.new.chunks.len = search rules in
    let same : c.len-last.result ≡ c.make_room.new.chunks.len = search rules in
    let below : get_or (sizes cs) last 0 < 1024 = subst (λ (n : ℕ). get_or (sizes cs) (n - 1) 0 < 1024) (sym same) c.in_ok-make_room.ensures.below in
    let within : c.args.at ≤ length (joined cs) = subst (λ (xs : List g.row.T.Denot). c.args.at ≤ length xs) (sym (c.make_room.ensures.items ∙ c.self.view_is)) c.requires in
    let found : HasPlace c.args.at (c.args.at / 1024) (c.args.at % 1024) last cs = place_for c.args.at (c.args.at / 1024) (c.args.at % 1024) last cs c.make_room.ensures.full end below within refl refl in
    (found.order, omega (arith, end, count))

pub put_in-requires-clause-within : goal.put_in-requires-clause-within
put_in-requires-clause-within g c =
    let cs = c.make_room.new.chunks.items in
    let last = c.len-last.result - 1 in
    let end : last + 1 ≡ length cs = search (rules, arith) in
    let same : c.len-last.result ≡ c.make_room.new.chunks.len = search rules in
    let below : get_or (sizes cs) last 0 < 1024 = subst (λ (n : ℕ). get_or (sizes cs) (n - 1) 0 < 1024) (sym same) c.in_ok-make_room.ensures.below in
    let within : c.args.at ≤ length (joined cs) = subst (λ (xs : List g.row.T.Denot). c.args.at ≤ length xs) (sym (c.make_room.ensures.items ∙ c.self.view_is)) c.requires in
    let found : HasPlace c.args.at (c.args.at / 1024) (c.args.at % 1024) last cs = place_for c.args.at (c.args.at / 1024) (c.args.at % 1024) last cs c.make_room.ensures.full end below within refl refl in
    found.within

pub invariant_of-self-2 : goal.invariant_of-self-2
invariant_of-self-2 g c =
    let cs = c.make_room.new.chunks.items in
    let last = c.len-last.result - 1 in
    let end : last + 1 ≡ length cs = search (rules, arith) in
    let same : c.len-last.result ≡ c.make_room.new.chunks.len = search rules in
    let below : get_or (sizes cs) last 0 < 1024 = subst (λ (n : ℕ). get_or (sizes cs) (n - 1) 0 < 1024) (sym same) c.in_ok-make_room.ensures.below in
    let within : c.args.at ≤ length (joined cs) = subst (λ (xs : List g.row.T.Denot). c.args.at ≤ length xs) (sym (c.make_room.ensures.items ∙ c.self.view_is)) c.requires in
    let found : HasPlace c.args.at (c.args.at / 1024) (c.args.at % 1024) last cs = place_for c.args.at (c.args.at / 1024) (c.args.at % 1024) last cs c.make_room.ensures.full end below within refl refl in
    let many : length (sizes cs) ≡ length cs = as_many cs in
    record {
      counted = ap (λ n. n + 1) (c.self.invariant.counted ∙ sym (ap length c.make_room.ensures.items)) ∙ sym (length-insert (joined cs) c.args.at c.args.x within)
          ∙ sym (ap length (c.put_in.ensures.items ∙ ap (λ (i : ℕ). insert (joined cs) i c.args.x) found.index));
      full = subst (AreFull 1024) (sym c.put_in.ensures.sizes) (full_set 1024 last (get_or (sizes cs) last 0 + 1) (sizes cs) c.make_room.ensures.full (omega (arith, end, many)) (omega (arith, below)));
    }

pub returns : goal.returns
returns g c =
    let cs = c.make_room.new.chunks.items in
    let last = c.len-last.result - 1 in
    let end : last + 1 ≡ length cs = search (rules, arith) in
    let same : c.len-last.result ≡ c.make_room.new.chunks.len = search rules in
    let below : get_or (sizes cs) last 0 < 1024 = subst (λ (n : ℕ). get_or (sizes cs) (n - 1) 0 < 1024) (sym same) c.in_ok-make_room.ensures.below in
    let within : c.args.at ≤ length (joined cs) = subst (λ (xs : List g.row.T.Denot). c.args.at ≤ length xs) (sym (c.make_room.ensures.items ∙ c.self.view_is)) c.requires in
    let found : HasPlace c.args.at (c.args.at / 1024) (c.args.at % 1024) last cs = place_for c.args.at (c.args.at / 1024) (c.args.at % 1024) last cs c.make_room.ensures.full end below within refl refl in
    c.put_in.ensures.items ∙ ap (λ (i : ℕ). insert (joined cs) i c.args.x) found.index ∙ ap (λ (xs : List g.row.T.Denot). insert xs c.args.at c.args.x) (c.make_room.ensures.items ∙ c.self.view_is)
