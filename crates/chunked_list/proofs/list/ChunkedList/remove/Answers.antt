use Rattle.std.proofs.Common.{◌≡◌, ℕ, List, ◌+◌, ◌-◌, ◌/◌, ◌%◌, ◌<◌, ◌≤◌, Some, max, length, get_or, slice_get, slice_set, refl, ap, sym, ◌∙◌, subst, arith, rules}
use Rattle.std.specs.List.{remove}
use Rattle.std.proofs.lemmas.List.Edits.{length-remove}
use Rattle.chunked_list.specs.Chunks.{AreFull, before, joined, sizes}
use Rattle.chunked_list.proofs.Sizes.{as_many}
use Rattle.chunked_list.proofs.Stored.{IsAt, full_set, stored_at}
use Rattle.chunked_list.proofs.list.ChunkedList.remove.Goals as goal

pub take_out-x-requires-clause-full : goal.take_out-x-requires-clause-full
take_out-x-requires-clause-full g c = λ k less.
    let cs = c.drop_empty.new.chunks.items in
    let many : length (sizes cs) ≡ length cs = as_many cs in
    c.drop_empty.ensures.full.full k (search (rules, arith))

pub take_out-x-requires-clause-order : goal.take_out-x-requires-clause-order
take_out-x-requires-clause-order g c =
    let cs = c.drop_empty.new.chunks.items in
    let within : c.args.at < length (joined cs) = subst (λ (xs : List g.row.T.Denot). c.args.at < length xs) (sym (c.drop_empty.ensures.items ∙ c.self.view_is)) c.requires in
    let found : IsAt c.args.at (c.args.at / 1024) (c.args.at % 1024) cs = stored_at c.args.at (c.args.at / 1024) (c.args.at % 1024) cs c.drop_empty.ensures.full within refl refl in
    let chunk : c.args.at / 1024 < length cs = found.chunk in
    let count : length cs ≡ c.drop_empty.new.chunks.len = search rules in
    let same : c.len-last.result ≡ c.drop_empty.new.chunks.len = search rules in
    (omega (arith, chunk, count, same), omega (arith, chunk, count, same))

pub take_out-x-requires-clause-within : goal.take_out-x-requires-clause-within
take_out-x-requires-clause-within g c =
    let cs = c.drop_empty.new.chunks.items in
    let within : c.args.at < length (joined cs) = subst (λ (xs : List g.row.T.Denot). c.args.at < length xs) (sym (c.drop_empty.ensures.items ∙ c.self.view_is)) c.requires in
    let found : IsAt c.args.at (c.args.at / 1024) (c.args.at % 1024) cs = stored_at c.args.at (c.args.at / 1024) (c.args.at % 1024) cs c.drop_empty.ensures.full within refl refl in
    found.place

pub invariant_of-self : goal.invariant_of-self
invariant_of-self g c =
    let cs = c.drop_empty.new.chunks.items in
    let last = c.len-last.result - 1 in
    let within : c.args.at < length (joined cs) = subst (λ (xs : List g.row.T.Denot). c.args.at < length xs) (sym (c.drop_empty.ensures.items ∙ c.self.view_is)) c.requires in
    let found : IsAt c.args.at (c.args.at / 1024) (c.args.at % 1024) cs = stored_at c.args.at (c.args.at / 1024) (c.args.at % 1024) cs c.drop_empty.ensures.full within refl refl in
    let chunk : c.args.at / 1024 < length cs = found.chunk in
    let count : length cs ≡ c.drop_empty.new.chunks.len = search rules in
    let same : c.len-last.result ≡ c.drop_empty.new.chunks.len = search rules in
    let many : length (sizes cs) ≡ length cs = as_many cs in
    let few : get_or (sizes cs) last 0 ≤ 1024 = c.drop_empty.ensures.full.last last (omega (arith, chunk, count, same, many)) in
    let long : c.self.inside.len ≡ length (joined cs) = c.self.invariant.counted ∙ sym (ap length c.drop_empty.ensures.items) in
    let fewer : length (remove (joined cs) c.args.at) + 1 ≡ length (joined cs) = length-remove (joined cs) c.args.at within in
    let left : length (joined c.take_out-x.new.chunks.items) ≡ length (remove (joined cs) c.args.at) = ap length (c.take_out-x.ensures.items ∙ ap (λ (i : ℕ). remove (joined cs) i) found.index) in
    record {
      counted = omega (arith, long, fewer, left);
      full = subst (AreFull 1024) (sym c.take_out-x.ensures.sizes) (full_set 1024 last (get_or (sizes cs) last 0 - 1) (sizes cs) c.drop_empty.ensures.full (omega (arith, chunk, count, same, many)) (omega (arith, few)));
    }

pub returns-clause-value : goal.returns-clause-value
returns-clause-value g c =
    let cs = c.drop_empty.new.chunks.items in
    let within : c.args.at < length (joined cs) = subst (λ (xs : List g.row.T.Denot). c.args.at < length xs) (sym (c.drop_empty.ensures.items ∙ c.self.view_is)) c.requires in
    let found : IsAt c.args.at (c.args.at / 1024) (c.args.at % 1024) cs = stored_at c.args.at (c.args.at / 1024) (c.args.at % 1024) cs c.drop_empty.ensures.full within refl refl in
    ap (λ (xs : List g.row.T.Denot). slice_get xs c.args.at) (sym (c.drop_empty.ensures.items ∙ c.self.view_is)) ∙ ap (λ (i : ℕ). slice_get (joined cs) i) (sym found.index) ∙ c.take_out-x.ensures.value

pub returns-clause-items : goal.returns-clause-items
returns-clause-items g c =
    let cs = c.drop_empty.new.chunks.items in
    let within : c.args.at < length (joined cs) = subst (λ (xs : List g.row.T.Denot). c.args.at < length xs) (sym (c.drop_empty.ensures.items ∙ c.self.view_is)) c.requires in
    let found : IsAt c.args.at (c.args.at / 1024) (c.args.at % 1024) cs = stored_at c.args.at (c.args.at / 1024) (c.args.at % 1024) cs c.drop_empty.ensures.full within refl refl in
    c.take_out-x.ensures.items ∙ ap (λ (i : ℕ). remove (joined cs) i) found.index ∙ ap (λ (xs : List g.row.T.Denot). remove xs c.args.at) (c.drop_empty.ensures.items ∙ c.self.view_is)
