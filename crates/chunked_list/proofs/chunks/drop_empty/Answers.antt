use Rattle.std.proofs.Common.{◌≡◌, ℕ, List, ◌+◌, ◌-◌, ◌<◌, length, get_or, take, sym, ap, ◌∙◌, subst, arith, rules}
use Rattle.std.specs.declared.collections.VecDeque.{VecDeque}
use Rattle.chunked_list.specs.Chunks.{AreFull, joined, sizes}
use Rattle.chunked_list.proofs.Joined.{empty_last}
use Rattle.chunked_list.proofs.Sizes.{as_many, full_taken, last_taken, sizes_take}
use Rattle.chunked_list.proofs.chunks.drop_empty.Goals as goal

pub returns-then-is_empty-clause-items : goal.returns-then-is_empty-clause-items
returns-then-is_empty-clause-items g c =
    let cs = c.args.chunks.now.items in
    let k = c.len-count.result - 1 in
    let last : c.args.chunks.now.len - 1 ≡ k = search (rules, arith) in
    let all : k + 1 ≡ length cs = search (rules, arith) in
    let none : c.index.result.now.len ≡ 0 = search (rules, arith) in
    ap joined c.pop.ensures.rest ∙ ap (λ (i : ℕ). joined (take i cs)) last ∙ empty_last k cs c.index.result.now all c.index.ensures none

pub returns-then-is_empty-clause-full : goal.returns-then-is_empty-clause-full
returns-then-is_empty-clause-full g c =
    let cs = c.args.chunks.now.items in
    let k = c.args.chunks.now.len - 1 in
    let within : k < length cs = search (rules, arith) in
    let many : length (sizes cs) ≡ length cs = as_many cs in
    subst (AreFull 1024) (sym (ap sizes c.pop.ensures.rest ∙ sizes_take k cs)) (full_taken 1024 k (sizes cs) c.requires (omega (arith, within, many)))

pub returns-then-is_empty-clause-filled : goal.returns-then-is_empty-clause-filled
returns-then-is_empty-clause-filled g c = λ filled.
    let cs = c.args.chunks.now.items in
    let k = c.args.chunks.now.len - 1 in
    let new = c.pop.new.self.items in
    let within : k < length cs = search (rules, arith) in
    let many : length (sizes cs) ≡ length cs = as_many cs in
    let are : sizes new ≡ take k (sizes cs) = ap sizes c.pop.ensures.rest ∙ sizes_take k cs in
    let count : c.pop.new.self.len ≡ length new = search rules in
    let long : c.pop.new.self.len ≡ length (take k (sizes cs)) = count ∙ sym (as_many new) ∙ ap length are in
    let rest : 0 < get_or (take k (sizes cs)) (length (take k (sizes cs)) - 1) 0 = last_taken 1024 k (sizes cs) (omega arith) c.requires (omega (arith, within, many)) (omega (arith, long, filled)) in
    let same : get_or (sizes new) (c.pop.new.self.len - 1) 0 ≡ get_or (take k (sizes cs)) (length (take k (sizes cs)) - 1) 0 =
    ap (λ (i : ℕ). get_or (sizes new) (i - 1) 0) long ∙ ap (λ (ns : List ℕ). get_or ns (length (take k (sizes cs)) - 1) 0) are in
    omega (arith, rest, same)
