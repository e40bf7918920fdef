use Rattle.std.proofs.Common.{◌∙◌, ◌<◌, ℕ, List, ap, arith, length, map, slice_get, sym}
use Rattle.state_cache.specs.Evictions.{SavingsValue, last_use}
use Rattle.state_cache.proofs.LastUses.{use_of_other, use_set, use_there}
use Rattle.state_cache.proofs.savings.Savings.swap_remove.Goals as goal

pub returns-then-index-last-clause-moved : goal.returns-then-index-last-clause-moved
returns-then-index-last-clause-moved c =
    let moved = ap (λ (v : SavingsValue). map last_use v.list) c.put.ensures in
    let alone = ap (λ (v : SavingsValue). map last_use v.list) c.put-2.ensures in
    let linked = c.set_previous.ensures.uses ∙ c.set_next.ensures.uses ∙ alone in
    let len = c.unlink.ensures.len in
    λ apart low last_low.
    let here : c.args.index < length c.unlink.new.self.list = omega (arith, len, low) in
    let there : c.args.last < length c.unlink.new.self.list = omega (arith, len, last_low) in
    ap (λ (us : List ℕ). slice_get us c.args.index) linked
    ∙ use_of_other c.put.new.self.list c.args.last c.args.index _ apart
    ∙ ap (λ (us : List ℕ). slice_get us c.args.index) moved
    ∙ use_set c.unlink.new.self.list c.args.index c.saving_at-moved.result here
    ∙ sym (use_there c.unlink.new.self.list c.args.last c.saving_at-moved.result there c.saving_at-moved.ensures)
    ∙ ap (λ (us : List ℕ). slice_get us c.args.last) c.unlink.ensures.uses

pub returns-then-index-last-clause-others : goal.returns-then-index-last-clause-others
returns-then-index-last-clause-others c =
    let moved = ap (λ (v : SavingsValue). map last_use v.list) c.put.ensures in
    let alone = ap (λ (v : SavingsValue). map last_use v.list) c.put-2.ensures in
    let linked = c.set_previous.ensures.uses ∙ c.set_next.ensures.uses ∙ alone in
    λ n apart apart_last.
    ap (λ (us : List ℕ). slice_get us n) linked
    ∙ use_of_other c.put.new.self.list c.args.last n _ apart_last
    ∙ ap (λ (us : List ℕ). slice_get us n) moved
    ∙ use_of_other c.unlink.new.self.list c.args.index n c.saving_at-moved.result apart
    ∙ ap (λ (us : List ℕ). slice_get us n) c.unlink.ensures.uses

pub returns-else-index-last-clause-others : goal.returns-else-index-last-clause-others
returns-else-index-last-clause-others c =
    let moved = ap (λ (v : SavingsValue). map last_use v.list) c.put.ensures in
    let alone = ap (λ (v : SavingsValue). map last_use v.list) c.put-2.ensures in
    λ n apart apart_last.
    ap (λ (us : List ℕ). slice_get us n) alone
    ∙ use_of_other c.put.new.self.list c.args.last n _ apart_last
    ∙ ap (λ (us : List ℕ). slice_get us n) moved
    ∙ use_of_other c.unlink.new.self.list c.args.index n c.saving_at-moved.result apart
    ∙ ap (λ (us : List ℕ). slice_get us n) c.unlink.ensures.uses
