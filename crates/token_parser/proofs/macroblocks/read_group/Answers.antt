use Rattle.std.proofs.Common.{◌≡◌, ◌+◌, ◌-◌, ℕ, arith}
use Rattle.token_parser.specs.Groups.{IsOfGroup}
use Rattle.token_parser.proofs.BlockSteps.{first_blocks-more}
use Rattle.token_parser.proofs.Fresh.{zero_next}
use Rattle.token_parser.proofs.GroupLemmas.{group_first, group_place, is_inside}
use Rattle.token_parser.proofs.macroblocks.read_group.Goals as goal

pub loop-index-init : goal.loop-index-init
loop-index-init c = λ has_y2 k is before r none start.
    let none_done : k + (c.args.group.start - c.args.group.start) ≡ k = omega arith in
    rw (none_done, c.copied-reader.ensures) start

pub read_block-requires : goal.read_block-requires
read_block-requires c = is_inside _ _ c.loop-index.index c.requires.kind c.requires.first (omega (arith, c.loop-index-test.true, c.requires.end.1))

pub loop-index-preserved : goal.loop-index-preserved
loop-index-preserved c = λ has_y2 k is before r none start.
    let index : ℕ = c.loop-index.index in
    let done : ℕ = index - c.args.group.start in
    let here : c.args.group.start + done ≡ index = omega (arith, c.loop-index.auto.index) in
    let next : k + (index + 1 - c.args.group.start) ≡ k + done + 1 = omega (arith, c.loop-index.auto.index) in
    let so_far = c.loop-index.invariant has_y2 k is before r none start in
    let there : IsOfGroup has_y2 c.args.group (k + done) (c.args.group.start + done) = is done (omega (arith, c.loop-index.auto.index, c.loop-index-test.true)) in
    let is_here : IsOfGroup has_y2 c.args.group (k + done) index = rw here at there in
    let place = group_place has_y2 c.args.group (k + done) index is_here in
    rw next (first_blocks-more (k + done) _ has_y2 _ before _ _ r _ _ so_far is_here.is_read place (c.read_block.ensures has_y2 (group_first has_y2 c.args.group (k + done) index is_here) (λ clears. zero_next (k + done) _ has_y2 c.args.clears before _ r _ _ (none clears) so_far is_here.below place)))

pub returns : goal.returns
returns c = λ has_y2 k is before r none start.
    let all : c.loop-index.index ≡ c.args.group.end = omega (arith, c.loop-index-test.false, c.loop-index.auto, c.requires.end.0) in
    rw all at c.loop-index.invariant has_y2 k is before r none start
