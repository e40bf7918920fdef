use Rattle.std.proofs.Common.{◌≤◌, ◌+◌, slice_index_or, refl, arith, w8, pos, SFits, rules}
use Rattle.std.proofs.lemmas.Int.{to_z-of_z}
use Rattle.std.specs.Int.{from_bool}
use Rattle.bool_coder.proofs.Literals.{from_bool-le_one}
use Rattle.bool_coder.proofs.Leaves.{Tree, tree_of, stands-start, stands-end, stands-moved}
use Rattle.bool_coder.proofs.decoder.Decoder.tree.Goals as goal

pub loop-node-init : goal.loop-node-init
loop-node-init c = stands-start _ _ _ c.requires

pub bounds-probs-node : goal.bounds-probs-node
bounds-probs-node c =
    let facts : Tree c.args.tree.now c.args.probs.now = tree_of _ _ c.requires in
    omega (arith, c.loop-node.invariant.node.inside)

pub overflow_add-entry : goal.overflow_add-entry
overflow_add-entry c =
    let small : from_bool c.bit-bit.result ≤ 1 = from_bool-le_one c.bit-bit.result in
    omega (arith, c.loop-node.invariant.node.even)

pub bounds-tree-node : goal.bounds-tree-node
bounds-tree-node c =
    let small : from_bool c.bit-bit.result ≤ 1 = from_bool-le_one c.bit-bit.result in
    omega (arith, c.loop-node.invariant.node.inside)

pub returns-then-entry-le0 : goal.returns-then-entry-le0
returns-then-entry-le0 c =
    let fits : SFits w8 (slice_index_or c.args.tree.now (c.loop-node.node + from_bool c.bit-bit.result) (pos 0)) = search rules in
    let plain = to_z-of_z w8 _ fits in
    rw (c.unsigned_abs.ensures.value, plain) (stands-end _ _ _ _ _ _ _ c.loop-node.invariant c.bit-bit.ensures (rw plain at c.if-entry-le0.true))

pub loop-node-smaller : goal.loop-node-smaller
loop-node-smaller c =
    let fits : SFits w8 (slice_index_or c.args.tree.now (c.loop-node.node + from_bool c.bit-bit.result) (pos 0)) = search rules in
    let plain = to_z-of_z w8 _ fits in
    let moved = stands-moved _ _ _ _ _ _ _ _ c.requires c.loop-node.invariant c.bit-bit.ensures (rw plain at c.if-entry-le0.false) refl in
    rw plain (omega (arith, moved.later, c.loop-node.invariant.node.inside))

pub loop-node-preserved : goal.loop-node-preserved
loop-node-preserved c =
    let fits : SFits w8 (slice_index_or c.args.tree.now (c.loop-node.node + from_bool c.bit-bit.result) (pos 0)) = search rules in
    let plain = to_z-of_z w8 _ fits in
    rw plain (stands-moved _ _ _ _ _ _ _ _ c.requires c.loop-node.invariant c.bit-bit.ensures (rw plain at c.if-entry-le0.false) refl).stands
