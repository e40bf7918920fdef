use Rattle.std.proofs.Common.{◌≡◌, ◌*◌, ◌≤◌, sum_by, take}
use Rattle.macroblock_lists.specs.Coefficients.{count_in}
use Rattle.macroblock_lists.proofs.coefficients.count_of.Given as goal

abbrev pub invariant-loop-block : goal.invariant-loop-block
invariant-loop-block l = record {
  value : l.count ≡ sum_by count_in (take l.block-index l.blocks);
  few : l.count ≤ 16 * l.block-index;
}
