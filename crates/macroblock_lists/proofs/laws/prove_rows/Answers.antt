use Rattle.std.proofs.Common.{◌≡◌, ℕ, zero, suc, List, [], length, get_or, sym, subst, arith}
use Rattle.std.proofs.lemmas.List.{get_or_past}
use Rattle.bool_coder.specs.Chains.{AreProbabilities}
use Rattle.mode_parser.specs.Chains.{AreRows}
use Rattle.macroblock_lists.proofs.laws.prove_rows.Goals as goal

none : AreProbabilities []
none k = omega arith

two_rows : (rows : List (List ℕ)) → length rows ≡ 2 → AreProbabilities (get_or rows 0 []) → AreProbabilities (get_or rows 1 []) → AreRows rows
two_rows rows two first second zero = first
two_rows rows two first second (suc zero) = second
two_rows rows two first second (suc (suc row)) = subst AreProbabilities (sym (get_or_past rows (suc (suc row)) [] (omega arith))) none

pub returns : goal.returns
returns c = two_rows c.args.rows.now c.told-rows c.prove_bytes.ensures c.prove_bytes-2.ensures
