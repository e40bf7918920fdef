use Rattle.std.proofs.Common.{refl, arith}
use Rattle.std.proofs.lemmas.Fmt.{decimal_digit}
use Rattle.script_nodes.proofs.laws.worked_texts.Goals as goal

pub returns-clause-none : goal.returns-clause-none
returns-clause-none c = refl

pub returns-clause-two : goal.returns-clause-two
returns-clause-two c = rw (decimal_digit 0 (omega arith)) (rw (decimal_digit 1 (omega arith)) (rw (decimal_digit 3 (omega arith)) (rw (decimal_digit 7 (omega arith)) refl)))
