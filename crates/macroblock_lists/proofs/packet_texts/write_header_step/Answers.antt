use Rattle.std.proofs.lemmas.Result.{err_from_is_err_and}
use Rattle.macroblock_lists.proofs.Fronts.{front-whole}
use Rattle.macroblock_lists.proofs.packet_texts.write_header_step.Goals as goal

pub returns-in_err-modes-clause-early : goal.returns-in_err-modes-clause-early
returns-in_err-modes-clause-early g c =
    let p = err_from_is_err_and c.from_residual-in_err-modes.result c.from_residual-in_err-modes.ensures.1 in
    rw (p.1, p.2) (front-whole _ _ _ c.in_ok-header.ensures.written)
