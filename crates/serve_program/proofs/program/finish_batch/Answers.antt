use Rattle.std.proofs.Common.{◌⊎◌, inl}
use Rattle.serve_program.specs.Endings.{IsExportFault, IsSaveFault}
use Rattle.serve_program.proofs.Ended.{returned}
use Rattle.serve_program.proofs.program.finish_batch.Goals as goal

pub returns-in_err-saves-clause-fault : goal.returns-in_err-saves-clause-fault
returns-in_err-saves-clause-fault g c =
    returned c.from_residual-in_err-saves.result (λ fault. IsSaveFault fault ⊎ IsExportFault c.args.session.state fault) c.in_err-saves.field-0.0 c.from_residual-in_err-saves.ensures.1 (inl c.in_err-saves.ensures.fault)
