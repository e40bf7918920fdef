use Rattle.std.proofs.Common.{rules}
use Rattle.serve_arguments.proofs.inputs.read_inputs.Goals as goal

pub returns-in_err-files-clause-fault : goal.returns-in_err-files-clause-fault
returns-in_err-files-clause-fault g c =
    let why = c.in_err-files.ensures.fault (g.I.Read.remaining c.args.input.now) in
    search rules
