use Rattle.std.proofs.Common.{map, refl}
use Rattle.std.proofs.KnownBytes.{Keeps-refl}
use Rattle.std.proofs.lemmas.Result.{IfErr-weaker}
use Rattle.serve_arguments.specs.Statuses.{file_fault}
use Rattle.serve_program.specs.Endings.{AreReplied, AreStopped, run_files}
use Rattle.serve_program.proofs.Ended.{both_ok, returned, unread_ended}
use Rattle.serve_program.proofs.Finished.{served}
use Rattle.serve_program.proofs.program.answer.Goals as goal

pub returns-clause-served : goal.returns-clause-served
returns-clause-served g c =
    let i = g.I.Read.remaining c.args.input.now in
    let o = g.O.Write.contents in
    let run = run_files (g.R.NamedFiles.bytes_at c.args.rt.now) (g.R.PlacedFiles.place_at c.args.rt.now) g.R.Made.Write.contents (g.R.NamedFiles.is_made_at c.args.rt.now) (g.R.SavedFiles.is_saved_at c.args.rt.now) in
    both_ok c.answer_inputs.result _ _ _ (λ done replied cached. served run c.args.line.now i (o c.args.output.now) (o c.answer_inputs.new.output) c.in_ok-inputs.inputs.files.tables (map (λ bytes. bytes.items) c.in_ok-inputs.inputs.files.sources.items) replied.0 done.session.state c.in_ok-inputs.ensures.read (c.in_ok-inputs.inputs.requests.items, c.in_ok-inputs.ensures.requests, replied.1) replied.2) c.answer_inputs.ensures.replied c.answer_inputs.ensures.capacity

pub returns-in_err-inputs-clause-ended : goal.returns-in_err-inputs-clause-ended
returns-in_err-inputs-clause-ended g c =
    let i = g.I.Read.remaining in
    let o = g.O.Write.contents c.args.output.now in
    let run = run_files (g.R.NamedFiles.bytes_at c.args.rt.now) (g.R.PlacedFiles.place_at c.args.rt.now) g.R.Made.Write.contents (g.R.NamedFiles.is_made_at c.args.rt.now) (g.R.SavedFiles.is_saved_at c.args.rt.now) in
    let line = c.args.line.now in
    returned c.from_residual.result _ (file_fault c.in_err-inputs.field-0.0) c.from_residual.ensures.1
    (unread_ended run line (i c.args.input.now) (i c.read_inputs.new.input) o o (AreStopped run line (i c.args.input.now) o o) (AreReplied run line (i c.args.input.now) o o) c.in_err-inputs.field-0.0 refl (Keeps-refl o) c.in_err-inputs.ensures.fault)

pub returns-clause-noted : goal.returns-clause-noted
returns-clause-noted g c =
    let inputs = c.in_ok-inputs.inputs in
    both_ok c.answer_inputs.result _ _ _ (λ done noted cached. (inputs.files.tables, map (λ bytes. bytes.items) inputs.files.sources.items, c.in_ok-inputs.ensures.read, record { lines = inputs.requests.items; are = c.in_ok-inputs.ensures.requests; noted = noted })) c.answer_inputs.ensures.noted c.answer_inputs.ensures.capacity

pub returns-clause-ended : goal.returns-clause-ended
returns-clause-ended g c =
    let i = g.I.Read.remaining in
    IfErr-weaker c.answer_inputs.result _ _ (λ fault why. why (i c.args.input.now) (i c.read_inputs.new.input) c.in_ok-inputs.ensures.requests) c.answer_inputs.ensures.ended
