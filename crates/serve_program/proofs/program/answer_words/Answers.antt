use Rattle.std.proofs.Common.{◌≡◌, false, rules}
use Rattle.std.specs.Io.Buffered.{writer_contents}
use Rattle.serve_program.specs.Endings.{run_files}
use Rattle.serve_program.specs.Done.{IsRunFault}
use Rattle.serve_program.proofs.Ended.{returned}
use Rattle.serve_program.proofs.Finished.{done, given_up, unflushed_replies}
use Rattle.serve_program.proofs.program.answer_words.Goals as goal

pub returns-clause-done : goal.returns-clause-done
returns-clause-done g c =
    let o = writer_contents g.O.Write.contents in
    let run = run_files (g.R.NamedFiles.bytes_at c.args.rt.now) (g.R.PlacedFiles.place_at c.args.rt.now) g.R.Made.Write.contents (g.R.NamedFiles.is_made_at c.args.rt.now) (g.R.SavedFiles.is_saved_at c.args.rt.now) in
    let served = c.in_ok-served.served in
    let fresh : c.args.messages.now.has_refused ≡ false = search rules in
    done run c.in_ok-line.line served.session.state (g.I.Read.remaining c.args.input.now) (o c.args.output.now) (o c.answer_accepted.new.output) (o c.flush_buffer.new.output) c.flush_buffer.ensures.kept c.args.words c.args.messages.now.has_refused served.has_refused fresh c.in_ok-line.ensures.accepted c.in_ok-check_places.ensures.separate c.in_ok-served.ensures.served c.in_ok-served.ensures.noted

pub returns-in_err-served-clause-fault : goal.returns-in_err-served-clause-fault
returns-in_err-served-clause-fault g c =
    let o = writer_contents g.O.Write.contents in
    let i = g.I.Read.remaining in
    let run = run_files (g.R.NamedFiles.bytes_at c.args.rt.now) (g.R.PlacedFiles.place_at c.args.rt.now) g.R.Made.Write.contents (g.R.NamedFiles.is_made_at c.args.rt.now) (g.R.SavedFiles.is_saved_at c.args.rt.now) in
    let fault = c.in_err-served.field-0.0 in
    returned c.from_residual-in_err-served.result (IsRunFault run c.args.words (i c.args.input.now) (i c.answer_accepted.new.input) (o c.args.output.now) (o c.answer_accepted.new.output)) fault c.from_residual-in_err-served.ensures.1
    (given_up run c.args.words (i c.args.input.now) (o c.args.output.now) c.in_ok-line.line (i c.answer_accepted.new.input) (o c.answer_accepted.new.output) fault c.in_ok-line.ensures.accepted c.in_ok-check_places.ensures.separate c.in_err-served.ensures.ended)

pub returns-in_err-flush_buffer-clause-fault : goal.returns-in_err-flush_buffer-clause-fault
returns-in_err-flush_buffer-clause-fault g c =
    let o = writer_contents g.O.Write.contents in
    let i = g.I.Read.remaining in
    let run = run_files (g.R.NamedFiles.bytes_at c.args.rt.now) (g.R.PlacedFiles.place_at c.args.rt.now) g.R.Made.Write.contents (g.R.NamedFiles.is_made_at c.args.rt.now) (g.R.SavedFiles.is_saved_at c.args.rt.now) in
    let fault = c.in_err-flush_buffer.field-0.0 in
    let served = c.in_ok-served.served in
    returned c.from_residual-in_err-flush_buffer.result (IsRunFault run c.args.words (i c.args.input.now) (i c.answer_accepted.new.input) (o c.args.output.now) (o c.flush_buffer.new.output)) fault c.from_residual-in_err-flush_buffer.ensures.1
    (unflushed_replies run c.in_ok-line.line served.session.state (i c.args.input.now) (i c.answer_accepted.new.input) (o c.args.output.now) (o c.answer_accepted.new.output) (o c.flush_buffer.new.output) c.flush_buffer.ensures.kept c.args.words fault c.in_err-flush_buffer.ensures.fault c.in_ok-line.ensures.accepted c.in_ok-check_places.ensures.separate c.in_ok-served.ensures.served)
