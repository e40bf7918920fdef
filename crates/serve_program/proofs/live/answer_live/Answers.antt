use Rattle.std.proofs.Common.{map, arith}
use Rattle.std.proofs.lemmas.List.{length-map}
use Rattle.std.proofs.lemmas.Result.{IfErr-weaker}
use Rattle.std.proofs.lemmas.Slice.Zip.{AllZip-long}
use Rattle.stream_files.specs.declared.ivf.TheConstants.{EMPTY}
use Rattle.serve_arguments.specs.CommandLines.{source_names}
use Rattle.serve_arguments.specs.Readings.{IsNamed, contents_of}
use Rattle.serve_arguments.specs.Statuses.{file_fault}
use Rattle.serve_program.specs.Endings.{IsLiveEnded, run_files}
use Rattle.serve_program.proofs.Ended.{both_ok, returned}
use Rattle.serve_program.proofs.Finished.{live_served}
use Rattle.serve_program.proofs.LiveEnded.{files_ended, live_ended}
use Rattle.serve_program.proofs.live.answer_live.Goals as goal

pub returns-in_err-files-clause-ended : goal.returns-in_err-files-clause-ended
returns-in_err-files-clause-ended g c =
    let run = run_files (g.R.NamedFiles.bytes_at c.args.rt.now) (g.R.PlacedFiles.place_at c.args.rt.now) g.R.Made.Write.contents (g.R.NamedFiles.is_made_at c.args.rt.now) (g.R.SavedFiles.is_saved_at c.args.rt.now) in
    let i = g.I.Read.remaining c.args.input.now in
    let o = g.O.Write.contents c.args.output.now in
    returned c.from_residual.result (IsLiveEnded run c.args.line.now i i o o) (file_fault c.in_err-files.field-0.0) c.from_residual.ensures.1 (files_ended run c.args.line.now i o c.in_err-files.field-0.0 c.in_err-files.ensures.fault)

pub answer_files-requires-clause-sources : goal.answer_files-requires-clause-sources
answer_files-requires-clause-sources g c =
    let long = AllZip-long (IsNamed (contents_of (g.R.NamedFiles.bytes_at c.args.rt.now) EMPTY)) (source_names c.args.line.now) (map (λ bytes. bytes.items) c.in_ok-files.files.sources.items) c.in_ok-files.ensures.read.sources_are in
    omega (arith, long, length-map c.in_ok-files.files.sources.items (λ bytes. bytes.items), length-map c.args.line.now.more.items (λ path. path.now), c.requires.paths)

pub returns-clause-ended : goal.returns-clause-ended
returns-clause-ended g c =
    let i = g.I.Read.remaining in
    let o = g.O.Write.contents in
    let run = run_files (g.R.NamedFiles.bytes_at c.args.rt.now) (g.R.PlacedFiles.place_at c.args.rt.now) g.R.Made.Write.contents (g.R.NamedFiles.is_made_at c.args.rt.now) (g.R.SavedFiles.is_saved_at c.args.rt.now) in
    IfErr-weaker c.answer_files.result _ _ (λ fault why. live_ended run c.args.line.now (i c.args.input.now) (i c.answer_files.new.input) (o c.args.output.now) (o c.answer_files.new.output) fault c.in_ok-files.files.tables (map (λ bytes. bytes.items) c.in_ok-files.files.sources.items) c.in_ok-files.ensures.read why) c.answer_files.ensures.refused

pub returns-clause-served : goal.returns-clause-served
returns-clause-served g c =
    let i = g.I.Read.remaining c.args.input.now in
    let o = g.O.Write.contents in
    let run = run_files (g.R.NamedFiles.bytes_at c.args.rt.now) (g.R.PlacedFiles.place_at c.args.rt.now) g.R.Made.Write.contents (g.R.NamedFiles.is_made_at c.args.rt.now) (g.R.SavedFiles.is_saved_at c.args.rt.now) in
    both_ok c.answer_files.result _ _ _ (λ done replied cached. live_served run c.args.line.now i (o c.args.output.now) (o c.answer_files.new.output) c.in_ok-files.files.tables (map (λ bytes. bytes.items) c.in_ok-files.files.sources.items) replied.0 done.session.state c.in_ok-files.ensures.read replied.1 replied.2) c.answer_files.ensures.replied c.answer_files.ensures.capacity
