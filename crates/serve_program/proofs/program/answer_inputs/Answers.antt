use Rattle.std.proofs.Common.{◌≡◌, ap, length, map, arith, rules}
use Rattle.std.proofs.lemmas.List.{length-map}
use Rattle.std.proofs.lemmas.Slice.Zip.{AllZip-long}
use Rattle.std.specs.Rc.{rc_slice_items}
use Rattle.stream_files.specs.declared.ivf.TheConstants.{EMPTY}
use Rattle.serve_arguments.specs.CommandLines.{source_names}
use Rattle.serve_arguments.specs.Readings.{IsNamed, contents_of}
use Rattle.serve_program.specs.Endings.{run_files}
use Rattle.serve_program.proofs.Ended.{finish_ended_over, returned, run_ended_over}
use Rattle.serve_program.proofs.program.answer_inputs.Goals as goal

pub run_to_path-requires-clause-sources : goal.run_to_path-requires-clause-sources
run_to_path-requires-clause-sources g c =
    let long = AllZip-long (IsNamed (contents_of (g.R.NamedFiles.bytes_at c.args.rt.now) EMPTY)) (source_names c.args.line.now) (map (λ bytes. bytes.items) c.args.inputs.files.sources.items) c.requires.read.sources_are in
    let sources : map rc_slice_items c.as_slice.result.now ≡ map (λ bytes. bytes.items) c.args.inputs.files.sources.items = search rules in
    omega (arith, long, ap length sources, length-map c.as_slice.result.now rc_slice_items, length-map c.args.inputs.files.sources.items (λ bytes. bytes.items), length-map c.args.line.now.more.items (λ path. path.now), c.requires.paths)

pub returns-in_err-session-clause-ended : goal.returns-in_err-session-clause-ended
returns-in_err-session-clause-ended g c =
    let r = g.O.Write.contents c.args.output.now in
    let r' = g.O.Write.contents c.run_to_path.new.replies in
    let run = run_files (g.R.NamedFiles.bytes_at c.args.rt.now) (g.R.PlacedFiles.place_at c.args.rt.now) g.R.Made.Write.contents (g.R.NamedFiles.is_made_at c.args.rt.now) (g.R.SavedFiles.is_saved_at c.args.rt.now) in
    let sources : map rc_slice_items c.as_slice.result.now ≡ map (λ bytes. bytes.items) c.args.inputs.files.sources.items = search rules in
    let requests : c.as_slice-2.result.now ≡ c.args.inputs.requests.items = search rules in
    returned c.from_residual-in_err-session.result _ c.in_err-session.field-0.0 c.from_residual-in_err-session.ensures.1
    (λ left left' are. run_ended_over run c.args.line.now left left' r r' c.args.inputs.files.tables c.settings_with-settings.result.tables (map (λ bytes. bytes.items) c.args.inputs.files.sources.items) (map rc_slice_items c.as_slice.result.now) c.args.inputs.requests.items c.as_slice-2.result.now c.in_err-session.field-0.0 c.settings_with-settings.ensures.tables sources requests c.requires.read are c.in_err-session.ensures.refused)

pub returns-in_err-session-2-clause-ended : goal.returns-in_err-session-2-clause-ended
returns-in_err-session-2-clause-ended g c =
    let r = g.O.Write.contents c.args.output.now in
    let r' = g.O.Write.contents c.run_to_path.new.replies in
    let run = run_files (g.R.NamedFiles.bytes_at c.args.rt.now) (g.R.PlacedFiles.place_at c.args.rt.now) g.R.Made.Write.contents (g.R.NamedFiles.is_made_at c.args.rt.now) (g.R.SavedFiles.is_saved_at c.args.rt.now) in
    let sources : map rc_slice_items c.as_slice.result.now ≡ map (λ bytes. bytes.items) c.args.inputs.files.sources.items = search rules in
    let requests : c.as_slice-2.result.now ≡ c.args.inputs.requests.items = search rules in
    returned c.from_residual-in_err-session-2.result _ c.in_err-session-2.field-0.0 c.from_residual-in_err-session-2.ensures.1
    (λ left left' are. finish_ended_over run c.args.line.now left left' r r' c.args.inputs.files.tables c.settings_with-settings.result.tables (map (λ bytes. bytes.items) c.args.inputs.files.sources.items) (map rc_slice_items c.as_slice.result.now) c.args.inputs.requests.items c.as_slice-2.result.now c.in_err-session-2.field-0.0 c.settings_with-settings.ensures.tables sources requests c.requires.read are c.in_ok-session.session.state c.in_ok-session.ensures.replied c.in_err-session-2.ensures.fault)
