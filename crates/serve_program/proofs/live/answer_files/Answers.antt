use Rattle.std.proofs.Common.{◌≡◌, inl, ℕ, List, map, rules, subst}
use Rattle.std.specs.Rc.{rc_slice_items}
use Rattle.vp8_tables.specs.Tables.{TableEntries}
use Rattle.serve_program.specs.Endings.{IsLiveRefused, run_files}
use Rattle.serve_program.proofs.Ended.{returned}
use Rattle.serve_program.proofs.LiveEnded.{live_unfinished}
use Rattle.serve_program.proofs.live.answer_files.Goals as goal

pub returns-clause-refused : goal.returns-clause-refused
returns-clause-refused g c =
    let i = g.I.Read.remaining c.args.input.now in
    let r = g.O.Write.contents c.args.output.now in
    let r' = g.O.Write.contents c.run_requests-answered.new.replies in
    let run = run_files (g.R.NamedFiles.bytes_at c.args.rt.now) (g.R.PlacedFiles.place_at c.args.rt.now) g.R.Made.Write.contents (g.R.NamedFiles.is_made_at c.args.rt.now) (g.R.SavedFiles.is_saved_at c.args.rt.now) in
    let line = c.args.line.now in
    let sources : map rc_slice_items c.as_slice.result.now ≡ map (λ bytes. bytes.items) c.args.files.sources.items = search rules in
    inl (subst (λ (s : List (List ℕ)). IsLiveRefused run line c.args.files.tables s i r r' c.in-Err.fault) sources
    (subst (λ (t : TableEntries). IsLiveRefused run line t (map rc_slice_items c.as_slice.result.now) i r r' c.in-Err.fault) c.settings_with-settings.ensures.tables c.in-Err.ensures.refused))

pub returns-in_err-session-in-Ok-clause-refused : goal.returns-in_err-session-in-Ok-clause-refused
returns-in_err-session-in-Ok-clause-refused g c =
    let i = g.I.Read.remaining c.args.input.now in
    let r = g.O.Write.contents c.args.output.now in
    let r' = g.O.Write.contents c.run_requests-answered.new.replies in
    let run = run_files (g.R.NamedFiles.bytes_at c.args.rt.now) (g.R.PlacedFiles.place_at c.args.rt.now) g.R.Made.Write.contents (g.R.NamedFiles.is_made_at c.args.rt.now) (g.R.SavedFiles.is_saved_at c.args.rt.now) in
    let sources : map rc_slice_items c.as_slice.result.now ≡ map (λ bytes. bytes.items) c.args.files.sources.items = search rules in
    returned c.from_residual-in_err-session-in-Ok.result _ c.in_err-session-in-Ok.field-0.0 c.from_residual-in_err-session-in-Ok.ensures.1
    (live_unfinished run c.args.line.now i r r' c.args.files.tables c.settings_with-settings.result.tables (map (λ bytes. bytes.items) c.args.files.sources.items) (map rc_slice_items c.as_slice.result.now) c.in-Ok.session.state c.in_err-session-in-Ok.field-0.0 c.settings_with-settings.ensures.tables sources c.in-Ok.ensures.replied c.in_err-session-in-Ok.ensures.fault)
