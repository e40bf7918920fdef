use Rattle.std.proofs.Common.{◌≡◌, ◌≢◌, codes, map, refl, rules}
use Rattle.std.specs.Rc.{rc_slice_items}
use Rattle.serve_program.specs.Endings.{run_files}
use Rattle.serve_program.proofs.LiveEnded.{requests_refused}
use Rattle.serve_program.proofs.live.run_requests.Goals as goal

pub returns-in-Err-clause-refused : goal.returns-in-Err-clause-refused
returns-in-Err-clause-refused g c =
    let i = g.I.Read.remaining c.args.input.now in
    let r = g.P.Write.contents c.args.replies.now in
    let r' = g.P.Write.contents c.run_over.new.replies in
    let run = run_files (g.R.NamedFiles.bytes_at c.args.rt.now) (g.R.PlacedFiles.place_at c.args.rt.now) g.R.Made.Write.contents (g.R.NamedFiles.is_made_at c.args.rt.now) (g.R.SavedFiles.is_saved_at c.args.rt.now) in
    let unnamed : c.args.line.now.words.requests.now ≡ codes "-" = search rules in
    requests_refused run c.args.line.now c.args.over.settings.tables (map rc_slice_items c.args.over.sources.now) c.args.line.now.words.requests i i r r' refl (λ is. refl, λ named. absurd (named unnamed)) c.in-Err.fault c.live_fault.result c.live_fault.ensures c.in-Err.ensures.fault

pub returns-clause-refused : goal.returns-clause-refused
returns-clause-refused g c =
    let i = g.I.Read.remaining c.args.input.now in
    let given = g.R.Opened.Read.remaining c.in-Ok-open_named.file in
    let r = g.P.Write.contents c.args.replies.now in
    let r' = g.P.Write.contents c.run_over-2.new.replies in
    let run = run_files (g.R.NamedFiles.bytes_at c.args.rt.now) (g.R.PlacedFiles.place_at c.args.rt.now) g.R.Made.Write.contents (g.R.NamedFiles.is_made_at c.args.rt.now) (g.R.SavedFiles.is_saved_at c.args.rt.now) in
    let named : c.args.line.now.words.requests.now ≢ codes "-" = search rules in
    requests_refused run c.args.line.now c.args.over.settings.tables (map rc_slice_items c.args.over.sources.now) c.args.line.now.words.requests i given r r' refl (λ is. absurd (named is), λ other. c.in-Ok-open_named.ensures.whole) c.in-Err-run_over.fault c.live_fault-in-Err-run_over.result c.live_fault-in-Err-run_over.ensures c.in-Err-run_over.ensures.fault
