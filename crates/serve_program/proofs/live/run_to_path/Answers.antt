use Rattle.std.proofs.Common.{Some, map, subst}
use Rattle.std.specs.Io.Buffered.{writer_buffer}
use Rattle.std.specs.Rc.{rc_slice_items}
use Rattle.frame_session.specs.declared.live.LiveFault.TheVariants.{Write}
use Rattle.serve_program.specs.Outs.{IsMadeAt}
use Rattle.serve_program.proofs.Finished.{ended, live_gained}
use Rattle.serve_program.proofs.live.run_to_path.Goals as goal

pub returns-clause-replied : goal.returns-clause-replied
returns-clause-replied g c =
    let contents = g.R.Made.Write.contents in
    let is_made = g.R.NamedFiles.is_made_at c.args.rt.now in
    let frames = c.in-Ok-Some.frames in
    let flushed = c.end_frames.new.frames in
    let made : IsMadeAt contents is_made c.args.path.now (Some frames) = subst (λ found. IsMadeAt contents is_made c.args.path.now found) c.in-Ok-Some.field-0-is c.in-Ok-Some.ensures.made in
    ended Write c.run_live_over-answered.result c.end_frames.result _ _ _ _
    (λ session means buffer kept. live_gained contents is_made c.args.path.now c.args.over.settings.tables (map rc_slice_items c.args.over.sources.now) (g.P.Write.contents c.args.replies.now) _ session.state
    frames.inner.inner flushed.inner.inner made.0 made.1 (writer_buffer frames) (writer_buffer flushed) _ made.2 kept buffer _ _ means)
    c.end_frames.ensures.result c.run_live_over-answered.ensures.means c.end_frames.ensures.flushed c.end_frames.ensures.kept
