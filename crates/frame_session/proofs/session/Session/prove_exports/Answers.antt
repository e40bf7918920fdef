use Rattle.std.proofs.Common.{subst}
use Rattle.lossless_cuts.specs.Laws.{ExportsShowTheirFrames}
use Rattle.frame_session.specs.Cached.{SessionValue}
use Rattle.frame_session.proofs.session.Session.prove_exports.Goals as goal

pub returns : goal.returns
returns c = subst (λ (v : SessionValue). ExportsShowTheirFrames v.state.tables) c.self.view_is c.exports_show_their_frames.ensures
