use Rattle.frame_session.proofs.Kept.{refused_kept}
use Rattle.frame_session.proofs.laws.refused_lines_change_nothing.Goals as goal

pub returns : goal.returns
returns c = refused_kept
