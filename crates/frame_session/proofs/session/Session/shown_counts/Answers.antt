use Rattle.std.proofs.Common.{ap, ◌∙◌}
use Rattle.frame_session.specs.Cached.{SessionValue, shown_counts_of}
use Rattle.frame_session.specs.Sessions.{shown_counts}
use Rattle.frame_session.proofs.Stores.{counts_same}
use Rattle.frame_session.proofs.session.Session.shown_counts.Goals as goal

pub returns-clause-value : goal.returns-clause-value
returns-clause-value c = c.shown_counts.ensures.value ∙ ap shown_counts_of c.deref.ensures.value ∙ counts_same c.self.inside.stores.items ∙ ap (λ (v : SessionValue). shown_counts v.state) c.self.view_is
