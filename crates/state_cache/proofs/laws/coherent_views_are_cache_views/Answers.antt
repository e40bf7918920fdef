use Rattle.state_cache.proofs.KeptView.{coherent_is_kept_view}
use Rattle.state_cache.proofs.laws.coherent_views_are_cache_views.Goals as goal

pub returns : goal.returns
returns c = coherent_is_kept_view
