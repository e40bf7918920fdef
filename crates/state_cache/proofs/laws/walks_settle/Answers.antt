use Rattle.state_cache.proofs.WalkSettled.{walks_settle}
use Rattle.state_cache.proofs.laws.walks_settle.Goals as goal

pub returns : goal.returns
returns c = walks_settle c.args.tables.now
