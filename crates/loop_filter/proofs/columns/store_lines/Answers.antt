use Rattle.loop_filter.proofs.Loaded.{four_pairs}
use Rattle.loop_filter.proofs.columns.store_lines.Goals as goal

pub returns : goal.returns
returns c = four_pairs c.args.samples.now c.args.rows.0 c.args.rows.1 c.args.rows.2 c.args.rows.3 c.args.start c.args.stride _ _ _ _ c.store_pair.ensures c.store_pair-2.ensures c.store_pair-3.ensures c.store_pair-4.ensures
