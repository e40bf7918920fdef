use Rattle.edit_history.proofs.Ready.{exchange_may, exchange_there, put_may}
use Rattle.edit_history.proofs.change.make.Goals as goal

pub put_back-requires-clause-may : goal.put_back-requires-clause-may
put_back-requires-clause-may c =
    put_may c.args.change c.in-Put.at c.len-place.result c.in-Put.entry c.args.store.now c.in-Put.is c.requires c.prove_few.ensures.own_ids c.len-place.ensures.value

pub exchange-entry-requires-clause-place : goal.exchange-entry-requires-clause-place
exchange-entry-requires-clause-place c = exchange_there c.args.change c.in-Exchange.at c.in-Exchange.entry c.in-Exchange.cuts c.args.store.now c.in-Exchange.is c.requires

pub exchange-entry-requires-clause-may : goal.exchange-entry-requires-clause-may
exchange-entry-requires-clause-may c =
    exchange_may c.args.change c.in-Exchange.at c.in-Exchange.entry c.in-Exchange.cuts c.args.store.now c.in-Exchange.is c.requires c.prove_few.ensures.own_ids
