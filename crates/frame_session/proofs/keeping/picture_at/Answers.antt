use Rattle.std.proofs.Common.{ap, ◌∙◌}
use Rattle.packet_edits.specs.Marks.{StoreValue}
use Rattle.frame_session.proofs.Stores.{found, lists_stay}
use Rattle.frame_session.proofs.keeping.picture_at.Goals as goal

pub returns-in-Ok-clause-lists : goal.returns-in-Ok-clause-lists
returns-in-Ok-clause-lists c =
    lists_stay c.args.stores.now c.args.source c.reach.new.store (c.in-Ok.ensures.list ∙ ap (λ (s : StoreValue). s.list) (found c.args.stores.now c.args.source c.index-stores-source.result c.requires.source))

pub returns-in-Err-Refused-clause-lists : goal.returns-in-Err-Refused-clause-lists
returns-in-Err-Refused-clause-lists c =
    lists_stay c.args.stores.now c.args.source c.reach.new.store (c.in-Err-Refused.ensures.list ∙ ap (λ (s : StoreValue). s.list) (found c.args.stores.now c.args.source c.index-stores-source.result c.requires.source))

pub returns-in-Err-TooManyShares-clause-lists : goal.returns-in-Err-TooManyShares-clause-lists
returns-in-Err-TooManyShares-clause-lists c =
    lists_stay c.args.stores.now c.args.source c.reach.new.store (c.in-Err-TooManyShares.ensures.list ∙ ap (λ (s : StoreValue). s.list) (found c.args.stores.now c.args.source c.index-stores-source.result c.requires.source))

pub returns-in-Err-NoMemory-clause-lists : goal.returns-in-Err-NoMemory-clause-lists
returns-in-Err-NoMemory-clause-lists c =
    lists_stay c.args.stores.now c.args.source c.reach.new.store (c.in-Err-NoMemory.ensures.list ∙ ap (λ (s : StoreValue). s.list) (found c.args.stores.now c.args.source c.index-stores-source.result c.requires.source))
