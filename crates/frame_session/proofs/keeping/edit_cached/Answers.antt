use Rattle.std.proofs.Common.{◌≡◌, ℕ, List, Ok, Option, ap, subst, sym, ◌∙◌}
use Rattle.packet_edits.specs.Marks.{StoreValue}
use Rattle.packet_edits.specs.Laws.{HasOwnIds}
use Rattle.frame_session.specs.Cached.{CacheWithout, IsSound, leaving, store_at}
use Rattle.state_cache.specs.EditLaws.{IsMarked}
use Rattle.frame_session.proofs.Sound.{answered_sound}
use Rattle.frame_session.proofs.Stores.{found}
use Rattle.frame_session.proofs.keeping.edit_cached.Goals as goal

pub returns-clause-sound : goal.returns-clause-sound
returns-clause-sound c =
    let tables = c.args.tables.now in
    let stores = c.args.stores.now in
    let here = found stores c.args.current c.index-stores-current.result c.requires.current in
    let here-2 = found stores c.args.current c.index-stores-current-2.result c.requires.current in
    let left : c.leaving-left.result ≡ leaving c.args.edit (store_at stores c.args.current).list = c.leaving-left.ensures ∙ ap (λ (s : StoreValue). leaving c.args.edit s.list) here-2 in
    let without : CacheWithout c.args.current (leaving c.args.edit (store_at stores c.args.current).list) c.args.cache.now c.drop_left.new.cache = subst (λ (o : Option ℕ). CacheWithout c.args.current o c.args.cache.now c.drop_left.new.cache) left c.drop_left.ensures.without in
    subst (λ (made : List StoreValue). IsSound tables made c.drop_left.new.cache) (sym c.in_ok-count.ensures.after)
    (answered_sound tables c.drops_keep_coherence.ensures c.edits_keep_coherence.ensures c.edits_keep_ids.ensures c.next_id_is_not_cached.ensures c.args.current c.args.edit stores c.args.cache.now c.drop_left.new.cache (Ok c.in_ok-count.count) c.requires.current
    (subst (λ (s : StoreValue). IsMarked s) here c.prove_few.ensures.marks) (subst (λ (s : StoreValue). HasOwnIds s.list) here c.prove_few.ensures.own_ids) c.in_ok-count.ensures.returned c.requires.sound without c.drop_left.ensures.bounded)
