use Rattle.std.proofs.Common.{◌≡◌, ◌++◌, ℕ, List, drop, length, take, rules, arith, ap, subst, sym, ◌∙◌}
use Rattle.packet_edits.specs.Marks.{StoreValue}
use Rattle.frame_session.specs.Cached.{IsSound, SessionValue, lists_of, stores_after}
use Rattle.frame_session.specs.Sessions.{SessionState, now_after_edit}
use Rattle.frame_session.proofs.Stores.{edit_leaves, take_front}
use Rattle.frame_session.proofs.session.Session.edit.Goals as goal

pub returns-clause-after : goal.returns-clause-after
returns-clause-after c =
    let s = c.self.inside in
    let old : SessionState = record { tables = s.tables; head = s.head; frame_rate = s.frame_rate; lists = lists_of s.stores.items; current = s.current; script = s.script; spare = s.spare; size = s.size; decoded = s.cache.decoded } in
    let rest = drop (length c.edit_cached-edited.new.stores) s.stores.items in
    let made : List StoreValue = take s.stores.len (c.edit_cached-edited.new.stores ++ rest) in
    ap (λ (d : ℕ). record old { lists = lists_of made; decoded = d }) c.edit_cached-edited.ensures.steps
    ∙ edit_leaves old s.stores.items made c.args.edit c.edit_cached-edited.result (take_front c.edit_cached-edited.new.stores rest s.stores.len (search rules) ∙ c.edit_cached-edited.ensures.after ∙ ap (λ (stores : List StoreValue). stores_after s.tables s.current c.args.edit stores c.edit_cached-edited.result) c.deref_mut.ensures.value)
    ∙ ap (λ (v : SessionValue). now_after_edit c.args.edit v.state c.edit_cached-edited.result) c.self.view_is

pub returns-clause-stores : goal.returns-clause-stores
returns-clause-stores c =
    take_front c.edit_cached-edited.new.stores (drop (length c.edit_cached-edited.new.stores) c.self.inside.stores.items) c.self.inside.stores.len (search rules) ∙ c.edit_cached-edited.ensures.after
    ∙ ap (λ (stores : List StoreValue). stores_after c.self.inside.tables c.self.inside.current c.args.edit stores c.edit_cached-edited.result) c.deref_mut.ensures.value
    ∙ ap (λ (v : SessionValue). stores_after v.state.tables v.state.current c.args.edit v.stores c.edit_cached-edited.result) c.self.view_is

pub invariant_of-self : goal.invariant_of-self
invariant_of-self c =
    let s = c.self.inside in
    let edited : List StoreValue = c.edit_cached-edited.new.stores in
    let rest = drop (length edited) s.stores.items in
    let made : List StoreValue = take s.stores.len (edited ++ rest) in
    let same : made ≡ edited = take_front edited rest s.stores.len (search rules) in
    let long : length made ≡ length s.stores.items = ap length same ∙ c.edit_cached-edited.ensures.length ∙ ap length c.deref_mut.ensures.value in
    record {
      session = record {
        sound = subst (λ (stores : List StoreValue). IsSound s.tables stores c.edit_cached-edited.new.cache) (sym same) c.edit_cached-edited.ensures.sound;
        few = omega (arith, long, c.self.invariant.session.few);
        current_exists = omega (arith, long, c.self.invariant.session.current_exists);
      };
      kept = c.new.ensures _ _;
    }
