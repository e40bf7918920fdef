use Rattle.std.proofs.Common.{ℕ, List, [], None, map, ap, ◌∙◌}
use Rattle.packet_edits.specs.Edits.{Listing}
use Rattle.packet_edits.specs.Marks.{StoreValue}
use Rattle.stream_files.specs.declared.streams.FrameRate.{FrameRate}
use Rattle.stream_files.specs.declared.streams.Head.{Head}
use Rattle.state_cache.specs.Reaching.{CacheValue}
use Rattle.script_nodes.specs.declared.nodes.Node.{Node}
use Rattle.frame_session.specs.Cached.{SessionValue, lists_of, store_of_file}
use Rattle.frame_session.specs.Sessions.{head_of_first, list_of_file, rate_of_first, spare_of}
use Rattle.frame_session.proofs.Sound.{begun_session}
use Rattle.frame_session.proofs.Stores.{begun_lists}
use Rattle.frame_session.proofs.session.Session.within.Goals as goal

pub invariant_of-result : goal.invariant_of-result
invariant_of-result c = record {
  session = begun_session c.args.tables c.args.files.items c.in_ok-stores.stores.items c.in-Ok.cache c.in_ok-stores.ensures c.requires.sources (ap (λ (cache : CacheValue). cache.entries) c.in-Ok.ensures);
  kept = c.new-2.ensures c.args.tables _;
}

pub returns : goal.returns
returns c =
    let made : List StoreValue → List Listing → Head → FrameRate → ℕ → List Node → CacheValue → SessionValue = λ stores lists head rate spare script cache. record {
      state = record { tables = c.args.tables; head = head; frame_rate = rate; lists = lists; current = 0; script = script; spare = spare; size = None; decoded = cache.decoded };
      stores = stores;
      cache = cache;
    } in
    ap (λ (stores : List StoreValue). made stores (lists_of stores) c.head_of_first-head.result c.rate_of_first-frame_rate.result c.spare_of-spare.result c.empty.result c.in-Ok.cache) c.in_ok-stores.ensures
    ∙ ap (λ (lists : List Listing). made (map store_of_file c.args.files.items) lists c.head_of_first-head.result c.rate_of_first-frame_rate.result c.spare_of-spare.result c.empty.result c.in-Ok.cache) (begun_lists c.args.files.items)
    ∙ ap (λ (head : Head). made (map store_of_file c.args.files.items) (map list_of_file c.args.files.items) head c.rate_of_first-frame_rate.result c.spare_of-spare.result c.empty.result c.in-Ok.cache) (c.head_of_first-head.ensures ∙ ap head_of_first c.deref.ensures.value)
    ∙ ap (λ (rate : FrameRate). made (map store_of_file c.args.files.items) (map list_of_file c.args.files.items) (head_of_first c.args.files.items) rate c.spare_of-spare.result c.empty.result c.in-Ok.cache) (c.rate_of_first-frame_rate.ensures ∙ ap rate_of_first c.deref-2.ensures.value)
    ∙ ap (λ (spare : ℕ). made (map store_of_file c.args.files.items) (map list_of_file c.args.files.items) (head_of_first c.args.files.items) (rate_of_first c.args.files.items) spare c.empty.result c.in-Ok.cache) (c.spare_of-spare.ensures ∙ ap spare_of c.deref-3.ensures.value)
    ∙ ap (λ (script : List Node). made (map store_of_file c.args.files.items) (map list_of_file c.args.files.items) (head_of_first c.args.files.items) (rate_of_first c.args.files.items) (spare_of c.args.files.items) script c.in-Ok.cache) c.empty.ensures
    ∙ ap (λ (cache : CacheValue). made (map store_of_file c.args.files.items) (map list_of_file c.args.files.items) (head_of_first c.args.files.items) (rate_of_first c.args.files.items) (spare_of c.args.files.items) [] cache) c.in-Ok.ensures
