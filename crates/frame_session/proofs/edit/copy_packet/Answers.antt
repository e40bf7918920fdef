use Rattle.std.proofs.Common.{◌≡◌, ◌<◌, ◌++◌, ℕ, List, is_ok, length, slice_index_or, slice_set, ap, sym, ◌∙◌, arith}
use Rattle.packet_edits.specs.Marks.{StoreValue}
use Rattle.frame_session.specs.Cached.{store_at}
use Rattle.frame_session.proofs.Stores.{copied_here, found_back, found_front, set_back, set_front}
use Rattle.frame_session.proofs.edit.copy_packet.Goals as goal

pub returns-then-source-current-2-clause-after : goal.returns-then-source-current-2-clause-after
returns-then-source-current-2-clause-after c =
    let stores = c.args.stores.now in
    let front = c.split_at_mut-front.result.0.now in
    let back = c.split_at_mut-front.result.1.now in
    let made = c.copy_from.new.self in
    let own : slice_index_or back 0 c.index-back-0.result ≡ store_at stores c.args.current = found_back stores front back c.args.current c.index-back-0.result c.split_at_mut-front.ensures.value c.split_at_mut-front.ensures.front_len c.requires.current in
    let source : slice_index_or front c.args.source c.index-front-source.result ≡ store_at stores c.args.source = found_front stores front back c.args.source c.index-front-source.result c.split_at_mut-front.ensures.value (omega (arith, c.split_at_mut-front.ensures.front_len, c.if-source-current-2.true)) c.requires.source in
    set_back front back made ∙ ap (λ (k : ℕ). slice_set (front ++ back) k made) c.split_at_mut-front.ensures.front_len ∙ ap (λ (l : List StoreValue). slice_set l c.args.current made) (sym c.split_at_mut-front.ensures.value)
    ∙ copied_here (is_ok c.copy_from.result) stores c.args.current c.args.source c.args.at c.args.from (slice_index_or front c.args.source c.index-front-source.result) (slice_index_or back 0 c.index-back-0.result) made source own c.copy_from.ensures.after c.copy_from.ensures.marks

pub returns-clause-after : goal.returns-clause-after
returns-clause-after c =
    let stores = c.args.stores.now in
    let front = c.split_at_mut-front-2.result.0.now in
    let back = c.split_at_mut-front-2.result.1.now in
    let made = c.copy_from-2.new.self in
    let inside : c.args.current < length front = omega (arith, c.split_at_mut-front-2.ensures.front_len, c.if-source-current.false, c.if-source-current-2.false) in
    let own : slice_index_or front c.args.current c.index-front-current.result ≡ store_at stores c.args.current = found_front stores front back c.args.current c.index-front-current.result c.split_at_mut-front-2.ensures.value inside c.requires.current in
    let source : slice_index_or back 0 c.index-back-0-2.result ≡ store_at stores c.args.source = found_back stores front back c.args.source c.index-back-0-2.result c.split_at_mut-front-2.ensures.value c.split_at_mut-front-2.ensures.front_len c.requires.source in
    set_front front back c.args.current made inside ∙ ap (λ (l : List StoreValue). slice_set l c.args.current made) (sym c.split_at_mut-front-2.ensures.value)
    ∙ copied_here (is_ok c.copy_from-2.result) stores c.args.current c.args.source c.args.at c.args.from (slice_index_or back 0 c.index-back-0-2.result) (slice_index_or front c.args.current c.index-front-current.result) made source own c.copy_from-2.ensures.after c.copy_from-2.ensures.marks
