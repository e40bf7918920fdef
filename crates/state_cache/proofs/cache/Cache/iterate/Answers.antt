use Rattle.std.proofs.Common.{◌≡◌, true, false, Ok, ap, subst, sym}
use Rattle.packet_edits.specs.Marks.{StoreValue}
use Rattle.state_cache.specs.Reaching.{Begins, CacheValue, view_of}
use Rattle.state_cache.specs.ProofsOnly.{IterationAnswers}
use Rattle.state_cache.specs.Views.{IsCoherent, View, is_usable, marked_packets}
use Rattle.state_cache.proofs.Reached.{turn_coherent, turn_fault, turn_usable}
use Rattle.state_cache.proofs.Shows.{id_shown}
use Rattle.state_cache.proofs.Turned.{turned_is}
use Rattle.state_cache.proofs.cache.Cache.iterate.Goals as goal

pub returns-in-Err-clause-step_result : goal.returns-in-Err-clause-step_result
returns-in-Err-clause-step_result c =
    turn_fault c.args.tables.now c.args.store.now.list c.args.store.now.marks (view_of c.args.source c.args.self.now) c.requires.coherent c.args.place c.in-Err.fault c.requires.begins c.in-Err.ensures.gives

pub returns-clause-coherent : goal.returns-clause-coherent
returns-clause-coherent c =
    let es = c.args.store.now.list.entries in
    let ms = c.args.store.now.marks in
    let xs = marked_packets c.args.store.now in
    let kept : View = view_of c.args.source c.stepped.new.self in
    let same : view_of c.args.source c.args.self.now ≡ kept = ap (view_of c.args.source) (sym c.stepped.ensures.counted) in
    let coherent = subst (λ (v : View). IsCoherent c.args.tables.now xs v) same c.requires.coherent in
    let begins = subst (λ (v : View). Begins xs v c.args.place) same c.requires.begins in
    let missing = subst (λ (v : View). is_usable xs v c.args.place ≡ false) same c.requires.missing in
    let stepped = subst (λ (v : View). IterationAnswers c.args.tables.now xs v c.args.place (Ok c.in-Ok.new)) same c.in-Ok.ensures.gives in
    subst (λ (s : StoreValue). IsCoherent c.args.tables.now (marked_packets s) (view_of c.args.source c.keep.new.self)) (sym c.pass_mark.ensures.marks)
    (turn_coherent c.args.tables.now es ms kept (view_of c.args.source c.keep.new.self) c.args.place c.id-id.result c.is_cut-is_cut.result c.in-Ok-keep.has_converged stepped.0 c.in-Ok.new stepped.1 c.prove_few.ensures.marks begins c.is_cut-is_cut.ensures
    (id_shown es ms c.args.place stepped.0 c.id-id.result stepped.1 c.id-id.ensures) c.args.store.now.list.next_id c.prove_few.ensures.own_ids coherent missing stepped.2 c.in-Ok-keep.ensures.converged c.in-Ok-keep.ensures.drops)

pub returns-clause-usable : goal.returns-clause-usable
returns-clause-usable c =
    let es = c.args.store.now.list.entries in
    let ms = c.args.store.now.marks in
    let xs = marked_packets c.args.store.now in
    let kept : View = view_of c.args.source c.stepped.new.self in
    let same : view_of c.args.source c.args.self.now ≡ kept = ap (view_of c.args.source) (sym c.stepped.ensures.counted) in
    let begins = subst (λ (v : View). Begins xs v c.args.place) same c.requires.begins in
    let stepped = c.in-Ok.ensures.gives in
    subst (λ (s : StoreValue). is_usable (marked_packets s) (view_of c.args.source c.keep.new.self) c.args.place ≡ true) (sym c.pass_mark.ensures.marks)
    (turn_usable c.args.tables.now es ms kept (view_of c.args.source c.keep.new.self) c.args.place c.id-id.result c.is_cut-is_cut.result c.in-Ok-keep.has_converged stepped.0 c.in-Ok.new stepped.1 c.prove_few.ensures.marks begins c.is_cut-is_cut.ensures
    (id_shown es ms c.args.place stepped.0 c.id-id.result stepped.1 c.id-id.ensures) c.in-Ok-keep.ensures.kept)

pub returns-clause-iterated : goal.returns-clause-iterated
returns-clause-iterated c =
    let es = c.args.store.now.list.entries in
    let ms = c.args.store.now.marks in
    let stepped = c.in-Ok.ensures.gives in
    turned_is c.args.source c.args.store.now c.pass_mark.new.store c.args.self.now c.stepped.new.self c.keep.new.self c.args.place c.id-id.result c.is_cut-is_cut.result c.in-Ok-keep.has_converged c.pass_mark.result stepped.0 c.in-Ok.new (ap (λ (v : CacheValue). v.entries) (sym c.stepped.ensures.counted)) (ap (λ (v : CacheValue). v.capacity) (sym c.stepped.ensures.counted))
    (id_shown es ms c.args.place stepped.0 c.id-id.result stepped.1 c.id-id.ensures) c.pass_mark.ensures.joined stepped.1 c.is_cut-is_cut.ensures c.pass_mark.ensures.marks c.in-Ok-keep.ensures.converged c.in-Ok-keep.ensures.converges_with_same c.in-Ok-keep.ensures.kept c.in-Ok-keep.ensures.drops c.in-Ok-keep.ensures.others c.in-Ok-keep.ensures.room
