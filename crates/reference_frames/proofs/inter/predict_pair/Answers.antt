use Rattle.std.proofs.Common.{◌≡◌, ◌+◌, ◌-◌, ◌*◌, length, ℕ, drop, pos, refl, arith, to_z, w32}
use Rattle.std.proofs.lemmas.Int.{to_z_pos}
use Rattle.std.proofs.lemmas.List.{length-take-le, length-drop}
use Rattle.inter_predict.specs.InterSample.{predicted}
use Rattle.reference_frames.proofs.Placed.{placed_at, moved}
use Rattle.reference_frames.proofs.Squares.{last_row_within}
use Rattle.reference_frames.proofs.inter.predict_pair.Goals as goal

pub pair_in-requires-clause-out : goal.pair_in-requires-clause-out
pair_in-requires-clause-out c =
    let start : ℕ = c.args.corner.across * c.args.corner.row + c.args.corner.column in
    let last = last_row_within c.args.corner.across 8 c.args.corner.column c.args.corner.row (length c.args.cb.now) (omega arith) c.requires.column c.requires.cb_room in
    let long = length-take-le (length c.args.cb.now - start) (drop start c.args.cb.now) (omega (arith, length-drop start c.args.cb.now)) in
    omega (arith, last, long)

pub pair_in-requires-clause-other : goal.pair_in-requires-clause-other
pair_in-requires-clause-other c =
    let start : ℕ = c.args.corner.across * c.args.corner.row + c.args.corner.column in
    let last = last_row_within c.args.corner.across 8 c.args.corner.column c.args.corner.row (length c.args.cr.now) (omega arith) c.requires.column c.requires.cr_room in
    let long = length-take-le (length c.args.cr.now - start) (drop start c.args.cr.now) (omega (arith, length-drop start c.args.cr.now)) in
    omega (arith, last, long)

pub returns-clause-cb : goal.returns-clause-cb
returns-clause-cb c =
    let right : to_z w32 c.args.corner.column ≡ pos c.args.corner.column = to_z_pos w32 _ (omega arith) in
    let down : to_z w32 c.args.corner.row ≡ pos c.args.corner.row = to_z_pos w32 _ (omega arith) in
    let is = rw (right, down) at c.pair_in.ensures.out in
    placed_at _ (predicted c.args.kind c.args.from.cb.now.shown (pos c.args.corner.column) (pos c.args.corner.row) c.args.vector.0 c.args.vector.1) c.args.corner.across 8 c.args.corner.column c.args.corner.row c.args.cb.now c.pair_in.new.out _ (omega arith) c.requires.column c.requires.cb_room
    (λ i j inside. moved c.args.kind c.args.from.cb.now.shown c.args.corner.column c.args.corner.row i j c.args.vector.0 c.args.vector.1 inside.0 inside.2) is refl

pub returns-clause-cr : goal.returns-clause-cr
returns-clause-cr c =
    let right : to_z w32 c.args.corner.column ≡ pos c.args.corner.column = to_z_pos w32 _ (omega arith) in
    let down : to_z w32 c.args.corner.row ≡ pos c.args.corner.row = to_z_pos w32 _ (omega arith) in
    let is = rw (right, down) at c.pair_in.ensures.other in
    placed_at _ (predicted c.args.kind c.args.from.cr.now.shown (pos c.args.corner.column) (pos c.args.corner.row) c.args.vector.0 c.args.vector.1) c.args.corner.across 8 c.args.corner.column c.args.corner.row c.args.cr.now c.pair_in.new.other _ (omega arith) c.requires.column c.requires.cr_room
    (λ i j inside. moved c.args.kind c.args.from.cr.now.shown c.args.corner.column c.args.corner.row i j c.args.vector.0 c.args.vector.1 inside.0 inside.2) is refl
