use Rattle.std.proofs.Common.{◌≡◌, ◌∙◌, replicate, refl}
use Rattle.mode_parser.specs.Candidates.{near_by}
use Rattle.mode_parser.specs.InterRecords.{vectors_by}
use Rattle.mode_parser.specs.RecordList.{neighbour_of}
use Rattle.mode_parser.proofs.InterTrees.{referenced_mode-appended, referenced_mode-split}
use Rattle.mode_parser.proofs.inter_modes.push_referenced_mode.Goals as goal
use Rattle.mode_parser.proofs.inter_modes.push_referenced_mode.Goals.{in-Zero, in-Nearest, in-Near, in-New}

pub returns : goal.returns
unfolding vectors_by
returns c =
    let vectors : vectors_by c.read_vector_mode-mode.result (near_by c.args.place c.candidates_beside-found.result) c.args.header.now.context.probabilities.vectors (neighbour_of c.record_above-above.result) (neighbour_of c.record_left-left.result) c.read_vector_mode-mode.new.reader ≡ (replicate 16 c.match-mode.vector, c.match-mode.reader) = elim c.match-mode.branch [ in-Zero w ↦ rw (w.in-Zero.is, w.reader-is, w.vector-is) refl | in-Nearest w ↦ rw (w.in-Nearest.is, w.reader-is, w.vector-is, w.nearest-vector.ensures) refl | in-Near w ↦ rw (w.in-Near.is, w.reader-is, w.vector-is, w.near-vector.ensures) refl | in-New w ↦ rw (w.in-New.is, w.reader-is, w.vector-is, w.plus-vector.ensures, w.best.ensures.value, w.read_vector.ensures.value) refl ] in
    let told = referenced_mode-appended c.args.start.is_skipped c.args.header.now c.args.start.segment c.args.place _ _ _ c.args.records.now _ _ _ _ _ _ _ _ c.read_reference-reference.ensures (c.candidates_beside-found.ensures.value c.args.place) c.read_vector_mode-mode.ensures vectors in
    rw c.in_ok-push_moved.ensures (rw (c.record_above-above.ensures.value, c.record_left-left.ensures.value, c.record_above_left-above_left.ensures.value) at told)

pub returns-in-Split : goal.returns-in-Split
returns-in-Split c =
    let told = referenced_mode-split c.args.header.now c.args.start c.args.place _ _ _ c.args.records.now _ _ _ _ _ _ c.read_reference-reference.ensures (c.candidates_beside-found.ensures.value c.args.place) c.read_vector_mode-mode.ensures c.in-Split.is in
    let placed = rw (c.record_above-above.ensures.value, c.record_left-left.ensures.value, c.record_above_left-above_left.ensures.value) at told in
    placed ∙ rw (c.best-best.ensures.value, c.copied-local.ensures) at c.in_ok-push_split_mode-in-Split.ensures
