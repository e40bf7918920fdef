use Rattle.std.proofs.Common.{ℕ, List, ap, sym, ◌∙◌}
use Rattle.std.specs.Prelude.{slice_index}
use Rattle.std.proofs.lemmas.List.{get_or-replicate}
use Rattle.intra_predict.proofs.InPlace.{above_outside, above_inside}
use Rattle.intra_predict.proofs.in_place.row_above.Goals as goal
use Rattle.intra_predict.proofs.in_place.row_above.Goals.{then-corner-eq0, else-corner-eq0}

pub returns-clause-samples : goal.returns-clause-samples
returns-clause-samples g c = λ column inside.
    elim c.if-corner-eq0.branch [
      | then-corner-eq0 w ↦ ap (λ (l : List ℕ). slice_index l column) w.result-is ∙ get_or-replicate g.row.N column 127 0 inside ∙ sym (above_outside c.args.samples.now c.args.corner g.row.N column w.if-corner-eq0.true)
      | else-corner-eq0 w ↦ ap (λ (l : List ℕ). slice_index l column) w.result-is ∙ w.load.ensures.samples column inside ∙ sym (above_inside c.args.samples.now c.args.corner g.row.N column w.if-corner-eq0.false inside)
    ]
