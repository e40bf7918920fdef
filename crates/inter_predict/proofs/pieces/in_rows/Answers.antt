use Rattle.std.proofs.Common.{◌≡◌, inl, inr, ◌+◌, ◌*◌, ℤ, pos, ap, ◌∙◌, to_z, of_z, w64, arith}
use Rattle.std.proofs.lemmas.Bool.{cases_lt}
use Rattle.inter_predict.specs.InterSample.{predicted}
use Rattle.inter_predict.proofs.FarPieces.{begun, in_row, none_beside, further_within, same_within}
use Rattle.inter_predict.proofs.StripRows.{earlier_row}
use Rattle.inter_predict.proofs.pieces.in_rows.Goals as goal

pub loop-row-preserved : goal.loop-row-preserved
loop-row-preserved c =
    let p = c.args.source.plane.now.shown in
    let x : ℤ = to_z w64 (of_z w64 c.args.source.x) in
    let y : ℤ = c.args.source.y in
    let from = begun c.args.source.y c.offset.result c.loop-row.row c.height.result p.height c.requires.near.1 c.height.ensures.whole.3 c.height.ensures.value c.offset.ensures in
    λ column row inside less.
    elim (cases_lt row c.loop-row.row) [
      | inl earlier ↦ c.row_in_pieces.ensures.before (row * c.args.width + column) (omega (arith, earlier_row c.args.width row c.loop-row.row earlier)) ∙ c.loop-row.invariant column row inside earlier
      | inr upto ↦
          let same : row ≡ c.loop-row.row = omega arith in
          rw same (c.row_in_pieces.ensures.each column inside ∙ in_row c.args.source.kind p x y _ c.args.source.right c.args.source.below column c.loop-row.row c.requires.eighths.0 c.requires.eighths.1 c.requires.near.1 from ∙ ap (λ (z : ℤ). predicted c.args.source.kind p z y (pos c.args.source.right) (pos c.args.source.below) column c.loop-row.row) (same_within c.args.source.x (further_within c.args.source.x c.requires.near.0)))
    ]

pub returns : goal.returns
returns c =
    record {
      whole = c.loop-row.auto.out;
      each = λ column row inside below. c.loop-row.invariant column row inside (omega arith);
      others = λ column row inside beside.
          elim beside [
            | inl following ↦ absurd (omega arith)
            | inr under ↦ none_beside c.args.width c.args.height column row c.args.out.now c.loop-row.out c.loop-row.auto.out c.requires.out under
          ];
    }
