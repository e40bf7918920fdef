use Rattle.std.specs.Prelude.{slice_index}
use Rattle.std.proofs.Common.{◌≡◌, inl, inr, ℕ, ◌+◌, ◌-◌, ◌*◌, ◌<◌, ℤ, pos, ap, sym, ◌∙◌, to_z, of_z, w64, arith}
use Rattle.std.proofs.lemmas.Bool.{cases_lt}
use Rattle.std.proofs.lemmas.Int.{ints}
use Rattle.inter_predict.specs.InterSample.{predicted}
use Rattle.inter_predict.proofs.FarPieces.{begun, in_piece, same_within}
use Rattle.inter_predict.proofs.pieces.row_in_pieces.Goals as goal

pub loop-number-preserved : goal.loop-number-preserved
loop-number-preserved c =
    let p = c.args.source.plane.now.shown in
    let x : ℤ = c.args.source.x in
    let y : ℤ = to_z w64 (of_z w64 c.args.source.y) in
    let first : ℕ = 16 * c.loop-number.number in
    let from = begun c.args.source.x c.offset.result first c.width.result p.width c.requires.near.0 c.width.ensures.whole.1 c.width.ensures.value c.offset.ensures in
    record {
      before = λ place less. c.piece.ensures.before place (omega arith) ∙ c.loop-number.invariant.before place less;
      each = λ column less inside.
          elim (cases_lt column first) [
            | inl earlier ↦ c.piece.ensures.before (c.args.start + column) (omega arith) ∙ c.loop-number.invariant.each column earlier inside
            | inr later ↦
                let here : first + (column - first) ≡ column = omega arith in
                let there : c.args.start + first + (column - first) ≡ c.args.start + column = omega arith in
                let few : column - first < c.min-count.result = omega (arith, c.min-count.ensures) in
                ap (λ (i : ℕ). slice_index c.piece.new.out i) (sym there) ∙ c.piece.ensures.each (column - first) few
                ∙ in_piece c.args.source.kind p x y _ c.args.source.right c.args.source.below first (column - first) c.requires.eighths.0 c.requires.eighths.1 c.requires.near.0 from
                ∙ ap (λ (i : ℕ). predicted c.args.source.kind p x y (pos c.args.source.right) (pos c.args.source.below) i 0) here
                ∙ ap (λ (z : ℤ). predicted c.args.source.kind p x z (pos c.args.source.right) (pos c.args.source.below) column 0) (same_within c.args.source.y (omega (arith, ints, c.requires.near.1), omega (arith, ints, c.requires.near.1)))
          ];
    }
