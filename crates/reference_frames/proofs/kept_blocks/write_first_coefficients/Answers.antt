use Rattle.std.specs.Prelude.{slice_index_or}
use Rattle.std.proofs.Common.{◌≡◌, ◌∙◌, inl, inr, true, false, List, [], ℤ, pos, length, ap, sym, rules, w16, SFits, to_z-of_z, arith}
use Rattle.std.proofs.lemmas.Bool.{cases_lt}
use Rattle.std.proofs.lemmas.List.{get_or_append_left}
use Rattle.token_parser.specs.Stale.{own_coefficients, without_stale}
use Rattle.token_parser.proofs.Fresh.{own_at}
use Rattle.reference_frames.proofs.KeptBlocks.{chroma_own, luma_own, luma_given, own_block, y2_held}
use Rattle.reference_frames.specs.FrameTokens.{firsts_of, y2_results}
use Rattle.reference_frames.proofs.kept_blocks.write_first_coefficients.Goals as goal
use Rattle.reference_frames.proofs.kept_blocks.write_first_coefficients.Goals.{then-has_y2, else-has_y2}

pub y2_results_by-results-requires : goal.y2_results_by-results-requires
y2_results_by-results-requires c = y2_held c.args.has_y2 c.args.tokens.now c.requires

pub returns : goal.returns
returns c = λ k within.
    let y_dc : SFits w16 c.args.factors.y_dc = search rules in
    let uv_dc : SFits w16 c.args.factors.uv_dc = search rules in
    let chroma_is = simp to_z-of_z at c.write_firsts-2.ensures.inside in
    let factors = c.args.factors in
    let tokens = c.args.tokens.now in
    elim (cases_lt k 16) [
      | inl luma ↦ elim c.if-has_y2.branch [
        | then-has_y2 w ↦
            let long : length w.y2_results_by-results.result ≡ 16 = search rules in
            let own : List (List ℤ) = (without_stale true tokens).coefficients in
            let results = w.y2_results_by-results.ensures ∙ ap (y2_results factors) (sym (own_block true tokens 24 (omega arith) (omega arith))) in
            c.write_firsts-2.ensures.before k luma
            ∙ rw (w.firsts-is, w.copy_from_slice.ensures.after, w.if-has_y2.true) (get_or_append_left w.y2_results_by-results.result _ (pos 0) k (omega (arith, long)) ∙ rw results (luma_given factors (y2_results factors (slice_index_or own 24 [])) own k luma))
        | else-has_y2 w ↦
            let own : List (List ℤ) = (without_stale false tokens).coefficients in
            let own_is : slice_index_or own k [] ≡ own_coefficients false tokens k = own_at false tokens k (omega (arith, within)) in
            let luma_is = luma_own factors own k luma in
            let written = simp to_z-of_z at w.write_firsts.ensures.inside in
            c.write_firsts-2.ensures.before k luma ∙ rw (w.firsts-is, w.if-has_y2.false) (written k (omega arith) luma ∙ rw own_is at luma_is)
      ]
      | inr chroma ↦
          let own_is = own_block c.args.has_y2 tokens k chroma (omega (arith, within)) in
          let here = chroma_own factors (firsts_of factors c.args.has_y2 (without_stale c.args.has_y2 tokens).coefficients) (without_stale c.args.has_y2 tokens).coefficients k chroma in
          chroma_is k chroma within ∙ rw own_is at here
    ]
