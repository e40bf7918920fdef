use Rattle.std.specs.Prelude.{slice_index}
use Rattle.std.proofs.Common.{ℕ, ◌+◌, List, refl, ap, sym, ◌∙◌, arith}
use Rattle.loop_filter.specs.Lines.{filtered_line}
use Rattle.loop_filter.specs.Edges.{line_in}
use Rattle.loop_filter.specs.Lanes.{eight_from, vector}
use Rattle.loop_filter.proofs.ChangedRows.{changed_rows, column_after}
use Rattle.loop_filter.proofs.EdgeFold.{samples_of}
use Rattle.loop_filter.proofs.Loaded.{lane_of_vector, lane_of_first, lane_of_second}
use Rattle.loop_filter.proofs.joined_edges.filter_joined_rows.Goals as goal

pub returns-clause-y : goal.returns-clause-y
returns-clause-y c =
    let f = filtered_line c.args.filter c.args.limits in
    let t = c.filter_both.result.0 in
    c.store_rows.ensures.value
    ∙ changed_rows c.args.filter c.args.limits c.args.y.now c.args.at.luma c.args.at.luma_stride 16 (vector t) c.requires.wide.0 c.requires.room_y c.store_rows.ensures.whole
    (λ i k less below. lane_of_vector t i k below ∙ ap (λ l. slice_index (samples_of l) k) (c.filter_both.ensures.a i less ∙ ap f (c.load_rows-luma.ensures i less)))

pub returns-clause-u : goal.returns-clause-u
returns-clause-u c =
    let f = filtered_line c.args.filter c.args.limits in
    let t = c.filter_both.result.1 in
    c.store_rows-2.ensures.u
    ∙ changed_rows c.args.filter c.args.limits c.args.u.now c.args.at.chroma c.args.at.chroma_stride 8 (λ k. eight_from 0 (vector t k)) c.requires.wide.1 c.requires.room_u (λ k less. refl)
    (λ i k less below. lane_of_first t i k less below ∙ ap (λ l. slice_index (samples_of l) k) (c.filter_both.ensures.b i (omega arith) ∙ ap f (c.load_rows-chroma.ensures.u i less)))

pub returns-clause-v : goal.returns-clause-v
returns-clause-v c =
    let f = filtered_line c.args.filter c.args.limits in
    let t = c.filter_both.result.1 in
    c.store_rows-2.ensures.v
    ∙ changed_rows c.args.filter c.args.limits c.args.v.now c.args.at.chroma c.args.at.chroma_stride 8 (λ k. eight_from 8 (vector t k)) c.requires.wide.1 c.requires.room_v (λ k less. refl)
    (λ i k less below. lane_of_second t i k less below ∙ ap (λ l. slice_index (samples_of l) k) (c.filter_both.ensures.b (8 + i) (omega arith) ∙ ap f (c.load_rows-chroma.ensures.v i less)))

pub returns-clause-lines : goal.returns-clause-lines
returns-clause-lines c =
    let f = filtered_line c.args.filter c.args.limits in
    let start = c.args.at.luma in
    let stride = c.args.at.luma_stride in
    let chroma_start = c.args.at.chroma in
    let chroma_stride = c.args.at.chroma_stride in
    record {
      luma = λ i less.
          c.filter_both.ensures.a i less ∙ ap f (c.load_rows-luma.ensures i less)
          ∙ column_after f c.args.y.now start stride 16 i (omega (arith, c.requires.wide.0)) c.requires.wide.0 less (omega (arith, c.requires.wide.0, c.requires.room_y))
          ∙ ap (λ (l : List ℕ). line_in l (start + i) stride) (sym (returns-clause-y c));
      chroma_u = λ i less.
          c.filter_both.ensures.b i (omega arith) ∙ ap f (c.load_rows-chroma.ensures.u i less)
          ∙ column_after f c.args.u.now chroma_start chroma_stride 8 i (omega (arith, c.requires.wide.1)) c.requires.wide.1 less (omega (arith, c.requires.wide.1, c.requires.room_u))
          ∙ ap (λ (l : List ℕ). line_in l (chroma_start + i) chroma_stride) (sym (returns-clause-u c));
      chroma_v = λ i less.
          c.filter_both.ensures.b (8 + i) (omega arith) ∙ ap f (c.load_rows-chroma.ensures.v i less)
          ∙ column_after f c.args.v.now chroma_start chroma_stride 8 i (omega (arith, c.requires.wide.1)) c.requires.wide.1 less (omega (arith, c.requires.wide.1, c.requires.room_v))
          ∙ ap (λ (l : List ℕ). line_in l (chroma_start + i) chroma_stride) (sym (returns-clause-v c));
    }
