use Rattle.std.specs.Prelude.{slice_index, slice_index_or}
use Rattle.std.proofs.Common.{◌≡◌, ℕ, ◌+◌, ◌*◌, ◌<◌, [], ◌∷◌, arith}
use Rattle.loop_filter.specs.declared.kernels.WideTaps.{WideTaps}
use Rattle.loop_filter.specs.Lanes.{wide_line_at}
use Rattle.loop_filter.proofs.Loaded.{eight_lines, first_hold, second_hold, wide_turned, is_wide_turned, both_eights}
use Rattle.loop_filter.proofs.Transposed.{below_eight}
use Rattle.loop_filter.proofs.wide_columns.load_columns.Goals as goal

pub returns-clause-y : goal.returns-clause-y
returns-clause-y c =
    let s = c.args.y.now in
    let start = c.args.at.luma in
    let stride = c.args.at.luma_stride in
    let ws = c.joined-w0.result ∷ c.joined-w1.result ∷ c.joined-w2.result ∷ c.joined-w3.result ∷ c.joined-w4.result ∷ c.joined-w5.result ∷ c.joined-w6.result ∷ c.joined-w7.result ∷ [] in
    let t : WideTaps = record { p3 = c.transposed.result.0; p2 = c.transposed.result.1; p1 = c.transposed.result.2; p0 = c.transposed.result.3; q0 = c.transposed.result.4; q1 = c.transposed.result.5; q2 = c.transposed.result.6; q3 = c.transposed.result.7 } in
    let turns : (i : ℕ) → wide_line_at t i ≡ wide_line_at (wide_turned ws) i = is_wide_turned t ws c.transposed.ensures.v0 c.transposed.ensures.v1 c.transposed.ensures.v2 c.transposed.ensures.v3 c.transposed.ensures.v4 c.transposed.ensures.v5 c.transposed.ensures.v6 c.transposed.ensures.v7 in
    let luma = c.load_pairs.result.0 ∷ c.load_pairs.result.1 ∷ c.load_pairs.result.2 ∷ c.load_pairs.result.3 ∷ c.load_pairs.result.4 ∷ c.load_pairs.result.5 ∷ c.load_pairs.result.6 ∷ c.load_pairs.result.7 ∷ [] in
    let parts : (n : ℕ) → n < 8 → (i : ℕ) → i < 16 → slice_index (slice_index_or ws n []) i ≡ slice_index (slice_index_or luma n []) i =
    below_eight (λ n. (i : ℕ) → i < 16 → slice_index (slice_index_or ws n []) i ≡ slice_index (slice_index_or luma n []) i) c.joined-w0.ensures.a c.joined-w1.ensures.a c.joined-w2.ensures.a c.joined-w3.ensures.a c.joined-w4.ensures.a c.joined-w5.ensures.a c.joined-w6.ensures.a c.joined-w7.ensures.a in
    let upper = eight_lines (λ i. wide_line_at t (i)) (λ k. 2 * k) c.joined-w0.result c.joined-w1.result c.joined-w2.result c.joined-w3.result c.joined-w4.result c.joined-w5.result c.joined-w6.result c.joined-w7.result s start stride (turns 0) (turns 1) (turns 2) (turns 3) (turns 4) (turns 5) (turns 6) (turns 7) (first_hold (λ k. 2 * k) ws luma s start stride (λ k less. omega arith) parts c.load_pairs.ensures.a) in
    let lower = eight_lines (λ i. wide_line_at t (8 + i)) (λ k. 2 * k + 1) c.joined-w0.result c.joined-w1.result c.joined-w2.result c.joined-w3.result c.joined-w4.result c.joined-w5.result c.joined-w6.result c.joined-w7.result s (start + 8 * stride) stride (turns 8) (turns 9) (turns 10) (turns 11) (turns 12) (turns 13) (turns 14) (turns 15) (first_hold (λ k. 2 * k + 1) ws luma s (start + 8 * stride) stride (λ k less. omega arith) parts c.load_pairs.ensures.b) in
    both_eights (wide_line_at t) s start stride upper lower

pub returns-clause-u : goal.returns-clause-u
returns-clause-u c =
    let s = c.args.u.now in
    let start = c.args.at.chroma in
    let stride = c.args.at.chroma_stride in
    let ws = c.joined-w0.result ∷ c.joined-w1.result ∷ c.joined-w2.result ∷ c.joined-w3.result ∷ c.joined-w4.result ∷ c.joined-w5.result ∷ c.joined-w6.result ∷ c.joined-w7.result ∷ [] in
    let t : WideTaps = record { p3 = c.transposed.result.0; p2 = c.transposed.result.1; p1 = c.transposed.result.2; p0 = c.transposed.result.3; q0 = c.transposed.result.4; q1 = c.transposed.result.5; q2 = c.transposed.result.6; q3 = c.transposed.result.7 } in
    let turns : (i : ℕ) → wide_line_at t i ≡ wide_line_at (wide_turned ws) i = is_wide_turned t ws c.transposed.ensures.v0 c.transposed.ensures.v1 c.transposed.ensures.v2 c.transposed.ensures.v3 c.transposed.ensures.v4 c.transposed.ensures.v5 c.transposed.ensures.v6 c.transposed.ensures.v7 in
    let chroma = c.load_pairs-2.result.0 ∷ c.load_pairs-2.result.1 ∷ c.load_pairs-2.result.2 ∷ c.load_pairs-2.result.3 ∷ c.load_pairs-2.result.4 ∷ c.load_pairs-2.result.5 ∷ c.load_pairs-2.result.6 ∷ c.load_pairs-2.result.7 ∷ [] in
    let parts : (n : ℕ) → n < 8 → (i : ℕ) → i < 16 → slice_index (slice_index_or ws n []) (16 + i) ≡ slice_index (slice_index_or chroma n []) i =
    below_eight (λ n. (i : ℕ) → i < 16 → slice_index (slice_index_or ws n []) (16 + i) ≡ slice_index (slice_index_or chroma n []) i) c.joined-w0.ensures.b c.joined-w1.ensures.b c.joined-w2.ensures.b c.joined-w3.ensures.b c.joined-w4.ensures.b c.joined-w5.ensures.b c.joined-w6.ensures.b c.joined-w7.ensures.b in
    eight_lines (λ i. wide_line_at t (16 + i)) (λ k. 16 + 2 * k) c.joined-w0.result c.joined-w1.result c.joined-w2.result c.joined-w3.result c.joined-w4.result c.joined-w5.result c.joined-w6.result c.joined-w7.result s start stride (turns 16) (turns 17) (turns 18) (turns 19) (turns 20) (turns 21) (turns 22) (turns 23) (second_hold (λ k. 2 * k) ws chroma s start stride (λ k less. omega arith) parts c.load_pairs-2.ensures.a)

pub returns-clause-v : goal.returns-clause-v
returns-clause-v c =
    let s = c.args.v.now in
    let start = c.args.at.chroma in
    let stride = c.args.at.chroma_stride in
    let ws = c.joined-w0.result ∷ c.joined-w1.result ∷ c.joined-w2.result ∷ c.joined-w3.result ∷ c.joined-w4.result ∷ c.joined-w5.result ∷ c.joined-w6.result ∷ c.joined-w7.result ∷ [] in
    let t : WideTaps = record { p3 = c.transposed.result.0; p2 = c.transposed.result.1; p1 = c.transposed.result.2; p0 = c.transposed.result.3; q0 = c.transposed.result.4; q1 = c.transposed.result.5; q2 = c.transposed.result.6; q3 = c.transposed.result.7 } in
    let turns : (i : ℕ) → wide_line_at t i ≡ wide_line_at (wide_turned ws) i = is_wide_turned t ws c.transposed.ensures.v0 c.transposed.ensures.v1 c.transposed.ensures.v2 c.transposed.ensures.v3 c.transposed.ensures.v4 c.transposed.ensures.v5 c.transposed.ensures.v6 c.transposed.ensures.v7 in
    let chroma = c.load_pairs-2.result.0 ∷ c.load_pairs-2.result.1 ∷ c.load_pairs-2.result.2 ∷ c.load_pairs-2.result.3 ∷ c.load_pairs-2.result.4 ∷ c.load_pairs-2.result.5 ∷ c.load_pairs-2.result.6 ∷ c.load_pairs-2.result.7 ∷ [] in
    let parts : (n : ℕ) → n < 8 → (i : ℕ) → i < 16 → slice_index (slice_index_or ws n []) (16 + i) ≡ slice_index (slice_index_or chroma n []) i =
    below_eight (λ n. (i : ℕ) → i < 16 → slice_index (slice_index_or ws n []) (16 + i) ≡ slice_index (slice_index_or chroma n []) i) c.joined-w0.ensures.b c.joined-w1.ensures.b c.joined-w2.ensures.b c.joined-w3.ensures.b c.joined-w4.ensures.b c.joined-w5.ensures.b c.joined-w6.ensures.b c.joined-w7.ensures.b in
    eight_lines (λ i. wide_line_at t (24 + i)) (λ k. 16 + (2 * k + 1)) c.joined-w0.result c.joined-w1.result c.joined-w2.result c.joined-w3.result c.joined-w4.result c.joined-w5.result c.joined-w6.result c.joined-w7.result s start stride (turns 24) (turns 25) (turns 26) (turns 27) (turns 28) (turns 29) (turns 30) (turns 31) (second_hold (λ k. 2 * k + 1) ws chroma s start stride (λ k less. omega arith) parts c.load_pairs-2.ensures.b)
