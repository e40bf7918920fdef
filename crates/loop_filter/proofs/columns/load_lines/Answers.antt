use Rattle.std.proofs.Common.{◌≡◌, ℕ, ◌+◌, ◌*◌, [], ◌∷◌}
use Rattle.loop_filter.specs.Lanes.{line_at}
use Rattle.loop_filter.proofs.Loaded.{eight_lines, turned, is_turned}
use Rattle.loop_filter.proofs.columns.load_lines.Goals as goal

pub returns-clause-a : goal.returns-clause-a
returns-clause-a c =
    let ws = c.load_pairs.result.0 ∷ c.load_pairs.result.1 ∷ c.load_pairs.result.2 ∷ c.load_pairs.result.3 ∷ c.load_pairs.result.4 ∷ c.load_pairs.result.5 ∷ c.load_pairs.result.6 ∷ c.load_pairs.result.7 ∷ [] in
    let turns : (i : ℕ) → line_at c.columns.result i ≡ line_at (turned ws) i = is_turned c.columns.result ws c.columns.ensures.p3 c.columns.ensures.p2 c.columns.ensures.p1 c.columns.ensures.p0 c.columns.ensures.q0 c.columns.ensures.q1 c.columns.ensures.q2 c.columns.ensures.q3 in
    eight_lines (λ i. line_at c.columns.result (i)) (λ k. 2 * k) c.load_pairs.result.0 c.load_pairs.result.1 c.load_pairs.result.2 c.load_pairs.result.3 c.load_pairs.result.4 c.load_pairs.result.5 c.load_pairs.result.6 c.load_pairs.result.7 c.args.a.now c.args.a_start c.args.stride
    (turns 0) (turns 1) (turns 2) (turns 3) (turns 4) (turns 5) (turns 6) (turns 7) c.load_pairs.ensures.a

pub returns-clause-b : goal.returns-clause-b
returns-clause-b c =
    let ws = c.load_pairs.result.0 ∷ c.load_pairs.result.1 ∷ c.load_pairs.result.2 ∷ c.load_pairs.result.3 ∷ c.load_pairs.result.4 ∷ c.load_pairs.result.5 ∷ c.load_pairs.result.6 ∷ c.load_pairs.result.7 ∷ [] in
    let turns : (i : ℕ) → line_at c.columns.result i ≡ line_at (turned ws) i = is_turned c.columns.result ws c.columns.ensures.p3 c.columns.ensures.p2 c.columns.ensures.p1 c.columns.ensures.p0 c.columns.ensures.q0 c.columns.ensures.q1 c.columns.ensures.q2 c.columns.ensures.q3 in
    eight_lines (λ i. line_at c.columns.result (8 + i)) (λ k. 2 * k + 1) c.load_pairs.result.0 c.load_pairs.result.1 c.load_pairs.result.2 c.load_pairs.result.3 c.load_pairs.result.4 c.load_pairs.result.5 c.load_pairs.result.6 c.load_pairs.result.7 c.args.b.now c.args.b_start c.args.stride
    (turns 8) (turns 9) (turns 10) (turns 11) (turns 12) (turns 13) (turns 14) (turns 15) c.load_pairs.ensures.b
