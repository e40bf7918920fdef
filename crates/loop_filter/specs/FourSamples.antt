-- The simple filter on four samples (RFC 6386, section 15.2).
use Rattle.std.specs.Prelude.{ℕ, List, [], ◌∷◌}
use Rattle.loop_filter.specs.Lines.{Line, line_of_four, simple_line}

-- the samples p1, p0, q0 and q1 of a line
abbrev pub four_of_line : Line → List ℕ
four_of_line l = l.p1 ∷ l.p0 ∷ l.q0 ∷ l.q1 ∷ []

-- four such samples after the simple filter with this limit
abbrev pub simple_four : ℕ → List ℕ → List ℕ
simple_four limit samples = four_of_line (simple_line limit (line_of_four samples))
