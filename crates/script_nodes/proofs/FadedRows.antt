-- Rows that are faded in lanes.
use Rattle.std.specs.Prelude.{slice_index}
use Rattle.std.specs.Simd.Lanes.{put_chunk}
use Rattle.std.proofs.Common.{◌≡◌, ℕ, ◌+◌, ◌-◌, ◌*◌, ◌<◌, ◌≤◌, List, length, sym, ap, ◌∙◌, arith, inl, inr}
use Rattle.std.proofs.lemmas.Bool.{cases_lt}
use Rattle.std.proofs.lemmas.Simd.{get_or-put_chunk_below, get_or-put_chunk_at}
use Rattle.script_nodes.specs.Shown.{weighed}
use Rattle.script_nodes.specs.Rows.{IsFadedTo}

-- more lanes of a row
pub faded_more : (weight dark : ℕ) (row out line : List ℕ) (k n : ℕ) → IsFadedTo weight dark row (k * n) out → length line ≡ n → k * n + n ≤ length out → ((lane : ℕ) → lane < n → slice_index line lane ≡ weighed weight dark (slice_index row (k * n + lane))) → IsFadedTo weight dark row ((k + 1) * n) (put_chunk (k * n) out line)
faded_more weight dark row out line k n before long room each = record {
  each = λ x less.
      elim (cases_lt x (k * n)) [
        | inl below ↦ get_or-put_chunk_below (k * n) out line x 0 below ∙ before.each x below
        | inr from ↦
            let place : k * n + (x - k * n) ≡ x = omega arith in
            let inside : x - k * n < n = omega arith in
            sym (ap (λ i. slice_index (put_chunk (k * n) out line) i) place)
            ∙ get_or-put_chunk_at (k * n) out line (x - k * n) 0 (omega (arith, long)) (omega (arith, long))
            ∙ each (x - k * n) inside
            ∙ ap (λ i. weighed weight dark (slice_index row i)) place
      ];
}
