-- The tally of findings and others.
use Rattle.std.proofs.Common.{◌≡◌, ℕ, not, List, ◌++◌, refl}
use Rattle.std.proofs.lemmas.List.Sums.{sum_by-append}
use Rattle.std.specs.Prelude.{cond}
use Rattle.stream_checks.specs.declared.finding.Finding.{Finding}
use Rattle.stream_checks.specs.Severity.{is_damage, plus, tally_of}

pub tally_append : (some others : List Finding) → tally_of (some ++ others) ≡ plus (tally_of some) (tally_of others)
tally_append some others =
    let counts_damage : Finding → ℕ = λ finding. cond (is_damage finding.trouble) 1 0 in
    let counts_notes : Finding → ℕ = λ finding. cond (not (is_damage finding.trouble)) 1 0 in
    rw (sum_by-append counts_damage some others, sum_by-append counts_notes some others) refl
