-- One bit more is read, and one update more.
use Rattle.std.proofs.Common.{◌≡◌, ℕ, suc, ◌+◌, Bool, List, get_or, refl, add-one}
use Rattle.bool_coder.specs.Reader.{Reader}
use Rattle.bool_coder.specs.Reading.{flag}
use Rattle.header_bits.specs.Bits.{optional_at, skip, update_bits}

skip-suc : (count bits : ℕ) (bit : Bool) (r s t : Reader) → skip count r ≡ (bits, s) → flag s ≡ (bit, t) → skip (suc count) r ≡ (bits + 1, t)
unfolding skip
skip-suc count bits bit r s t first here = rw (first, here) refl

pub skip-next : (count bits : ℕ) (bit : Bool) (r s t : Reader) → skip count r ≡ (bits, s) → flag s ≡ (bit, t) → skip (count + 1) r ≡ (bits + 1, t)
skip-next count bits bit r s t first here = rw add-one (skip-suc count bits bit r s t first here)

update_bits-suc : (more place bits here : ℕ) (updates : List ℕ) (r s t : Reader) → update_bits more place updates r ≡ (bits, s) → optional_at (get_or updates place 0) more s ≡ (here, t) → update_bits more (suc place) updates r ≡ (bits + here, t)
unfolding update_bits
update_bits-suc more place bits here updates r s t first one = rw (first, one) refl

pub update_bits-next : (more place bits here : ℕ) (updates : List ℕ) (r s t : Reader) → update_bits more place updates r ≡ (bits, s) → optional_at (get_or updates place 0) more s ≡ (here, t) → update_bits more (place + 1) updates r ≡ (bits + here, t)
update_bits-next more place bits here updates r s t first one = rw add-one (update_bits-suc more place bits here updates r s t first one)
