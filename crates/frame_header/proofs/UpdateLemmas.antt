-- One more probability is updated.
use Rattle.std.proofs.Common.{◌≡◌, ℕ, suc, ◌+◌, List, get_or, set, refl, add-one}
use Rattle.bool_coder.specs.Reader.{Reader}
use Rattle.bool_coder.specs.Reading.{Reading}
use Rattle.frame_header.specs.Updates.{first_updated}

first_updated-suc : (way : ℕ → ℕ → Reading ℕ) (place : ℕ) (updates before done : List ℕ) (r s t : Reader) (x : ℕ) → first_updated way place updates before r ≡ (done, s) → way (get_or updates place 0) (get_or done place 0) s ≡ (x, t) → first_updated way (suc place) updates before r ≡ (set done place x, t)
unfolding first_updated
first_updated-suc way place updates before done r s t x first here = rw (first, here) refl

pub first_updated-next : (way : ℕ → ℕ → Reading ℕ) (place : ℕ) (updates before done : List ℕ) (r s t : Reader) (x : ℕ) → first_updated way place updates before r ≡ (done, s) → way (get_or updates place 0) (get_or done place 0) s ≡ (x, t) → first_updated way (place + 1) updates before r ≡ (set done place x, t)
first_updated-next way place updates before done r s t x first here = rw add-one (first_updated-suc way place updates before done r s t x first here)
