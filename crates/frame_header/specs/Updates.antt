use Rattle.std.specs.Prelude.{ℕ, zero, suc, List, slice_index, slice_set}
use Rattle.bool_coder.specs.Reading.{Reading, ◌>>=◌, give}

-- the probabilities after so many of them, in index order, had their update, which is read by a function of the probability
-- of the update and the one before (RFC 6386, sections 13.4 and 17.2)
unfoldable pub first_updated : (ℕ → ℕ → Reading ℕ) → ℕ → List ℕ → List ℕ → Reading (List ℕ)
first_updated way zero updates before = give before
first_updated way (suc place) updates before = do
  done ← first_updated way place updates before
  here ← way (slice_index updates place) (slice_index done place)
  give (slice_set done place here)
