-- How many bits a reader takes in, and how many of them come after the end of its text.
use Rattle.std.specs.Prelude.{ℕ, ◌+◌, ◌-◌, ◌*◌, zero, suc, List, [], ◌∷◌, ◌++◌, length, replicate, nat_le, nat_lt, if◌then◌else◌}
use Rattle.bool_coder.specs.Reader.{Reader, started, read, split_of}
use Rattle.bool_coder.specs.Chains.{Chain, done, ask}

-- how often a range under 128 is doubled until it is not, at most so many times
unfoldable pub shifts : ℕ → ℕ → ℕ
shifts zero range = 0
shifts (suc more) range = if nat_lt range 128 then 1 + shifts more (2 * range) else 0

-- a bit read with a probability takes in one bit of the text for each doubling (`bit_count` in RFC 6386, section 7.3)
unfoldable pub taken_by_bit : ℕ → Reader → ℕ
taken_by_bit prob r = let split = split_of prob r.range in shifts 7 (if nat_le split r.d then r.range - split else split)

-- a chain of reads takes in the bits of each read in turn
unfoldable pub taken : {A : Type 0} → Chain A → Reader → ℕ
taken (done x) r = 0
taken (ask prob if_zero if_one) r = taken_by_bit prob r + (if (read prob r).0 then taken if_one (read prob r).1 else taken if_zero (read prob r).1)

-- from the start of a text: a reader has eight bits in its window before it reads the first
abbrev pub taken_from : {A : Type 0} → Chain A → List ℕ → ℕ
taken_from chain bytes = 8 + taken chain (started bytes)

-- the bits that a chain takes in after the end of its text, all of them zeros. With any, libvpx calls the partition corrupt:
-- in its words, the window reaches past the end if the shifts so far are more than 8 * length - 8 (`vp8dx_bool_error`)
abbrev pub past_end : {A : Type 0} → Chain A → List ℕ → ℕ
past_end chain bytes = taken_from chain bytes - 8 * length bytes

-- a text after which so many zero bytes follow, and then a byte 1, the mark
abbrev pub marked : ℕ → List ℕ → List ℕ
marked zeros bytes = bytes ++ replicate zeros 0 ++ 1 ∷ []
