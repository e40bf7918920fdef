use Rattle.std.specs.Prelude.{ℕ, ◌+◌, ◌-◌, ◌*◌, min, zero, suc, Bool, true, false, List, [], ◌∷◌, nat_le, nat_lt, if◌then◌else◌}
use Rattle.bool_coder.specs.Reader.{Reader, next_bit, after_bit, level, split_of}
use Rattle.bool_coder.specs.Reading.{Reading}

-- the same reading with a window that is never clamped to the range, as in RFC 6386, section 7.3

abbrev pub uncut_doubled : Reader → Reader
uncut_doubled r = record { rest = after_bit r.rest; d = 2 * r.d + next_bit r.rest; range = 2 * r.range }

unfoldable pub uncut_renewed : ℕ → Reader → Reader
uncut_renewed zero r = r
uncut_renewed (suc more) r = if nat_lt r.range 128 then uncut_renewed more (uncut_doubled r) else r

unfoldable pub uncut_read : ℕ → Reader → Bool × Reader
uncut_read prob r =
    let split = split_of prob r.range in
    if nat_le split r.d
    then (true, uncut_renewed 7 (record r { d = r.d - split; range = r.range - split }))
    else (false, uncut_renewed 7 (record r { range = split }))

-- a reader with its window clamped to the range
abbrev pub clamped_to_range : Reader → Reader
clamped_to_range r = record { rest = r.rest; d = min r.d r.range; range = r.range }

-- the same without the zeros at the end of its bits: the model of a decoder
abbrev pub settled : Reader → Reader
settled r = level (clamped_to_range r)

-- the bits that a way of reading returns for a list of probabilities
abbrev pub bits_read : (ℕ → Reading Bool) → List ℕ → Reader → List Bool
bits_read way [] r = []
bits_read way (prob ∷ probs) r = (way prob r).0 ∷ bits_read way probs (way prob r).1
