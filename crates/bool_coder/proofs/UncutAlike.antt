use Rattle.std.proofs.Common.{◌≡◌, ℕ, zero, suc, ◌-◌, ◌*◌, ◌<◌, ◌≤◌, min, Bool, true, false, List, [], ◌∷◌, get_or, refl, ap, ◌∙◌, arith, inl, inr}
use Rattle.std.proofs.Math.Nat.{mul-le-mul_left}
use Rattle.std.proofs.lemmas.Bool.{lt-ltb, le-ltb, le-leb, lt-leb, cases_lt}
use Rattle.bool_coder.specs.Reader.{Reader, doubled, renewed, read, split_of, text_start, started, level}
use Rattle.bool_coder.specs.Uncut.{uncut_doubled, uncut_renewed, uncut_read, clamped_to_range, settled, bits_read}
use Rattle.bool_coder.proofs.Level.{read-level, bits_read-level}

-- the window and the range of a reader decide it
reader_same : (rest : List ℕ) (range d e : ℕ) → d ≡ e → ◌≡◌ {A = Reader} (record { rest = rest; d = d; range = range }) (record { rest = rest; d = e; range = range })
reader_same rest range d e same = ap (λ (n : ℕ). record { rest = rest; d = n; range = range }) same

doubled-clamped_to_range : (r : Reader) → doubled (clamped_to_range r) ≡ clamped_to_range (uncut_doubled r)
doubled-clamped_to_range r = reader_same _ _ _ _ (omega arith)

renewed-clamped_to_range : (fuel : ℕ) (r : Reader) → renewed fuel (clamped_to_range r) ≡ clamped_to_range (uncut_renewed fuel r)
unfolding renewed uncut_renewed
renewed-clamped_to_range zero r = refl
renewed-clamped_to_range (suc more) r =
    elim (cases_lt r.range 128) [ inl small ↦ rw (lt-ltb r.range 128 small) (ap (renewed more) (doubled-clamped_to_range r) ∙ renewed-clamped_to_range more (uncut_doubled r)) | inr large ↦ rw (le-ltb r.range 128 large) refl ]

uncut_renewed-range : (fuel least : ℕ) (r : Reader) → least ≤ r.range → least ≤ (uncut_renewed fuel r).range
unfolding uncut_renewed
uncut_renewed-range zero least r above = above
uncut_renewed-range (suc more) least r above =
    elim (cases_lt r.range 128) [ inl small ↦ rw (lt-ltb r.range 128 small) (uncut_renewed-range more least (uncut_doubled r) (omega arith)) | inr large ↦ rw (le-ltb r.range 128 large) above ]

-- one doubling at least, or a large range
uncut_renewed-two : (r : Reader) → 1 ≤ r.range → 2 ≤ (uncut_renewed 7 r).range
unfolding uncut_renewed
uncut_renewed-two r some =
    elim (cases_lt r.range 128) [ inl small ↦ rw (lt-ltb r.range 128 small) (uncut_renewed-range 6 2 (uncut_doubled r) (omega arith)) | inr large ↦ rw (le-ltb r.range 128 large) (omega arith) ]

-- a split leaves something on both sides
split_of-below : (prob range : ℕ) → prob ≤ 255 → 2 ≤ range → split_of prob range < range
split_of-below prob range probable some =
    let most : (range - 1) * prob ≤ (range - 1) * 255 = mul-le-mul_left (range - 1) probable in omega arith

read-held_zero : (prob : ℕ) (r : Reader) → r.d < split_of prob r.range → split_of prob r.range < r.range → read prob (clamped_to_range r) ≡ ((uncut_read prob r).0, clamped_to_range (uncut_read prob r).1)
unfolding read uncut_read
read-held_zero prob r below inside =
    let held_below : min r.d r.range < split_of prob r.range = omega arith in
    let start : Reader = record { rest = r.rest; d = r.d; range = split_of prob r.range } in
    let same : record { rest = r.rest; d = min r.d r.range; range = split_of prob r.range } ≡ clamped_to_range start = reader_same _ _ _ _ (omega arith) in
    rw (lt-leb _ _ held_below, lt-leb _ _ below) (ap (λ s. (false, s)) (ap (renewed 7) same ∙ renewed-clamped_to_range 7 start))

read-held_one : (prob : ℕ) (r : Reader) → split_of prob r.range ≤ r.d → split_of prob r.range < r.range → read prob (clamped_to_range r) ≡ ((uncut_read prob r).0, clamped_to_range (uncut_read prob r).1)
unfolding read uncut_read
read-held_one prob r reached inside =
    let held_reached : split_of prob r.range ≤ min r.d r.range = omega arith in
    let start : Reader = record { rest = r.rest; d = r.d - split_of prob r.range; range = r.range - split_of prob r.range } in
    let same : record { rest = r.rest; d = min r.d r.range - split_of prob r.range; range = r.range - split_of prob r.range } ≡ clamped_to_range start = reader_same _ _ _ _ (omega arith) in
    rw (le-leb _ _ held_reached, le-leb _ _ reached) (ap (λ s. (true, s)) (ap (renewed 7) same ∙ renewed-clamped_to_range 7 start))

-- one bit: the same bit, and the same reader except for the window
pub read-clamped_to_range : (prob : ℕ) (r : Reader) → prob ≤ 255 → 2 ≤ r.range → read prob (clamped_to_range r) ≡ ((uncut_read prob r).0, clamped_to_range (uncut_read prob r).1)
unfolding read uncut_read
read-clamped_to_range prob r probable some =
    let inside : split_of prob r.range < r.range = split_of-below prob r.range probable some in
    elim (cases_lt r.d (split_of prob r.range)) [ inl below ↦ read-held_zero prob r below inside | inr reached ↦ read-held_one prob r reached inside ]

-- the reader after a bit has a range again
pub uncut_read-range : (prob : ℕ) (r : Reader) → prob ≤ 255 → 2 ≤ r.range → 2 ≤ (uncut_read prob r).1.range
unfolding uncut_read
uncut_read-range prob r probable some =
    let inside : split_of prob r.range < r.range = split_of-below prob r.range probable some in
    elim (cases_lt r.d (split_of prob r.range)) [ inl below ↦ rw (lt-leb _ _ below) (uncut_renewed-two _ (omega arith)) | inr reached ↦ rw (le-leb _ _ reached) (uncut_renewed-two _ (omega arith)) ]

pub bits_read-clamped_to_range : (probs : List ℕ) (r : Reader) → ((k : ℕ) → get_or probs k 0 ≤ 255) → 2 ≤ r.range → bits_read read probs (clamped_to_range r) ≡ bits_read uncut_read probs r
bits_read-clamped_to_range [] r probable some = refl
bits_read-clamped_to_range (prob ∷ probs) r probable some =
    let here : read prob (clamped_to_range r) ≡ ((uncut_read prob r).0, clamped_to_range (uncut_read prob r).1) = read-clamped_to_range prob r (probable 0) some in
    rw here (ap (λ bits. (uncut_read prob r).0 ∷ bits) (bits_read-clamped_to_range probs (uncut_read prob r).1 (λ k. probable (suc k)) (uncut_read-range prob r (probable 0) some)))

-- so is one bit of a settled reader
pub read-settled : (prob : ℕ) (r : Reader) → prob ≤ 255 → 2 ≤ r.range → read prob (settled r) ≡ ((uncut_read prob r).0, settled (uncut_read prob r).1)
read-settled prob r probable some = read-level prob (clamped_to_range r) ∙ ap (λ (s : Bool × Reader). (s.0, level s.1)) (read-clamped_to_range prob r probable some)

pub bits_read-settled : (probs : List ℕ) (r : Reader) → ((k : ℕ) → get_or probs k 0 ≤ 255) → 2 ≤ r.range → bits_read read probs (settled r) ≡ bits_read uncut_read probs r
bits_read-settled probs r probable some = bits_read-level probs (clamped_to_range r) ∙ bits_read-clamped_to_range probs r probable some

-- the window at the start is one byte, which is within the range
start-clamped_to_range : (bytes : List ℕ) → ((k : ℕ) → get_or bytes k 0 ≤ 255) → clamped_to_range (text_start bytes) ≡ text_start bytes
start-clamped_to_range [] small = refl
start-clamped_to_range (byte ∷ bytes) small = reader_same _ _ _ _ (let fits : byte ≤ 255 = small 0 in omega arith)

pub started-settled : (bytes : List ℕ) → ((k : ℕ) → get_or bytes k 0 ≤ 255) → settled (text_start bytes) ≡ started bytes
started-settled bytes small = ap level (start-clamped_to_range bytes small)

pub start-range : (bytes : List ℕ) → 2 ≤ (text_start bytes).range
start-range [] = omega arith
start-range (byte ∷ bytes) = omega arith
