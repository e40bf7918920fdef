use Rattle.std.proofs.Common.{◌≡◌, ℕ, zero, suc, ◌+◌, ◌-◌, ◌*◌, ◌/◌, ◌^◌, min, Bool, true, false, List, [], ◌∷◌, ◌++◌, replicate, refl, ap, sym, ◌∙◌, append-nil, arith, inl, inr}
use Rattle.std.proofs.lemmas.Bool.{lt-ltb, le-ltb, cases_lt}
use Rattle.std.proofs.lemmas.Nat.{shl-shr, shr-shr}
use Rattle.bool_coder.specs.Reader.{Reader, bits_of, next_bit, after_bit, before, trimmed, level, doubled, renewed, read, split_of}
use Rattle.bool_coder.specs.Uncut.{bits_read}
use Rattle.bool_coder.specs.Window.{reader_of}
use Rattle.bool_coder.proofs.ByteBits.{bits_of-padded}

-- the equations of a trimmed string
pub trimmed-none : trimmed [] ≡ []
unfolding trimmed
trimmed-none = refl

pub trimmed-bit : (bit : ℕ) (rest : List ℕ) → trimmed (bit ∷ rest) ≡ before bit (trimmed rest)
unfolding trimmed
trimmed-bit bit rest = refl

after-before : (bit : ℕ) (rest : List ℕ) → after_bit (before bit rest) ≡ rest
after-before zero [] = refl
after-before zero (bit ∷ rest) = refl
after-before (suc more) rest = refl

next-before : (bit : ℕ) (rest : List ℕ) → next_bit (before bit rest) ≡ bit
next-before zero [] = refl
next-before zero (bit ∷ rest) = refl
next-before (suc more) rest = refl

-- it has the same bits
after-trimmed : (rest : List ℕ) → after_bit (trimmed rest) ≡ trimmed (after_bit rest)
after-trimmed [] = ap after_bit trimmed-none ∙ sym trimmed-none
after-trimmed (bit ∷ rest) = rw (trimmed-bit bit rest) (after-before bit (trimmed rest))

next-trimmed : (rest : List ℕ) → next_bit (trimmed rest) ≡ next_bit rest
next-trimmed [] = rw trimmed-none refl
next-trimmed (bit ∷ rest) = rw (trimmed-bit bit rest) (next-before bit (trimmed rest))

reader_same : (range : ℕ) (rest rest' : List ℕ) (d d' : ℕ) → rest ≡ rest' → d ≡ d' → ◌≡◌ {A = Reader} (record { rest = rest; d = d; range = range }) (record { rest = rest'; d = d'; range = range })
reader_same range rest rest' d d' p q = cc

doubled-level : (r : Reader) → doubled (level r) ≡ level (doubled r)
doubled-level r = reader_same _ _ _ _ _ (after-trimmed r.rest) (ap (λ (bit : ℕ). min (2 * r.d + bit) (2 * r.range)) (next-trimmed r.rest))

renewed-level : (fuel : ℕ) (r : Reader) → renewed fuel (level r) ≡ level (renewed fuel r)
unfolding renewed
renewed-level zero r = refl
renewed-level (suc more) r =
    elim (cases_lt r.range 128) [ inl small ↦ rw (lt-ltb r.range 128 small) (ap (renewed more) (doubled-level r) ∙ renewed-level more (doubled r)) | inr large ↦ rw (le-ltb r.range 128 large) refl ]

-- a bit of a level reader is the bit of the reader, and leaves a level one again
told : (prob : ℕ) (r : Reader) (bit : Bool) → Rattle.std.specs.Prelude.nat_le (split_of prob r.range) r.d ≡ bit → read prob (level r) ≡ ((read prob r).0, level (read prob r).1)
unfolding read
told prob r true is = rw is (ap (λ (s : Reader). (true, s)) (renewed-level 7 (record r { d = r.d - split_of prob r.range; range = r.range - split_of prob r.range })))
told prob r false is = rw is (ap (λ (s : Reader). (false, s)) (renewed-level 7 (record r { range = split_of prob r.range })))

pub read-level : (prob : ℕ) (r : Reader) → read prob (level r) ≡ ((read prob r).0, level (read prob r).1)
read-level prob r = told prob r _ refl

pub bits_read-level : (probs : List ℕ) (r : Reader) → bits_read read probs (level r) ≡ bits_read read probs r
bits_read-level [] r = refl
bits_read-level (prob ∷ probs) r =
    let here : read prob (level r) ≡ ((read prob r).0, level (read prob r).1) = read-level prob r in
    rw here (ap (λ (bits : List Bool). (read prob r).0 ∷ bits) (bits_read-level probs (read prob r).1))

-- zeros at the end are trimmed
trimmed-zeros : (count : ℕ) → trimmed (replicate count 0) ≡ []
trimmed-zeros zero = trimmed-none
trimmed-zeros (suc count) = trimmed-bit 0 (replicate count 0) ∙ ap (before 0) (trimmed-zeros count)

pub trimmed-padded : (bits : List ℕ) (count : ℕ) → trimmed (bits ++ replicate count 0) ≡ trimmed bits
trimmed-padded [] count = trimmed-zeros count ∙ sym trimmed-none
trimmed-padded (bit ∷ bits) count = trimmed-bit bit (bits ++ replicate count 0) ∙ ap (before bit) (trimmed-padded bits count) ∙ sym (trimmed-bit bit bits)

pub level-padded : (left pad value range : ℕ) → level (reader_of (value * 2 ^ pad) (left + pad) [] range) ≡ level (reader_of value left [] range)
level-padded left pad value range =
    let bits : trimmed (bits_of (left + pad) (value * 2 ^ pad) ++ []) ≡ trimmed (bits_of left value ++ []) =
    (rw (append-nil (bits_of (left + pad) (value * 2 ^ pad)), append-nil (bits_of left value), bits_of-padded left pad value) (trimmed-padded (bits_of left value) pad)) in
    let place : pad + left ≡ left + pad = omega arith in
    let number : value * 2 ^ pad / 2 ^ (left + pad) ≡ value / 2 ^ left = rw (← place) (sym (shr-shr (value * 2 ^ pad) pad left) ∙ ap (λ (n : ℕ). n / 2 ^ left) (shl-shr value pad)) in
    reader_same range _ _ _ _ bits (ap (λ (n : ℕ). min n range) number)
