-- Six bytes at a time
use Rattle.std.proofs.Common.{◌≡◌, ℕ, ◌+◌, ◌-◌, ◌*◌, ◌/◌, ◌%◌, ◌^◌, ◌<◌, ◌≤◌, List, [], ◌∷◌, ◌++◌, length, take, drop, slice_index_or, w64, refl, ap, sym, ◌∙◌, arith}
use Rattle.std.specs.Int.{from_be_bytes}
use Rattle.std.proofs.Math.Seq.{drop-cons}
use Rattle.std.proofs.Math.Nat.{pow-le-pow_right}
use Rattle.std.proofs.lemmas.List.{drop_all, get_or-take, length-drop, length-take-le, take-append-drop, take-take, take_all}
use Rattle.std.proofs.lemmas.Nat.{pow-add}
use Rattle.bool_coder.specs.Window.{reader_of}
use Rattle.bool_coder.proofs.Windows.{take-same}

-- the items of a list of six
six_items : (xs : List ℕ) → length xs ≡ 6 → xs ≡ slice_index_or xs 0 0 ∷ slice_index_or xs 1 0 ∷ slice_index_or xs 2 0 ∷ slice_index_or xs 3 0 ∷ slice_index_or xs 4 0 ∷ slice_index_or xs 5 0 ∷ []
six_items xs count =
    let none : drop 6 xs ≡ [] = drop_all 6 xs (omega (arith, count)) in
    let five : drop 5 xs ≡ slice_index_or xs 5 0 ∷ [] = drop-cons xs 5 0 (omega (arith, count)) ∙ ap (λ (rest : List ℕ). slice_index_or xs 5 0 ∷ rest) none in
    let four : drop 4 xs ≡ slice_index_or xs 4 0 ∷ slice_index_or xs 5 0 ∷ [] = drop-cons xs 4 0 (omega (arith, count)) ∙ ap (λ (rest : List ℕ). slice_index_or xs 4 0 ∷ rest) five in
    let three : drop 3 xs ≡ slice_index_or xs 3 0 ∷ slice_index_or xs 4 0 ∷ slice_index_or xs 5 0 ∷ [] = drop-cons xs 3 0 (omega (arith, count)) ∙ ap (λ (rest : List ℕ). slice_index_or xs 3 0 ∷ rest) four in
    let two : drop 2 xs ≡ slice_index_or xs 2 0 ∷ slice_index_or xs 3 0 ∷ slice_index_or xs 4 0 ∷ slice_index_or xs 5 0 ∷ [] = drop-cons xs 2 0 (omega (arith, count)) ∙ ap (λ (rest : List ℕ). slice_index_or xs 2 0 ∷ rest) three in
    let one : drop 1 xs ≡ slice_index_or xs 1 0 ∷ slice_index_or xs 2 0 ∷ slice_index_or xs 3 0 ∷ slice_index_or xs 4 0 ∷ slice_index_or xs 5 0 ∷ [] = drop-cons xs 1 0 (omega (arith, count)) ∙ ap (λ (rest : List ℕ). slice_index_or xs 1 0 ∷ rest) two in
    drop-cons xs 0 0 (omega (arith, count)) ∙ ap (λ (rest : List ℕ). slice_index_or xs 0 0 ∷ rest) one

-- one byte after another
bytes-same : (value left a b c d e f : ℕ) (rest : List ℕ) (range : ℕ) → a < 256 → b < 256 → c < 256 → d < 256 → e < 256 → f < 256 → reader_of (256 * (256 * (256 * (256 * (256 * (256 * value + a) + b) + c) + d) + e) + f) (left + 48) rest range ≡ reader_of value left (a ∷ b ∷ c ∷ d ∷ e ∷ f ∷ rest) range
bytes-same value left a b c d e f rest range fits_a fits_b fits_c fits_d fits_e fits_f =
    let place : left + 48 ≡ left + 8 + 8 + 8 + 8 + 8 + 8 = omega arith in
    let v1 : ℕ = 256 * value + a in
    let v2 : ℕ = 256 * v1 + b in
    let v3 : ℕ = 256 * v2 + c in
    let v4 : ℕ = 256 * v3 + d in
    let v5 : ℕ = 256 * v4 + e in
    ap (λ (n : ℕ). reader_of (256 * v5 + f) n rest range) place
    ∙ take-same v5 (left + 8 + 8 + 8 + 8 + 8) f (f ∷ rest) rest range fits_f refl
    ∙ take-same v4 (left + 8 + 8 + 8 + 8) e (e ∷ f ∷ rest) (f ∷ rest) range fits_e refl
    ∙ take-same v3 (left + 8 + 8 + 8) d (d ∷ e ∷ f ∷ rest) (e ∷ f ∷ rest) range fits_d refl
    ∙ take-same v2 (left + 8 + 8) c (c ∷ d ∷ e ∷ f ∷ rest) (d ∷ e ∷ f ∷ rest) range fits_c refl
    ∙ take-same v1 (left + 8) b (b ∷ c ∷ d ∷ e ∷ f ∷ rest) (c ∷ d ∷ e ∷ f ∷ rest) range fits_b refl
    ∙ take-same value left a (a ∷ b ∷ c ∷ d ∷ e ∷ f ∷ rest) (b ∷ c ∷ d ∷ e ∷ f ∷ rest) range fits_a refl

pub six-small : (value left a b c d e f : ℕ) → value < 2 ^ (left + 8) → a < 256 → b < 256 → c < 256 → d < 256 → e < 256 → f < 256 → 256 * (256 * (256 * (256 * (256 * (256 * value + a) + b) + c) + d) + e) + f < 2 ^ (left + 48 + 8)
six-small value left a b c d e f small fits_a fits_b fits_c fits_d fits_e fits_f =
    let order : left + 48 + 8 ≡ left + 8 + 48 = omega arith in
    let power : 2 ^ (left + 8 + 48) ≡ 2 ^ (left + 8) * 2 ^ 48 = pow-add 2 (left + 8) 48 in
    rw (order, power) (omega arith)

-- eight bytes as one number, most significant first, of which six are taken
six_of : (value a b c d e f g h : ℕ) → value < 2 ^ 16 → g < 256 → h < 256 → value * 2 ^ 48 % 2 ^ 64 + (h + g * 256 + f * 65536 + e * 16777216 + d * 4294967296 + c * 1099511627776 + b * 281474976710656 + a * 72057594037927936) / 65536 ≡ 256 * (256 * (256 * (256 * (256 * (256 * value + a) + b) + c) + d) + e) + f
six_of value a b c d e f g h small fits_g fits_h = omega arith

pub eight-value : (value left : ℕ) (first : List ℕ) → value < 2 ^ (left + 8) → left ≤ 8 → ((i : ℕ) → slice_index_or first i 0 < 256) → value * 2 ^ 48 % 2 ^ 64 + from_be_bytes w64 first / 2 ^ 16 ≡ 256 * (256 * (256 * (256 * (256 * (256 * value + slice_index_or first 0 0) + slice_index_or first 1 0) + slice_index_or first 2 0) + slice_index_or first 3 0) + slice_index_or first 4 0) + slice_index_or first 5 0
eight-value value left first small room fits =
    let two_pos : 0 < 2 = omega arith in
    let more_powers : left + 8 ≤ 16 = omega arith in
    let most : 2 ^ (left + 8) ≤ 2 ^ 16 = pow-le-pow_right two_pos more_powers in
    let number : from_be_bytes w64 first ≡ slice_index_or first 7 0 + slice_index_or first 6 0 * 256 + slice_index_or first 5 0 * 65536 + slice_index_or first 4 0 * 16777216 + slice_index_or first 3 0 * 4294967296 + slice_index_or first 2 0 * 1099511627776 + slice_index_or first 1 0 * 281474976710656 + slice_index_or first 0 0 * 72057594037927936 = omega arith in
    rw number (six_of value (slice_index_or first 0 0) (slice_index_or first 1 0) (slice_index_or first 2 0) (slice_index_or first 3 0) (slice_index_or first 4 0) (slice_index_or first 5 0) (slice_index_or first 6 0) (slice_index_or first 7 0) (omega arith) (fits 6) (fits 7))

-- the first six of them, and the bytes after these
pub eight-same : (value left : ℕ) (first bytes : List ℕ) (range : ℕ) → length first ≡ 8 → ((i : ℕ) → slice_index_or first i 0 < 256) → take 8 bytes ≡ first → reader_of (256 * (256 * (256 * (256 * (256 * (256 * value + slice_index_or first 0 0) + slice_index_or first 1 0) + slice_index_or first 2 0) + slice_index_or first 3 0) + slice_index_or first 4 0) + slice_index_or first 5 0) (left + 48) (drop 6 bytes) range ≡ reader_of value left bytes range
eight-same value left first bytes range count fits next =
    let six : take 6 bytes ≡ take 6 first = sym (take-take 6 8 bytes (omega arith)) ∙ ap (take 6) next in
    let parts : bytes ≡ take 6 first ++ drop 6 bytes = sym (take-append-drop 6 bytes) ∙ ap (λ (items : List ℕ). items ++ drop 6 bytes) six in
    let few : length (take 6 first) ≡ 6 = length-take-le 6 first (omega (arith, count)) in
    let item : (i : ℕ) → i < 6 → slice_index_or (take 6 first) i 0 ≡ slice_index_or first i 0 = λ i h. get_or-take 6 first i 0 h in
    let items : take 6 first ≡ slice_index_or first 0 0 ∷ slice_index_or first 1 0 ∷ slice_index_or first 2 0 ∷ slice_index_or first 3 0 ∷ slice_index_or first 4 0 ∷ slice_index_or first 5 0 ∷ [] = rw (← item 0 (omega arith), ← item 1 (omega arith), ← item 2 (omega arith), ← item 3 (omega arith), ← item 4 (omega arith), ← item 5 (omega arith)) (six_items (take 6 first) few) in
    bytes-same value left _ _ _ _ _ _ (drop 6 bytes) range (fits 0) (fits 1) (fits 2) (fits 3) (fits 4) (fits 5)
    ∙ ap (λ (all : List ℕ). reader_of value left all range) (sym (parts ∙ ap (λ (some : List ℕ). some ++ drop 6 bytes) items))

-- all bytes after the first six
pub rest-of-six : (bytes : List ℕ) → take (length bytes - 6) (drop 6 bytes) ≡ drop 6 bytes
rest-of-six bytes = take_all (length bytes - 6) (drop 6 bytes) (omega (arith, length-drop 6 bytes))
