use Rattle.std.proofs.Common.{◌≡◌, ℕ, zero, suc, ◌+◌, ◌-◌, ◌*◌, ◌/◌, ◌%◌, ◌^◌, ◌<◌, ◌≤◌, List, [], ◌∷◌, ◌++◌, length, get_or, set, refl, ◌∙◌, arith, length-set, length-append, inl, inr}
use Rattle.std.proofs.Math.Nat.{mul-le-mul_right, mul-add-div_right}
use Rattle.std.proofs.lemmas.Nat.{pow-add, pow_pos, div-mul-add, mul-add-lt, shl_below, shr_below, shl_whole, one_shl, div-add-mod'}
use Rattle.std.proofs.lemmas.Bool.{cases_lt}
use Rattle.std.proofs.Common.{◌⊎◌}
use Rattle.bool_coder.specs.CodeText.{bytes_of}
use Rattle.bool_coder.specs.Low.{number_of}
use Rattle.bool_coder.proofs.ByteBits.{both}

-- one more byte is eight more bits
pub pow-byte : (count : ℕ) → 2 ^ (8 * suc count) ≡ 2 ^ (8 * count) * 256
pow-byte count =
    let places : 8 * suc count ≡ 8 * count + 8 = omega arith in rw places (pow-add 2 (8 * count) 8)

-- a byte is written where `rest` bytes follow
pub number_of-set : (bytes : List ℕ) (i rest byte : ℕ) → i + suc rest ≡ length bytes → number_of (set bytes i byte) + get_or bytes i 0 * 2 ^ (8 * rest) ≡ number_of bytes + byte * 2 ^ (8 * rest)
number_of-set [] i rest byte placed = absurd (omega arith)
number_of-set (first ∷ bytes) zero rest byte placed =
    let len : length bytes ≡ rest = omega arith in rw len (omega arith)
number_of-set (first ∷ bytes) (suc i) rest byte placed =
    let later = number_of-set bytes i rest byte (omega arith) in
    let len : length (set bytes i byte) ≡ length bytes = length-set bytes i byte in
    rw len (omega (arith, later))

-- one more byte at the end
pub number_of-push : (bytes : List ℕ) (byte : ℕ) → number_of (bytes ++ byte ∷ []) ≡ number_of bytes * 256 + byte
number_of-push [] byte = omega arith
number_of-push (first ∷ bytes) byte =
    let later = number_of-push bytes byte in
    let len : length (bytes ++ byte ∷ []) ≡ suc (length bytes) = length-append bytes (byte ∷ []) ∙ omega arith in
    rw (len, pow-byte (length bytes)) (omega (arith, later))

-- the part that the bytes leave out
pub number_of-small : (bytes : List ℕ) → ((k : ℕ) → get_or bytes k 0 < 256) → number_of bytes < 2 ^ (8 * length bytes)
number_of-small [] small = omega arith
number_of-small (first ∷ bytes) small =
    let later = number_of-small bytes (λ k. small (suc k)) in
    let here : first < 256 = small 0 in
    rw (pow-byte (length bytes)) (mul-add-lt first (2 ^ (8 * length bytes)) (number_of bytes) 256 here later)

-- bits above the low bytes do not change them
bytes_of-above : (count n a : ℕ) → bytes_of count (a * 2 ^ (8 * count) + n) ≡ bytes_of count n
bytes_of-above zero n a = refl
bytes_of-above (suc count) n a =
    let more : a * 2 ^ (8 * suc count) + n ≡ 256 * a * 2 ^ (8 * count) + n = rw (pow-byte count) (omega arith) in
    let over : (256 * a * 2 ^ (8 * count) + n) / 2 ^ (8 * count) ≡ 256 * a + n / 2 ^ (8 * count) = mul-add-div_right (pow_pos (8 * count)) (256 * a) n in
    rw more (both (rw over (omega arith)) (bytes_of-above count n (256 * a)))

-- the bytes of the number that bytes represent are those bytes
pub bytes_of-number_of : (bytes : List ℕ) → ((k : ℕ) → get_or bytes k 0 < 256) → bytes_of (length bytes) (number_of bytes) ≡ bytes
bytes_of-number_of [] small = refl
bytes_of-number_of (first ∷ bytes) small =
    let here : first < 256 = small 0 in
    let less = number_of-small bytes (λ k. small (suc k)) in
    let top : (first * 2 ^ (8 * length bytes) + number_of bytes) / 2 ^ (8 * length bytes) ≡ first = div-mul-add first (2 ^ (8 * length bytes)) (number_of bytes) less in
    both (rw top (omega arith)) (bytes_of-above (length bytes) (number_of bytes) first ∙ bytes_of-number_of bytes (λ k. small (suc k)))

-- a carry out of the last `rest` bytes: there is a byte before them
pub record Carries (bytes : List ℕ) (end before : ℕ) : Type 0 where
  pub rest : ℕ
  pub placed : end + rest ≡ length bytes
  pub carried : number_of bytes + 2 ^ (8 * rest) ≡ before + 1

pub Carries-start : (bytes : List ℕ) → Carries bytes (length bytes) (number_of bytes)
Carries-start bytes = record { rest = 0; placed = omega arith; carried = refl }

pub Carries-inside : (bytes : List ℕ) (end before : ℕ) → Carries bytes end before → before + 1 < 2 ^ (8 * length bytes) → 1 ≤ end
Carries-inside bytes zero before carry room =
    let all : carry.rest ≡ length bytes = (let placed : 0 + carry.rest ≡ length bytes = carry.placed in omega arith) in
    let carried = rw all at carry.carried in
    absurd (omega (arith, carried))
Carries-inside bytes (suc end) before carry room = omega arith

pub Carries-more : (bytes : List ℕ) (end before : ℕ) → Carries bytes end before → 1 ≤ end → get_or bytes (end - 1) 0 ≡ 255 → Carries (set bytes (end - 1) 0) (end - 1) before
Carries-more bytes end before carry some full =
    let placed : end - 1 + suc carry.rest ≡ length bytes = (let was : end + carry.rest ≡ length bytes = carry.placed in omega arith) in
    let write = number_of-set bytes (end - 1) carry.rest 0 placed in
    let write' = rw full at write in
    let len : length (set bytes (end - 1) 0) ≡ length bytes = length-set bytes (end - 1) 0 in
    let power : 2 ^ (8 * suc carry.rest) ≡ 2 ^ (8 * carry.rest) * 256 = pow-byte carry.rest in
    let carried = carry.carried in
    record { rest = suc carry.rest; placed = omega arith; carried = rw power (omega (arith, write', carried)) }

pub Carries-end : (bytes : List ℕ) (end before : ℕ) → Carries bytes end before → 1 ≤ end → number_of (set bytes (end - 1) (get_or bytes (end - 1) 0 + 1)) ≡ before + 1
Carries-end bytes end before carry some =
    let placed : end - 1 + suc carry.rest ≡ length bytes = (let was : end + carry.rest ≡ length bytes = carry.placed in omega arith) in
    let write = number_of-set bytes (end - 1) carry.rest (get_or bytes (end - 1) 0 + 1) placed in
    let carried = carry.carried in
    omega (arith, write, carried)

-- a carry goes from the tail to the bytes
pub carried-value : (number tail top : ℕ) → top ≤ tail → (number + 1) * top + (tail - top) ≡ number * top + tail
carried-value number tail top over = omega arith

-- and there is room for it
pub carried-room : (number tail top size : ℕ) → top ≤ tail → number * top + tail < size * top → number + 1 < size
carried-room number tail top size over inside =
    let least : (number + 1) * top < size * top = omega arith in
    let few : (number + 1 < size) ⊎ (size ≤ number + 1) = cases_lt (number + 1) size in
    elim few [ inl less ↦ less | inr more ↦ absurd (let much : size * top ≤ (number + 1) * top = mul-le-mul_right top more in omega arith) ]

-- a shifted tail loses nothing
pub shifted-tail : (tail shifts count : ℕ) → tail < 2 ^ (8 + shifts) → shifts ≤ 7 → count ≤ 7 → (tail * 2 ^ count % 4294967296 ≡ tail * 2 ^ count) × (tail * 2 ^ count < 2 ^ (8 + (shifts + count)))
shifted-tail tail shifts count fits few some =
    let places : 8 + shifts + count ≡ 8 + (shifts + count) = omega arith in
    let below = shl_below tail (8 + shifts) count fits in
    (shl_whole tail (8 + shifts) count 32 fits (omega arith), rw places at below)

-- a number and its tail, shifted
pub shifted-value : (number tail shifts count : ℕ) → number * 2 ^ (8 + (shifts + count)) + tail * 2 ^ count ≡ (number * 2 ^ (8 + shifts) + tail) * 2 ^ count
shifted-value number tail shifts count =
    let places : 8 + (shifts + count) ≡ 8 + shifts + count = omega arith in
    rw (places, pow-add 2 (8 + shifts) count) (omega arith)

-- the tail's first byte goes to the bytes
pub moved-value : (number tail width : ℕ) → (number * 256 + tail / 2 ^ width) * 2 ^ width + tail % 2 ^ width ≡ number * 2 ^ (width + 8) + tail
moved-value number tail width =
    let power : 2 ^ (width + 8) ≡ 2 ^ width * 256 = pow-add 2 width 8 in
    let whole : tail / 2 ^ width * 2 ^ width + tail % 2 ^ width ≡ tail = div-add-mod' tail (2 ^ width) in
    rw power (omega arith)

-- the first number above a tail
pub tail-top : (shifts : ℕ) → shifts ≤ 7 → 1 * 2 ^ (8 + shifts) % 4294967296 ≡ 2 ^ (8 + shifts)
tail-top shifts few = one_shl (8 + shifts) 32 (omega arith)

-- a byte carries once at most
pub carried-tail : (tail shifts amount : ℕ) → tail < 2 ^ (8 + shifts) → amount ≤ 255 → tail + amount - 2 ^ (8 + shifts) < 2 ^ (8 + shifts)
carried-tail tail shifts amount fits small =
    let power : 2 ^ (8 + shifts) ≡ 256 * 2 ^ shifts = pow-add 2 8 shifts in
    let some : 0 < 2 ^ shifts = pow_pos shifts in
    let fits' = rw power at fits in
    rw power (omega (arith, fits'))

-- and only if the bytes have room for it
pub carried-inside : (number tail shifts len amount : ℕ) → 2 ^ (8 + shifts) ≤ tail + amount → number * 2 ^ (8 + shifts) + tail + amount < 2 ^ (8 + (8 * len + shifts)) → number + 1 < 2 ^ (8 * len)
carried-inside number tail shifts len amount over inside =
    let places : 8 + (8 * len + shifts) ≡ 8 * len + (8 + shifts) = omega arith in
    let power : 2 ^ (8 + (8 * len + shifts)) ≡ 2 ^ (8 * len) * 2 ^ (8 + shifts) = rw places (pow-add 2 (8 * len) (8 + shifts)) in
    let inside' : number * 2 ^ (8 + shifts) + (tail + amount) < 2 ^ (8 * len) * 2 ^ (8 + shifts) = (let small = rw power at inside in omega (arith, small)) in
    carried-room number (tail + amount) (2 ^ (8 + shifts)) (2 ^ (8 * len)) over inside'

-- the tail's first byte, if it has a byte to move
pub moved-byte : (tail shifts count : ℕ) → tail < 2 ^ (8 + shifts) → shifts ≤ 7 → count ≤ 7 → 8 ≤ shifts + count → tail * 2 ^ count % 4294967296 / 2 ^ (8 + (shifts + count - 8)) < 256
moved-byte tail shifts count fits few some over =
    let kept = shifted-tail tail shifts count fits few some in
    let places : 8 + (shifts + count) ≡ 8 + (8 + (shifts + count - 8)) = omega arith in
    let below : tail * 2 ^ count < 2 ^ (8 + (8 + (shifts + count - 8))) = rw places at kept.1 in
    rw kept.0 (shr_below (tail * 2 ^ count) 8 (8 + (shifts + count - 8)) below)

-- a number and its tail, shifted, if the tail's first byte goes to the bytes
pub moved-shifted : (bytes bytes' : List ℕ) (tail shifts count : ℕ) → tail < 2 ^ (8 + shifts) → shifts ≤ 7 → count ≤ 7 → 8 ≤ shifts + count → bytes' ≡ bytes ++ tail * 2 ^ count % 4294967296 / 2 ^ (8 + (shifts + count - 8)) ∷ [] → number_of bytes' * 2 ^ (8 + (shifts + count - 8)) + tail * 2 ^ count % 4294967296 % (1 * 2 ^ (8 + (shifts + count - 8)) % 4294967296) ≡ (number_of bytes * 2 ^ (8 + shifts) + tail) * 2 ^ count
moved-shifted bytes bytes' tail shifts count fits few some over pushed =
    let kept : tail * 2 ^ count % 4294967296 ≡ tail * 2 ^ count = (shifted-tail tail shifts count fits few some).0 in
    let top : 1 * 2 ^ (8 + (shifts + count - 8)) % 4294967296 ≡ 2 ^ (8 + (shifts + count - 8)) = tail-top (shifts + count - 8) (omega arith) in
    let places : 8 + (shifts + count - 8) + 8 ≡ 8 + (shifts + count) = omega arith in
    let moved = moved-value (number_of bytes) (tail * 2 ^ count) (8 + (shifts + count - 8)) in
    let whole : (number_of bytes * 256 + tail * 2 ^ count / 2 ^ (8 + (shifts + count - 8))) * 2 ^ (8 + (shifts + count - 8)) + tail * 2 ^ count % 2 ^ (8 + (shifts + count - 8)) ≡ number_of bytes * 2 ^ (8 + (shifts + count)) + tail * 2 ^ count = rw places at moved in
    rw (pushed, kept, top, number_of-push bytes (tail * 2 ^ count / 2 ^ (8 + (shifts + count - 8)))) (whole ∙ shifted-value (number_of bytes) tail shifts count)
