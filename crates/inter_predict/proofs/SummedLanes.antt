-- Sums of shifted samples in lanes of 16 bits.
use Rattle.std.specs.Prelude.{replicate, slice_index}
use Rattle.std.proofs.Common.{◌≡◌, ℕ, ◌+◌, ◌-◌, ◌<◌, ◌*◌, ◌%◌, ◌^◌, List, length, ap, ◌∙◌, arith}
use lib.Lanes.{zip2}
use Rattle.inter_predict.specs.Weights.{AreSamples}
use Rattle.inter_predict.proofs.TappedLanes.{IsLanes, combined, own, plus, splat}

-- differences, as 16 bits hold them
abbrev pub minus : List ℕ → List ℕ → List ℕ
minus xs ys = zip2 (λ a b. (a + (65536 - b)) % 65536) xs ys

abbrev pub shifted : ℕ → List ℕ → ℕ → List ℕ
shifted n xs count = zip2 (λ a b. a * 2 ^ b % 65536) xs (replicate n count)

plus_lanes : (n : ℕ) (at at' : ℕ → ℕ) (xs ys : List ℕ) → IsLanes n at xs → IsLanes n at' ys → IsLanes n (λ lane. (at lane + at' lane) % 65536) (plus xs ys)
plus_lanes n at at' xs ys left right = combined (λ a b. (a + b) % 65536) n at at' xs ys left right

minus_lanes : (n : ℕ) (at at' : ℕ → ℕ) (xs ys : List ℕ) → IsLanes n at xs → IsLanes n at' ys → IsLanes n (λ lane. (at lane + (65536 - at' lane)) % 65536) (minus xs ys)
minus_lanes n at at' xs ys left right = combined (λ a b. (a + (65536 - b)) % 65536) n at at' xs ys left right

pub shifted_lanes : (n : ℕ) (xs : List ℕ) (count : ℕ) → length xs ≡ n → (lane : ℕ) → lane < n → slice_index (shifted n xs count) lane ≡ slice_index xs lane * 2 ^ count % 65536
shifted_lanes n xs count long = (combined (λ a b. a * 2 ^ b % 65536) n (slice_index xs) (λ lane. count) xs (replicate n count) (own n xs long) (splat n count)).each

-- -6 b + 123 c + 12 d - e
number_one : (b c d e upper inner high low sum : ℕ) → b < 256 → c < 256 → d < 256 → e < 256
    → upper ≡ c * 16 % 65536 → inner ≡ ((upper + d) % 65536 + (65536 - b)) % 65536 → high ≡ inner * 8 % 65536 → low ≡ (d + (65536 - c)) % 65536 * 4 % 65536
    → sum ≡ (((high + low) % 65536 + (b + b) % 65536) % 65536 + (65536 - (c + e) % 65536)) % 65536
    → (sum + 6 * b + e) % 65536 ≡ (123 * c + 12 * d) % 65536
number_one b c d e upper inner high low sum small_b small_c small_d small_e upper_is inner_is high_is low_is sum_is = omega arith

-- sums in lanes, by those of their parts
pub parts_one : (n : ℕ) (bs cs ds es uppers highs lows : List ℕ) → length bs ≡ n → length cs ≡ n → length ds ≡ n → length es ≡ n → length uppers ≡ n → length highs ≡ n → length lows ≡ n
    → AreSamples n bs × AreSamples n cs × AreSamples n ds × AreSamples n es
    → ((lane : ℕ) → lane < n → slice_index uppers lane ≡ slice_index cs lane * 2 ^ 4 % 65536)
    → ((lane : ℕ) → lane < n → slice_index highs lane ≡ slice_index (minus (plus uppers ds) bs) lane * 2 ^ 3 % 65536)
    → ((lane : ℕ) → lane < n → slice_index lows lane ≡ slice_index (minus ds cs) lane * 2 ^ 2 % 65536)
    → (lane : ℕ) → lane < n
    → (slice_index (minus (plus (plus highs lows) (plus bs bs)) (plus cs es)) lane + 6 * slice_index bs lane + slice_index es lane) % 65536 ≡ (123 * slice_index cs lane + 12 * slice_index ds lane) % 65536
parts_one n bs cs ds es uppers highs lows b c d e upper high low bytes upper_is high_is low_is lane less =
    let inner = minus_lanes n _ _ _ _ (plus_lanes n _ _ _ _ (own n uppers upper) (own n ds d)) (own n bs b) in
    let step = minus_lanes n _ _ _ _ (own n ds d) (own n cs c) in
    let sum = minus_lanes n _ _ _ _ (plus_lanes n _ _ _ _ (plus_lanes n _ _ _ _ (own n highs high) (own n lows low)) (plus_lanes n _ _ _ _ (own n bs b) (own n bs b))) (plus_lanes n _ _ _ _ (own n cs c) (own n es e)) in
    number_one (slice_index bs lane) (slice_index cs lane) (slice_index ds lane) (slice_index es lane) (slice_index uppers lane) (slice_index (minus (plus uppers ds) bs) lane) (slice_index highs lane) (slice_index lows lane) _
    (bytes.0 lane less) (bytes.1 lane less) (bytes.2 lane less) (bytes.3 lane less)
    (upper_is lane less) (inner.each lane less) (high_is lane less) (low_is lane less ∙ ap (λ (x : ℕ). x * 2 ^ 2 % 65536) (step.each lane less)) (sum.each lane less)

-- three times each lane
pub thrice_lanes : (n : ℕ) (xs : List ℕ) → length xs ≡ n → (lane : ℕ) → lane < n → slice_index (plus (plus xs xs) xs) lane ≡ 3 * slice_index xs lane % 65536
thrice_lanes n xs long lane less =
    let all = plus_lanes n _ _ _ _ (plus_lanes n _ _ _ _ (own n xs long) (own n xs long)) (own n xs long) in
    all.each lane less ∙ omega arith

-- 2 a - 11 b + 108 c + 36 d - 8 e + f
number_two : (a b c d e f three_c three_b middle high step low sum : ℕ) → a < 256 → b < 256 → c < 256 → d < 256 → e < 256 → f < 256
    → three_c ≡ 3 * c % 65536 → three_b ≡ 3 * b % 65536 → middle ≡ (three_c + d) % 65536 → high ≡ middle * 32 % 65536
    → step ≡ (middle + (65536 - ((b + e) % 65536 + (b + e) % 65536) % 65536)) % 65536 → low ≡ step * 4 % 65536
    → sum ≡ ((high + low) % 65536 + (((a + a) % 65536 + f) % 65536 + (65536 - three_b)) % 65536) % 65536
    → (sum + 11 * b + 8 * e) % 65536 ≡ (2 * a + 108 * c + 36 * d + f) % 65536
number_two a b c d e f three_c three_b middle high step low sum small_a small_b small_c small_d small_e small_f c_is b_is middle_is high_is step_is low_is sum_is = omega arith

pub parts_two : (n : ℕ) (as1 bs cs ds es fs three_cs three_bs highs lows : List ℕ) → length as1 ≡ n → length bs ≡ n → length ds ≡ n → length es ≡ n → length fs ≡ n → length three_cs ≡ n → length three_bs ≡ n → length highs ≡ n → length lows ≡ n
    → AreSamples n as1 × AreSamples n bs × AreSamples n cs × AreSamples n ds × AreSamples n es × AreSamples n fs
    → ((lane : ℕ) → lane < n → slice_index three_cs lane ≡ 3 * slice_index cs lane % 65536)
    → ((lane : ℕ) → lane < n → slice_index three_bs lane ≡ 3 * slice_index bs lane % 65536)
    → ((lane : ℕ) → lane < n → slice_index highs lane ≡ slice_index (plus three_cs ds) lane * 2 ^ 5 % 65536)
    → ((lane : ℕ) → lane < n → slice_index lows lane ≡ slice_index (minus (plus three_cs ds) (plus (plus bs es) (plus bs es))) lane * 2 ^ 2 % 65536)
    → (lane : ℕ) → lane < n
    → (slice_index (plus (plus highs lows) (minus (plus (plus as1 as1) fs) three_bs)) lane + 11 * slice_index bs lane + 8 * slice_index es lane) % 65536 ≡ (2 * slice_index as1 lane + 108 * slice_index cs lane + 36 * slice_index ds lane + slice_index fs lane) % 65536
parts_two n as1 bs cs ds es fs three_cs three_bs highs lows a b d e f three_c three_b high low bytes c_is b_is high_is low_is lane less =
    let middle = plus_lanes n _ _ _ _ (own n three_cs three_c) (own n ds d) in
    let outer = plus_lanes n _ _ _ _ (own n bs b) (own n es e) in
    let step = minus_lanes n _ _ _ _ (own n (plus three_cs ds) middle.long) (plus_lanes n _ _ _ _ outer outer) in
    let rest = minus_lanes n _ _ _ _ (plus_lanes n _ _ _ _ (plus_lanes n _ _ _ _ (own n as1 a) (own n as1 a)) (own n fs f)) (own n three_bs three_b) in
    let sum = plus_lanes n _ _ _ _ (plus_lanes n _ _ _ _ (own n highs high) (own n lows low)) rest in
    number_two (slice_index as1 lane) (slice_index bs lane) (slice_index cs lane) (slice_index ds lane) (slice_index es lane) (slice_index fs lane) (slice_index three_cs lane) (slice_index three_bs lane) (slice_index (plus three_cs ds) lane) (slice_index highs lane) _ (slice_index lows lane) _
    (bytes.0 lane less) (bytes.1 lane less) (bytes.2 lane less) (bytes.3 lane less) (bytes.4 lane less) (bytes.5 lane less)
    (c_is lane less) (b_is lane less) (middle.each lane less) (high_is lane less) (step.each lane less) (low_is lane less) (sum.each lane less)

-- -9 b + 93 c + 50 d - 6 e
number_three : (b c d e upper second three_b inner all sum : ℕ) → b < 256 → c < 256 → d < 256 → e < 256
    → upper ≡ c * 32 % 65536 → second ≡ d * 16 % 65536 → three_b ≡ 3 * b % 65536
    → inner ≡ ((((upper + (65536 - c)) % 65536 + second) % 65536 + (65536 - three_b)) % 65536 + (65536 - (e + e) % 65536)) % 65536
    → all ≡ 3 * inner % 65536 → sum ≡ (all + (d + d) % 65536) % 65536
    → (sum + 9 * b + 6 * e) % 65536 ≡ (93 * c + 50 * d) % 65536
number_three b c d e upper second three_b inner all sum small_b small_c small_d small_e upper_is second_is b_is inner_is all_is sum_is = omega arith

pub parts_three : (n : ℕ) (bs cs ds es uppers seconds three_bs alls : List ℕ) → length cs ≡ n → length ds ≡ n → length es ≡ n → length uppers ≡ n → length seconds ≡ n → length three_bs ≡ n → length alls ≡ n
    → AreSamples n bs × AreSamples n cs × AreSamples n ds × AreSamples n es
    → ((lane : ℕ) → lane < n → slice_index uppers lane ≡ slice_index cs lane * 2 ^ 5 % 65536)
    → ((lane : ℕ) → lane < n → slice_index seconds lane ≡ slice_index ds lane * 2 ^ 4 % 65536)
    → ((lane : ℕ) → lane < n → slice_index three_bs lane ≡ 3 * slice_index bs lane % 65536)
    → ((lane : ℕ) → lane < n → slice_index alls lane ≡ 3 * slice_index (minus (minus (plus (minus uppers cs) seconds) three_bs) (plus es es)) lane % 65536)
    → (lane : ℕ) → lane < n
    → (slice_index (plus alls (plus ds ds)) lane + 9 * slice_index bs lane + 6 * slice_index es lane) % 65536 ≡ (93 * slice_index cs lane + 50 * slice_index ds lane) % 65536
parts_three n bs cs ds es uppers seconds three_bs alls c d e upper second three_b all bytes upper_is second_is b_is all_is lane less =
    let inner = minus_lanes n _ _ _ _ (minus_lanes n _ _ _ _ (plus_lanes n _ _ _ _ (minus_lanes n _ _ _ _ (own n uppers upper) (own n cs c)) (own n seconds second)) (own n three_bs three_b)) (plus_lanes n _ _ _ _ (own n es e) (own n es e)) in
    let sum = plus_lanes n _ _ _ _ (own n alls all) (plus_lanes n _ _ _ _ (own n ds d) (own n ds d)) in
    number_three (slice_index bs lane) (slice_index cs lane) (slice_index ds lane) (slice_index es lane) (slice_index uppers lane) (slice_index seconds lane) (slice_index three_bs lane) _ (slice_index alls lane) _
    (bytes.0 lane less) (bytes.1 lane less) (bytes.2 lane less) (bytes.3 lane less)
    (upper_is lane less) (second_is lane less) (b_is lane less) (inner.each lane less) (all_is lane less) (sum.each lane less)

-- 3 a - 16 b + 77 c + 77 d - 16 e + 3 f
number_four : (a b c d e f middle upper inner high step three sum : ℕ) → a < 256 → b < 256 → c < 256 → d < 256 → e < 256 → f < 256
    → middle ≡ (c + d) % 65536 → upper ≡ middle * 4 % 65536 → inner ≡ ((upper + middle) % 65536 + (65536 - (b + e) % 65536)) % 65536 → high ≡ inner * 16 % 65536
    → step ≡ (middle + (65536 - (a + f) % 65536)) % 65536 → three ≡ 3 * step % 65536 → sum ≡ (high + (65536 - three)) % 65536
    → (sum + 16 * b + 16 * e) % 65536 ≡ (3 * a + 77 * c + 77 * d + 3 * f) % 65536
number_four a b c d e f middle upper inner high step three sum small_a small_b small_c small_d small_e small_f middle_is upper_is inner_is high_is step_is three_is sum_is = omega arith

pub parts_four : (n : ℕ) (as1 bs cs ds es fs uppers highs threes : List ℕ) → length as1 ≡ n → length bs ≡ n → length cs ≡ n → length ds ≡ n → length es ≡ n → length fs ≡ n → length uppers ≡ n → length highs ≡ n → length threes ≡ n
    → AreSamples n as1 × AreSamples n bs × AreSamples n cs × AreSamples n ds × AreSamples n es × AreSamples n fs
    → ((lane : ℕ) → lane < n → slice_index uppers lane ≡ slice_index (plus cs ds) lane * 2 ^ 2 % 65536)
    → ((lane : ℕ) → lane < n → slice_index highs lane ≡ slice_index (minus (plus uppers (plus cs ds)) (plus bs es)) lane * 2 ^ 4 % 65536)
    → ((lane : ℕ) → lane < n → slice_index threes lane ≡ 3 * slice_index (minus (plus cs ds) (plus as1 fs)) lane % 65536)
    → (lane : ℕ) → lane < n
    → (slice_index (minus highs threes) lane + 16 * slice_index bs lane + 16 * slice_index es lane) % 65536 ≡ (3 * slice_index as1 lane + 77 * slice_index cs lane + 77 * slice_index ds lane + 3 * slice_index fs lane) % 65536
parts_four n as1 bs cs ds es fs uppers highs threes a b c d e f upper high three bytes upper_is high_is three_is lane less =
    let middle = plus_lanes n _ _ _ _ (own n cs c) (own n ds d) in
    let inner = minus_lanes n _ _ _ _ (plus_lanes n _ _ _ _ (own n uppers upper) (own n (plus cs ds) middle.long)) (plus_lanes n _ _ _ _ (own n bs b) (own n es e)) in
    let step = minus_lanes n _ _ _ _ (own n (plus cs ds) middle.long) (plus_lanes n _ _ _ _ (own n as1 a) (own n fs f)) in
    let sum = minus_lanes n _ _ _ _ (own n highs high) (own n threes three) in
    number_four (slice_index as1 lane) (slice_index bs lane) (slice_index cs lane) (slice_index ds lane) (slice_index es lane) (slice_index fs lane) (slice_index (plus cs ds) lane) (slice_index uppers lane) _ (slice_index highs lane) _ (slice_index threes lane) _
    (bytes.0 lane less) (bytes.1 lane less) (bytes.2 lane less) (bytes.3 lane less) (bytes.4 lane less) (bytes.5 lane less)
    (middle.each lane less) (upper_is lane less) (inner.each lane less) (high_is lane less) (step.each lane less) (three_is lane less) (sum.each lane less)

-- sums that are raised and lowered again, clamped at 0
pub raised_lanes : (n : ℕ) (sums : List ℕ) → length sums ≡ n → (lane : ℕ) → lane < n → slice_index (zip2 (λ a b. a - b) (plus sums (replicate n 8256)) (replicate n 8192)) lane ≡ (slice_index sums lane + 8256) % 65536 - 8192
raised_lanes n sums long = (combined (λ a b. a - b) n _ _ _ _ (plus_lanes n _ _ _ _ (own n sums long) (splat n 8256)) (splat n 8192)).each
