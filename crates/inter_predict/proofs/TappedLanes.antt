-- Lanes of 16 bits: products of samples with taps, and sums of these.
use Rattle.std.specs.Prelude.{min, replicate, slice_index}
use Rattle.std.proofs.Common.{◌≡◌, ℕ, ◌+◌, ◌-◌, ◌<◌, ◌≤◌, ◌*◌, ◌/◌, ◌%◌, List, length, refl, ap, subst, sym, ◌∙◌, arith}
use lib.Lanes.{zip2}
use Rattle.std.proofs.Math.Nat.{mul-le-mul_right}
use Rattle.std.proofs.lemmas.List.{get_or-replicate, length-replicate}
use Rattle.std.proofs.lemmas.Simd.{length-zip2, get_or-zip2}
use Rattle.inter_predict.specs.declared.taps.Taps.{Taps}
use Rattle.inter_predict.specs.Kernels.{IsLine, IsTaps, tapped, tapped_from}

-- products with a tap, and sums
abbrev pub times : ℕ → List ℕ → ℕ → List ℕ
times n xs tap = zip2 (λ a b. a * b % 65536) xs (replicate n tap)

abbrev pub plus : List ℕ → List ℕ → List ℕ
plus xs ys = zip2 (λ a b. (a + b) % 65536) xs ys

-- so many lanes, each the value of a function of its index
pub record IsLanes (n : ℕ) (at : ℕ → ℕ) (xs : List ℕ) : Type 0 where
  pub long : length xs ≡ n
  pub each : (lane : ℕ) → lane < n → slice_index xs lane ≡ at lane

pub splat : (n value : ℕ) → IsLanes n (λ lane. value) (replicate n value)
splat n value = record { long = length-replicate n value; each = λ lane less. get_or-replicate n lane value 0 less }

-- what is done to each lane
pub combined : (f : ℕ → ℕ → ℕ) (n : ℕ) (at at' : ℕ → ℕ) (xs ys : List ℕ) → IsLanes n at xs → IsLanes n at' ys → IsLanes n (λ lane. f (at lane) (at' lane)) (zip2 f xs ys)
combined f n at at' xs ys left right = record {
  long = length-zip2 f xs ys (left.long ∙ sym right.long) ∙ left.long;
  each = λ lane less. get_or-zip2 f xs ys lane 0 0 0 (rw left.long less) (rw right.long less) ∙ rw (left.each lane less, right.each lane less) refl;
}

-- the same lanes by another function
same : (n : ℕ) (at at' : ℕ → ℕ) (xs : List ℕ) → IsLanes n at xs → ((lane : ℕ) → lane < n → at lane ≡ at' lane) → IsLanes n at' xs
same n at at' xs lanes is = record { long = lanes.long; each = λ lane less. lanes.each lane less ∙ is lane less }

-- a product of a sample and a tap
product : (x tap : ℕ) → x < 256 → x * tap ≤ 255 * tap
product x tap small = mul-le-mul_right tap (omega arith)

-- products with a tap, if all fit 16 bits
multiplied : (n tap : ℕ) (at : ℕ → ℕ) (xs : List ℕ) → IsLanes n at xs → tap ≤ 160 → ((lane : ℕ) → lane < n → at lane < 256) → IsLanes n (λ lane. at lane * tap) (times n xs tap)
multiplied n tap at xs lanes few bytes =
    same n _ _ (times n xs tap) (combined (λ a b. a * b % 65536) n at (λ lane. tap) xs (replicate n tap) lanes (splat n tap))
    (λ lane less. let small = product (at lane) tap (bytes lane less) in omega arith)

-- sums, if all fit 16 bits
summed : (n : ℕ) (at at' : ℕ → ℕ) (xs ys : List ℕ) → IsLanes n at xs → IsLanes n at' ys → ((lane : ℕ) → lane < n → at lane + at' lane < 65536) → IsLanes n (λ lane. at lane + at' lane) (plus xs ys)
summed n at at' xs ys left right fits = same n _ _ (plus xs ys) (combined (λ a b. (a + b) % 65536) n at at' xs ys left right) (λ lane less. let small = fits lane less in omega arith)

-- the lanes of a list
pub own : (n : ℕ) (xs : List ℕ) → length xs ≡ n → IsLanes n (slice_index xs) xs
own n xs long = record { long = long; each = λ lane less. refl }

-- the products of the middle taps, and 64
pub middle_lanes : (n : ℕ) (t : Taps) (cs ds : List ℕ) → IsTaps t → length cs ≡ n → length ds ≡ n → ((lane : ℕ) → lane < n → (slice_index cs lane < 256) × (slice_index ds lane < 256)) → (lane : ℕ) → lane < n
    → slice_index (plus (plus (times n cs t.c) (times n ds t.d)) (replicate n 64)) lane ≡ slice_index cs lane * t.c + slice_index ds lane * t.d + 64
middle_lanes n t cs ds small c d bytes =
    let bound : (lane : ℕ) → lane < n → slice_index cs lane * t.c + slice_index ds lane * t.d ≤ 255 * 160 = λ lane less.
    let pc = product (slice_index cs lane) t.c (bytes lane less).0 in
    let pd = product (slice_index ds lane) t.d (bytes lane less).1 in
    omega (arith, small.added) in
    let mc = multiplied n t.c _ cs (own n cs c) (omega (arith, small.added)) (λ lane less. (bytes lane less).0) in
    let md = multiplied n t.d _ ds (own n ds d) (omega (arith, small.added)) (λ lane less. (bytes lane less).1) in
    let two = summed n _ _ _ _ mc md (λ lane less. let b = bound lane less in omega arith) in
    let all = summed n _ _ _ _ two (splat n 64) (λ lane less. let b = bound lane less in omega arith) in
    all.each

-- all products that a filter adds, and 64
pub added_lanes : (n : ℕ) (t : Taps) (ms as1 cs ds fs : List ℕ) → IsTaps t → length ms ≡ n → length as1 ≡ n → length fs ≡ n
    → ((lane : ℕ) → lane < n → (slice_index as1 lane < 256) × (slice_index cs lane < 256) × (slice_index ds lane < 256) × (slice_index fs lane < 256))
    → ((lane : ℕ) → lane < n → slice_index ms lane ≡ slice_index cs lane * t.c + slice_index ds lane * t.d + 64) → (lane : ℕ) → lane < n
    → slice_index (plus (plus ms (times n as1 t.a)) (times n fs t.f)) lane
    ≡ slice_index as1 lane * t.a + slice_index cs lane * t.c + slice_index ds lane * t.d + slice_index fs lane * t.f + 64
added_lanes n t ms as1 cs ds fs small m a f bytes middle lane less =
    let bound : (lane : ℕ) → lane < n → slice_index as1 lane * t.a + slice_index cs lane * t.c + slice_index ds lane * t.d + slice_index fs lane * t.f ≤ 255 * 160 = λ lane less.
    let pa = product (slice_index as1 lane) t.a (bytes lane less).0 in
    let pc = product (slice_index cs lane) t.c (bytes lane less).1 in
    let pd = product (slice_index ds lane) t.d (bytes lane less).2 in
    let pf = product (slice_index fs lane) t.f (bytes lane less).3 in
    omega (arith, small.added) in
    let held : IsLanes n (λ lane. slice_index cs lane * t.c + slice_index ds lane * t.d + 64) ms = record { long = m; each = middle } in
    let ma = multiplied n t.a _ as1 (own n as1 a) (omega (arith, small.added)) (λ lane less. (bytes lane less).0) in
    let mf = multiplied n t.f _ fs (own n fs f) (omega (arith, small.added)) (λ lane less. (bytes lane less).3) in
    let three = summed n _ _ _ _ held ma (λ lane less. let b = bound lane less in omega arith) in
    let all = summed n _ _ _ _ three mf (λ lane less. let b = bound lane less in omega arith) in
    all.each lane less ∙ omega arith

-- the products that it subtracts
pub taken_lanes : (n : ℕ) (t : Taps) (bs es : List ℕ) → IsTaps t → length bs ≡ n → length es ≡ n → ((lane : ℕ) → lane < n → (slice_index bs lane < 256) × (slice_index es lane < 256)) → (lane : ℕ) → lane < n
    → slice_index (plus (times n bs t.b) (times n es t.e)) lane ≡ slice_index bs lane * t.b + slice_index es lane * t.e
taken_lanes n t bs es small b e bytes =
    let mb = multiplied n t.b _ bs (own n bs b) (omega (arith, small.taken)) (λ lane less. (bytes lane less).0) in
    let me = multiplied n t.e _ es (own n es e) (omega (arith, small.taken)) (λ lane less. (bytes lane less).1) in
    let all = summed n _ _ _ _ mb me (λ lane less.
    let pb = product (slice_index bs lane) t.b (bytes lane less).0 in
    let pe = product (slice_index es lane) t.e (bytes lane less).1 in
    omega (arith, small.taken)) in
    all.each

-- what both sums leave
pub rest_lanes : (n : ℕ) (added taken : List ℕ) → length added ≡ n → length taken ≡ n → (lane : ℕ) → lane < n → slice_index (zip2 (λ a b. a - b) added taken) lane ≡ slice_index added lane - slice_index taken lane
rest_lanes n added taken long long' lane less = (combined (λ a b. a - b) n _ _ added taken (own n added long) (own n taken long')).each lane less

-- the sample that a filter returns, by one lane of both sums
pub tapped_lane : (t : Taps) (s : ℕ → ℕ) (a b c d e f added taken : ℕ) → a ≡ s 0 → b ≡ s 1 → c ≡ s 2 → d ≡ s 3 → e ≡ s 4 → f ≡ s 5
    → added ≡ a * t.a + c * t.c + d * t.d + f * t.f + 64 → taken ≡ b * t.b + e * t.e → min ((added - taken) / 128) 255 ≡ tapped t s
unfolding tapped
tapped_lane t s a b c d e f added taken at0 at1 at2 at3 at4 at5 sum less = rw (sum, less, at0, at1, at2, at3, at4, at5) refl

-- the same, if the first tap and the last are 0
four_lane : (t : Taps) (s : ℕ → ℕ) (b c d e added taken : ℕ) → t.a ≡ 0 → t.f ≡ 0 → b ≡ s 1 → c ≡ s 2 → d ≡ s 3 → e ≡ s 4
    → added ≡ c * t.c + d * t.d + 64 → taken ≡ b * t.b + e * t.e → min ((added - taken) / 128) 255 ≡ tapped t s
unfolding tapped
four_lane t s b c d e added taken no_a no_f at1 at2 at3 at4 sum less =
    let first : s 0 * t.a ≡ 0 = rw no_a (omega arith) in
    let last : s 5 * t.f ≡ 0 = rw no_f (omega arith) in
    let all : s 0 * t.a + s 2 * t.c + s 3 * t.d + s 5 * t.f + 64 ≡ s 2 * t.c + s 3 * t.d + 64 = omega (arith, first, last) in
    rw (sum, less, at1, at2, at3, at4, all) refl

-- the same, if all taps but the middle two are 0
two_lane : (t : Taps) (s : ℕ → ℕ) (c d added : ℕ) → t.a ≡ 0 → t.b ≡ 0 → t.e ≡ 0 → t.f ≡ 0 → c ≡ s 2 → d ≡ s 3 → added ≡ c * t.c + d * t.d + 64 → min (added / 128) 255 ≡ tapped t s
unfolding tapped
two_lane t s c d added no_a no_b no_e no_f at2 at3 sum =
    let first : s 0 * t.a ≡ 0 = rw no_a (omega arith) in
    let second : s 1 * t.b ≡ 0 = rw no_b (omega arith) in
    let fifth : s 4 * t.e ≡ 0 = rw no_e (omega arith) in
    let last : s 5 * t.f ≡ 0 = rw no_f (omega arith) in
    let all : s 0 * t.a + s 2 * t.c + s 3 * t.d + s 5 * t.f + 64 - (s 1 * t.b + s 4 * t.e) ≡ s 2 * t.c + s 3 * t.d + 64 = omega (arith, first, second, fifth, last) in
    rw (sum, at2, at3, all) refl

-- a line by another number
pub moved : (n : ℕ) (sample : ℕ → ℕ → ℕ) (i j : ℕ) (lanes : List ℕ) → i ≡ j → IsLine n (sample i) lanes → IsLine n (sample j) lanes
moved n sample i j lanes same line = subst (λ (k : ℕ). IsLine n (sample k) lanes) same line

-- five lines, the first of number `row`
pub record AreLines (n : ℕ) (sample : ℕ → ℕ → ℕ) (row : ℕ) (a b c d e : List ℕ) : Type 0 where
  pub first : IsLine n (sample row) a
  pub second : IsLine n (sample (row + 1)) b
  pub third : IsLine n (sample (row + 2)) c
  pub fourth : IsLine n (sample (row + 3)) d
  pub fifth : IsLine n (sample (row + 4)) e

-- the five lines after the first
pub next_lines : (n : ℕ) (sample : ℕ → ℕ → ℕ) (row : ℕ) (a b c d e f : List ℕ) → AreLines n sample row a b c d e → IsLine n (sample (row + 5)) f → AreLines n sample (row + 1) b c d e f
next_lines n sample row a b c d e f lines sixth = record {
  first = lines.second;
  second = moved n sample (row + 2) (row + 1 + 1) c (omega arith) lines.third;
  third = moved n sample (row + 3) (row + 1 + 2) d (omega arith) lines.fourth;
  fourth = moved n sample (row + 4) (row + 1 + 3) e (omega arith) lines.fifth;
  fifth = moved n sample (row + 5) (row + 1 + 4) f (omega arith) sixth;
}

-- a filter down by six taps, by one lane of its sums
pub six_down : (n : ℕ) (t : Taps) (sample : ℕ → ℕ → ℕ) (row : ℕ) (a b c d e f : List ℕ) → AreLines n sample row a b c d e → IsLine n (sample (row + 5)) f → (added taken lane : ℕ) → lane < n
    → added ≡ slice_index a lane * t.a + slice_index c lane * t.c + slice_index d lane * t.d + slice_index f lane * t.f + 64 → taken ≡ slice_index b lane * t.b + slice_index e lane * t.e
    → min ((added - taken) / 128) 255 ≡ tapped_from t sample lane row
six_down n t sample row a b c d e f lines sixth added taken lane less sum rest =
    let here : row ≡ row + 0 = omega arith in
    tapped_lane t (λ k. sample (row + k) lane) _ _ _ _ _ _ added taken (lines.first.value lane less ∙ ap (λ (r : ℕ). sample r lane) here) (lines.second.value lane less) (lines.third.value lane less) (lines.fourth.value lane less) (lines.fifth.value lane less) (sixth.value lane less) sum rest

-- three lines, the first of number `row` + 1
pub record AreThree (n : ℕ) (sample : ℕ → ℕ → ℕ) (row : ℕ) (b c d : List ℕ) : Type 0 where
  pub second : IsLine n (sample (row + 1)) b
  pub third : IsLine n (sample (row + 2)) c
  pub fourth : IsLine n (sample (row + 3)) d

-- the three lines after the first
pub next_three : (n : ℕ) (sample : ℕ → ℕ → ℕ) (row : ℕ) (b c d e : List ℕ) → AreThree n sample row b c d → IsLine n (sample (row + 4)) e → AreThree n sample (row + 1) c d e
next_three n sample row b c d e lines fifth = record {
  second = moved n sample (row + 2) (row + 1 + 1) c (omega arith) lines.third;
  third = moved n sample (row + 3) (row + 1 + 2) d (omega arith) lines.fourth;
  fourth = moved n sample (row + 4) (row + 1 + 3) e (omega arith) fifth;
}

-- a filter down by four taps, by one lane of its sums
pub four_down : (n : ℕ) (t : Taps) (sample : ℕ → ℕ → ℕ) (row : ℕ) (b c d e : List ℕ) → t.a ≡ 0 → t.f ≡ 0 → AreThree n sample row b c d → IsLine n (sample (row + 4)) e → (added taken lane : ℕ) → lane < n
    → added ≡ slice_index c lane * t.c + slice_index d lane * t.d + 64 → taken ≡ slice_index b lane * t.b + slice_index e lane * t.e → min ((added - taken) / 128) 255 ≡ tapped_from t sample lane row
four_down n t sample row b c d e no_a no_f lines fifth added taken lane less sum rest =
    four_lane t (λ k. sample (row + k) lane) _ _ _ _ added taken no_a no_f (lines.second.value lane less) (lines.third.value lane less) (lines.fourth.value lane less) (fifth.value lane less) sum rest

-- a filter down by two taps, by one lane of its sum
pub two_down : (n : ℕ) (t : Taps) (sample : ℕ → ℕ → ℕ) (row : ℕ) (c d : List ℕ) → t.a ≡ 0 → t.b ≡ 0 → t.e ≡ 0 → t.f ≡ 0 → IsLine n (sample (row + 2)) c → IsLine n (sample (row + 3)) d → (added lane : ℕ) → lane < n
    → added ≡ slice_index c lane * t.c + slice_index d lane * t.d + 64 → min (added / 128) 255 ≡ tapped_from t sample lane row
two_down n t sample row c d no_a no_b no_e no_f third fourth added lane less sum =
    two_lane t (λ k. sample (row + k) lane) _ _ added no_a no_b no_e no_f (third.value lane less) (fourth.value lane less) sum
