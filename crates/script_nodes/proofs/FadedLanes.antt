-- Samples at a weight, in lanes of 16 bits.
use Rattle.std.specs.Prelude.{replicate, slice_index}
use Rattle.std.proofs.Common.{◌≡◌, ℕ, zero, suc, ◌+◌, ◌-◌, ◌*◌, ◌/◌, ◌%◌, ◌^◌, ◌<◌, ◌≤◌, List, [], ◌∷◌, map, length, get_or, refl, ap, subst, ◌∙◌, arith, w8, Fits}
use lib.Lanes.{Each1, zip2, chunk}
use Rattle.std.proofs.Math.Nat.{mul_comm, mul-le-mul_left}
use Rattle.std.proofs.lemmas.Simd.{length-chunk, get_or-chunk}
use Rattle.script_nodes.specs.Shown.{weighed}

-- products with a weight, to which a number is added, in 256ths rounded down
abbrev pub shifted : ℕ → List ℕ → ℕ → ℕ → List ℕ
shifted n xs weight rest =
    zip2 (λ a b. a / 2 ^ b) (zip2 (λ a b. (a + b) % 65536) (zip2 (λ a b. a * b % 65536) (map (λ (a : ℕ). a) xs) (replicate n weight)) (replicate n rest)) (replicate n 8)

-- one lane of it
abbrev pub lane_of : ℕ → ℕ → ℕ → ℕ
lane_of weight rest sample = (sample * weight % 65536 + rest) % 65536 / 256

shifted_lanes : (xs : List ℕ) (weight rest : ℕ) → shifted (length xs) xs weight rest ≡ map (lane_of weight rest) xs
shifted_lanes [] weight rest = refl
shifted_lanes (x ∷ xs) weight rest = ap (λ (l : List ℕ). lane_of weight rest x ∷ l) (shifted_lanes xs weight rest)

lanes_fit : (xs : List ℕ) (weight rest : ℕ) → Each1 (Fits w8) (map (lane_of weight rest) xs)
lanes_fit [] weight rest = tt
lanes_fit (x ∷ xs) weight rest = let small : lane_of weight rest x < 256 = omega arith in (record { fits = small }, lanes_fit xs weight rest)

-- each lane fits 8 bits
pub shifted_fit : (n start : ℕ) (xs : List ℕ) (weight rest : ℕ) → start + n ≤ length xs → Each1 (Fits w8) (shifted n (chunk start n xs) weight rest)
shifted_fit n start xs weight rest room =
    subst (λ (m : ℕ). Each1 (Fits w8) (shifted m (chunk start n xs) weight rest)) (length-chunk start n xs room)
    (rw (shifted_lanes (chunk start n xs) weight rest) (lanes_fit (chunk start n xs) weight rest))

-- nothing is lost in 16 bits
lane_is : (weight dark sample : ℕ) → weight ≤ 256 → dark < 256 → sample < 256 → lane_of weight ((256 - weight) * dark + 128) sample ≡ weighed weight dark sample
lane_is weight dark sample weights darks samples =
    let product : sample * weight ≡ weight * sample = mul_comm sample weight in
    let few : weight * sample ≤ weight * 255 = mul-le-mul_left weight (omega arith) in
    let more : (256 - weight) * dark ≤ (256 - weight) * 255 = mul-le-mul_left (256 - weight) (omega arith) in
    rw product (omega arith)

lane_at : (f : ℕ → ℕ) (xs : List ℕ) (k : ℕ) → k < length xs → get_or (map f xs) k 0 ≡ f (get_or xs k 0)
lane_at f [] k h = absurd (omega arith)
lane_at f (x ∷ xs) zero h = refl
lane_at f (x ∷ xs) (suc k) h = lane_at f xs k (omega arith)

-- each lane is its sample at the weight
pub faded_lane : (n start : ℕ) (xs : List ℕ) (weight dark lane : ℕ) → start + n ≤ length xs → weight ≤ 256 → dark < 256 → ((k : ℕ) → get_or xs k 0 < 256) → lane < n → slice_index (map (λ (a : ℕ). a) (shifted n (chunk start n xs) weight ((256 - weight) * dark + 128))) lane ≡ weighed weight dark (slice_index xs (start + lane))
faded_lane n start xs weight dark lane room weights darks samples less =
    let rest : ℕ = (256 - weight) * dark + 128 in
    let part : List ℕ = chunk start n xs in
    let long : length part ≡ n = length-chunk start n xs room in
    let all : shifted n part weight rest ≡ map (lane_of weight rest) part = subst (λ (m : ℕ). shifted m part weight rest ≡ map (lane_of weight rest) part) long (shifted_lanes part weight rest) in
    let same : map (λ (a : ℕ). a) (shifted n part weight rest) ≡ shifted n part weight rest = map_same (shifted n part weight rest) in
    ap (λ (l : List ℕ). get_or l lane 0) (same ∙ all)
    ∙ lane_at (lane_of weight rest) part lane (omega (arith, long))
    ∙ ap (lane_of weight rest) (get_or-chunk start n xs lane 0 less)
    ∙ lane_is weight dark (get_or xs (start + lane) 0) weights darks (samples (start + lane))
  where
    map_same : (l : List ℕ) → map (λ (a : ℕ). a) l ≡ l
    map_same [] = refl
    map_same (x ∷ l) = ap (λ (k : List ℕ). x ∷ k) (map_same l)
