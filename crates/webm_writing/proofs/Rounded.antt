-- Times are rounded.
use Rattle.std.proofs.Common.{◌≡◌, ℕ, ◌+◌, ◌*◌, ◌/◌, ◌%◌, ◌<◌, ◌≤◌, arith}
use Rattle.std.proofs.Math.Nat.{div-add-mod, div-mul-le_self, mod-lt, mul-le-mul_left}
use Rattle.std.proofs.lemmas.Nat.{le-div}
use Rattle.stream_files.specs.declared.streams.Head.{Head}
use Rattle.webm_writing.specs.Entries.{time_of}

-- of numbers: a quotient by twice the rate, of a number with the rate added
rounded : (units rate : ℕ) → 0 < rate
    → (2 * (rate * ((2000 * units + rate) / (2 * rate))) ≤ 2 * (1000 * units) + rate) × (2 * (1000 * units) < 2 * (rate * ((2000 * units + rate) / (2 * rate))) + rate)
rounded units rate some =
    let n : ℕ = 2000 * units + rate in
    let m : ℕ = 2 * rate in
    let q : ℕ = n / m in
    let whole : m * q + n % m ≡ n = div-add-mod n m in
    let more : 0 < m = omega (arith, some) in
    let less : n % m < m = mod-lt n {m = m} more in
    (omega (arith, whole, less, some), omega (arith, whole, less, some))

pub early : (head : Head) (stamp : ℕ) → 0 < head.rate → 2 * (head.rate * time_of head stamp) ≤ 2 * (1000 * (head.scale * stamp)) + head.rate
early head stamp some = (rounded (head.scale * stamp) head.rate some).0

pub late : (head : Head) (stamp : ℕ) → 0 < head.rate → 2 * (1000 * (head.scale * stamp)) < 2 * (head.rate * time_of head stamp) + head.rate
late head stamp some = (rounded (head.scale * stamp) head.rate some).1

pub order : (head : Head) (stamp other : ℕ) → 0 < head.rate → stamp ≤ other → time_of head stamp ≤ time_of head other
order head stamp other some before =
    let n : ℕ = 2000 * (head.scale * stamp) + head.rate in
    let m : ℕ = 2 * head.rate in
    let more : 0 < m = omega (arith, some) in
    let units : head.scale * stamp ≤ head.scale * other = mul-le-mul_left head.scale before in
    let less : n / m * m ≤ n = div-mul-le_self n m in
    le-div (n / m) (2000 * (head.scale * other) + head.rate) m more (omega (arith, units, less))
