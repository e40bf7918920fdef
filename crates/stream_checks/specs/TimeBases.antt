-- The time base of a file: the unit of its time stamps.
use Rattle.std.specs.Prelude.{◌≡◌, ℕ, ◌*◌, ◌==◌, ◌||◌, if◌then◌else◌}
use Rattle.std.specs.Int.{IsGcd}
use Rattle.stream_files.specs.declared.streams.Head.{Head}
use Rattle.stream_checks.specs.declared.time_bases.TimeBase.{TimeBase}

-- a fraction in lowest terms: both numbers divided by their greatest common divisor
pub record IsLowest (numerator denominator : ℕ) (base : TimeBase) : Type 0 where
  pub divisor : ℕ
  pub greatest : IsGcd numerator denominator divisor
  pub top : base.numerator * divisor ≡ numerator
  pub bottom : base.denominator * divisor ≡ denominator

-- a time stamp counts scale / rate seconds, or 1/30 if either of them is 0, as the YUV4MPEG2 text of the file has it
abbrev pub unit_of : Head → ℕ × ℕ
unit_of head = if head.rate == 0 || head.scale == 0 then (1, 30) else (head.scale, head.rate)

abbrev pub IsTimeBase : Head → TimeBase → Type 0
IsTimeBase head base = IsLowest (unit_of head).0 (unit_of head).1 base
