-- The bits of each field are the booleans that it takes, and are read up to where it ends.
use Rattle.std.proofs.Common.{◌≡◌, ℕ, zero, suc, ◌+◌, ◌*◌, Bool, true, false, ℤ, pos, List, [], ◌∷◌, Some, None, refl, sym, ap, ◌∙◌, arith}
use Rattle.std.specs.Prelude.{slice_index, slice_set, neg_ℤ, ◌==◌, if◌then◌else◌}
use Rattle.std.specs.Int.{from_bool}
use Rattle.bool_coder.specs.Reader.{Reader, read}
use Rattle.bool_coder.specs.Reading.{Reading, ◌>>=◌, give, flag, literal, more_bits, signed}
use Rattle.frame_header.specs.Fields.{delta, map_probability}
use Rattle.frame_header.specs.InterFields.{vector_probability, y_modes, uv_modes}
use Rattle.frame_header.specs.TrailingFields.{skip_probability, updated}
use Rattle.frame_header.specs.Updates.{first_updated}
use Rattle.header_bits.specs.Bits.{optional, optional_at, skip, update_bits}
use Rattle.header_bits.proofs.TakesLemmas.{Takes, bind-takes, counted-as, flag-takes, give-takes, if-takes, read-takes}

-- a reading takes so many booleans, and another one ends where it does
pub record Measured {A B : Type 0} (reading : Reading A) (walk : Reading B) (count : Reader → ℕ) : Type 0 where
  pub takes : Takes reading count
  pub ends : (s : Reader) → (walk s).1 ≡ (reading s).1

-- L(n)
more_bits-takes : (n value : ℕ) → Takes (more_bits n value) (λ r. n)
unfolding more_bits
more_bits-takes zero value = give-takes value
more_bits-takes (suc n) value = counted-as (λ r. suc n) (bind-takes flag-takes (λ bit. more_bits-takes n (2 * value + from_bool bit))) (λ s. omega arith)

skip-front : (n : ℕ) (s : Reader) → (skip (suc n) s).1 ≡ (skip n (flag s).1).1
unfolding skip
skip-front zero s = refl
skip-front (suc n) s = ap (λ (t : Reader). (flag t).1) (skip-front n s)

more_bits-ends : (n value : ℕ) (s : Reader) → (skip n s).1 ≡ (more_bits n value s).1
unfolding more_bits skip
more_bits-ends zero value s = refl
more_bits-ends (suc n) value s = skip-front n s ∙ more_bits-ends n (2 * value + from_bool (flag s).0) (flag s).1

pub literal-takes : (n : ℕ) → Takes (literal n) (λ r. n)
unfolding literal
literal-takes n = more_bits-takes n 0

pub literal-ends : (n : ℕ) (s : Reader) → (skip n s).1 ≡ (literal n s).1
unfolding literal
literal-ends n s = more_bits-ends n 0 s

pub literal-measured : (n : ℕ) → Measured (literal n) (skip n) (λ r. n)
literal-measured n = record { takes = literal-takes n; ends = literal-ends n }

skip-count : (n : ℕ) (s : Reader) → (skip n s).0 ≡ n
unfolding skip
skip-count zero s = refl
skip-count (suc n) s = rw (skip-count n s) (omega arith)

-- a magnitude and a sign
magnitude-measured : {A : Type 0} (n : ℕ) (f : ℕ → Bool → A) → Measured (literal n >>= (λ m. flag >>= (λ b. give (f m b)))) (skip (suc n)) (λ r. suc n)
unfolding skip
magnitude-measured n f = record {
  takes = counted-as (λ r. suc n) (bind-takes (literal-takes n) (λ m. bind-takes flag-takes (λ b. give-takes (f m b)))) (λ s. omega arith);
  ends = λ s. ap (λ (t : Reader). (flag t).1) (literal-ends n s);
}

-- a number, of which something is made
made-measured : {A : Type 0} (n : ℕ) (f : ℕ → A) → Measured (literal n >>= (λ m. give (f m))) (skip n) (λ r. n)
made-measured n f = record {
  takes = counted-as (λ r. n) (bind-takes (literal-takes n) (λ m. give-takes (f m))) (λ s. omega arith);
  ends = literal-ends n;
}

-- an optional field
coded-bits : (coded : Bool) (more : ℕ) (s : Reader) → 1 + (if coded then more else 0) ≡ ((if coded then (skip more >>= (λ bits. give (1 + bits))) else give 1) s).0
coded-bits true more s = ap (λ (n : ℕ). 1 + n) (sym (skip-count more s))
coded-bits false more s = refl

coded-ends : {A : Type 0} (coded : Bool) (more : ℕ) (coding : Reading A) (x : A) (s : Reader) → ((s : Reader) → (skip more s).1 ≡ (coding s).1) → ((if coded then (skip more >>= (λ bits. give (1 + bits))) else give 1) s).1 ≡ ((if coded then coding else give x) s).1
coded-ends true more coding x s same = same s
coded-ends false more coding x s same = refl

optional-measured : {A : Type 0} (prob more : ℕ) (coding : Reading A) (x : A) → Measured coding (skip more) (λ r. more) → Measured (read prob >>= (λ b. if b then coding else give x)) (optional_at prob more) (λ r. (optional_at prob more r).0)
unfolding optional_at
optional-measured prob more coding x is = record {
  takes = counted-as (λ r. (optional_at prob more r).0) (bind-takes (read-takes prob) (λ b. if-takes b is.takes (give-takes x))) (λ s. coded-bits (read prob s).0 more (read prob s).1);
  ends = λ s. coded-ends (read prob s).0 more coding x (read prob s).1 is.ends;
}

-- the kinds of optional fields
abbrev pub IsOptional : {A : Type 0} → Reading A → ℕ → Type 0
IsOptional reading more = Measured reading (optional more) (λ r. (optional more r).0)

pub signed-optional : (n : ℕ) → IsOptional (signed n) (suc n)
unfolding signed
signed-optional n = optional-measured 128 (suc n) _ (pos 0) (magnitude-measured n (λ m b. if b then neg_ℤ (pos m) else pos m))

pub delta-optional : (before : ℤ) → IsOptional (delta before) 7
unfolding delta
delta-optional before = optional-measured 128 7 _ before (magnitude-measured 6 (λ m b. if b then neg_ℤ (pos m) else pos m))

pub map_probability-optional : IsOptional map_probability 8
unfolding map_probability
map_probability-optional = optional-measured 128 8 (literal 8) 255 (literal-measured 8)

pub skip_probability-optional : IsOptional skip_probability 8
unfolding skip_probability
skip_probability-optional = optional-measured 128 8 _ None (made-measured 8 (λ prob. Some prob))

four-literals : (s : Reader) → (skip 32 s).1 ≡ (literal 8 (literal 8 (literal 8 (literal 8 s).1).1).1).1
unfolding skip literal more_bits
four-literals s = refl

pub y_modes-optional : (before : List ℕ) → IsOptional (y_modes before) 32
unfolding y_modes
y_modes-optional before = optional-measured 128 32 _ before (record {
  takes = bind-takes (literal-takes 8) (λ a. bind-takes (literal-takes 8) (λ b. bind-takes (literal-takes 8) (λ c. bind-takes (literal-takes 8) (λ d. give-takes (a ∷ b ∷ c ∷ d ∷ [])))));
  ends = four-literals;
})

three-literals : (s : Reader) → (skip 24 s).1 ≡ (literal 8 (literal 8 (literal 8 s).1).1).1
unfolding skip literal more_bits
three-literals s = refl

pub uv_modes-optional : (before : List ℕ) → IsOptional (uv_modes before) 24
unfolding uv_modes
uv_modes-optional before = optional-measured 128 24 _ before (record {
  takes = bind-takes (literal-takes 8) (λ a. bind-takes (literal-takes 8) (λ b. bind-takes (literal-takes 8) (λ c. give-takes (a ∷ b ∷ c ∷ []))));
  ends = three-literals;
})

-- updates of probabilities
abbrev pub IsUpdate : (ℕ → ℕ → Reading ℕ) → ℕ → Type 0
IsUpdate way more = (update before : ℕ) → Measured (way update before) (optional_at update more) (λ r. (optional_at update more r).0)

pub updated-update : IsUpdate updated 8
unfolding updated
updated-update update before = optional-measured update 8 (literal 8) before (literal-measured 8)

pub vector_probability-update : IsUpdate vector_probability 7
unfolding vector_probability
vector_probability-update update before = optional-measured update 7 _ before (made-measured 7 (λ half. if half == 0 then 1 else 2 * half))

pub updates-measured : (way : ℕ → ℕ → Reading ℕ) (more : ℕ) → IsUpdate way more → (count : ℕ) (updates before : List ℕ) → Measured (first_updated way count updates before) (update_bits more count updates) (λ r. (update_bits more count updates r).0)
unfolding first_updated update_bits
updates-measured way more is zero updates before = record { takes = give-takes before; ends = λ s. refl }
updates-measured way more is (suc place) updates before =
    let rest = updates-measured way more is place updates before in
    let u : ℕ = slice_index updates place in
    record {
      takes = counted-as (λ r. (update_bits more (suc place) updates r).0)
          (bind-takes rest.takes (λ done. bind-takes (is u (slice_index done place)).takes (λ here. give-takes (slice_set done place here))))
          (λ s. rw (rest.ends s) (omega arith));
      ends = λ s. rw (rest.ends s) ((is u (slice_index (first_updated way place updates before s).0 place)).ends (first_updated way place updates before s).1);
    }
