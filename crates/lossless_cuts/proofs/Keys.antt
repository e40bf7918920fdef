-- The last key packet before an index.
use Rattle.std.proofs.Common.{◌≡◌, ℕ, zero, suc, ◌+◌, ◌≤◌, ◌<◌, Bool, true, false, cond, List, Option, Some, None, refl, sym, ap, ◌∙◌, arith, inl, inr}
use Rattle.std.specs.Prelude.{unwrap_or}
use Rattle.std.proofs.lemmas.Bool.{cases_Bool, cases_eq, cases_order}
use Rattle.packet_edits.specs.Nearest.{IsLast, IsLastAt}
use Rattle.packet_edits.specs.Sizes.{key_tag_at}
use Rattle.lossless_cuts.specs.Plans.{key_place, last_key}

-- the last index with a key tag below n
pub record IsLastKey (packets : List (List ℕ)) (n k : ℕ) : Type 0 where
  pub below : k < n
  pub key : key_tag_at packets k ≡ true
  pub none : (j : ℕ) → k < j → j < n → key_tag_at packets j ≡ false

-- there is one, or no packet below n has a key tag
pub data FindsKey (packets : List (List ℕ)) (n : ℕ) : Type 0 where
  finds_at : (k : ℕ) → last_key packets n ≡ Some k → IsLastKey packets n k → FindsKey packets n
  finds_none : last_key packets n ≡ None → ((j : ℕ) → j < n → key_tag_at packets j ≡ false) → FindsKey packets n

later_plain : (packets : List (List ℕ)) (n k j : ℕ) → key_tag_at packets n ≡ false → IsLastKey packets n k → k < j → j < suc n → key_tag_at packets j ≡ false
later_plain packets n k j plain last low high = elim (cases_eq j n) [
  | inl same ↦ ap (key_tag_at packets) same ∙ plain
  | inr other ↦ last.none j low (omega (arith, other))
]

any_plain : (packets : List (List ℕ)) (n j : ℕ) → key_tag_at packets n ≡ false → ((i : ℕ) → i < n → key_tag_at packets i ≡ false) → j < suc n → key_tag_at packets j ≡ false
any_plain packets n j plain none less = elim (cases_eq j n) [
  | inl same ↦ ap (key_tag_at packets) same ∙ plain
  | inr other ↦ none j (omega (arith, other))
]

one_more : (packets : List (List ℕ)) (n : ℕ) → key_tag_at packets n ≡ false → FindsKey packets n → FindsKey packets (suc n)
one_more packets n plain (finds_at k is last) =
    finds_at k (ap (λ (b : Bool). cond b (Some n) (last_key packets n)) plain ∙ is)
    (record { below = let less = last.below in omega (arith, less); key = last.key; none = λ j low high. later_plain packets n k j plain last low high })
one_more packets n plain (finds_none is none) = finds_none (ap (λ (b : Bool). cond b (Some n) (last_key packets n)) plain ∙ is) (λ j less. any_plain packets n j plain none less)

pub finds_key : (packets : List (List ℕ)) (n : ℕ) → FindsKey packets n
finds_key packets zero = finds_none refl (λ j less. absurd (omega (arith, less)))
finds_key packets (suc n) = elim (cases_Bool (key_tag_at packets n)) [
  | inl key ↦ finds_at n (ap (λ (b : Bool). cond b (Some n) (last_key packets n)) key) (record { below = omega arith; key = key; none = λ j low high. absurd (omega (arith, low, high)) })
  | inr plain ↦ one_more packets n plain (finds_key packets n)
]

pub key_place-is : (packets : List (List ℕ)) (place k : ℕ) → last_key packets (suc place) ≡ Some k → key_place packets place ≡ k
key_place-is packets place k is = ap (λ (o : Option ℕ). unwrap_or o 0) is

same_key : (packets : List (List ℕ)) (place p k : ℕ) → IsLastAt (key_tag_at packets) 0 (place + 1) p → IsLastKey packets (suc place) k → p ≡ k
same_key packets place p k at last = elim (cases_order p k) [
  | inl same ↦ same
  | inr other ↦ elim other [
    | inl earlier ↦
        let below : k < suc place = last.below in
        let plain : key_tag_at packets k ≡ false = at.later k earlier (omega (arith, below)) in
        let key : key_tag_at packets k ≡ true = last.key in
        cc
    | inr later ↦
        let within : p < place + 1 = at.within in
        let plain : key_tag_at packets p ≡ false = last.none p later (omega (arith, within)) in
        let key : key_tag_at packets p ≡ true = at.here in
        cc
  ]
]

-- as a store finds it
pub last_key-by : (packets : List (List ℕ)) (place : ℕ) (o : Option ℕ) → IsLast (key_tag_at packets) 0 (place + 1) o → o ≡ last_key packets (suc place)
last_key-by packets place None nowhere = elim (finds_key packets (suc place)) [
  | finds_at k is last ↦
      let below : k < suc place = last.below in
      let plain : key_tag_at packets k ≡ false = nowhere k (omega arith) (omega (arith, below)) in
      let key : key_tag_at packets k ≡ true = last.key in
      cc
  | finds_none is none ↦ sym is
]
last_key-by packets place (Some p) at = elim (finds_key packets (suc place)) [
  | finds_at k is last ↦ ap (λ (n : ℕ). Some n) (same_key packets place p k at last) ∙ sym is
  | finds_none is none ↦
      let within : p < place + 1 = at.within in
      let plain : key_tag_at packets p ≡ false = none p (omega (arith, within)) in
      let key : key_tag_at packets p ≡ true = at.here in
      cc
]

pub key-within : (packets : List (List ℕ)) (place : ℕ) (o : Option ℕ) → IsLast (key_tag_at packets) 0 (place + 1) o → unwrap_or o 0 ≤ place
key-within packets place None nowhere = omega arith
key-within packets place (Some p) at = let within : p < place + 1 = at.within in omega (arith, within)
