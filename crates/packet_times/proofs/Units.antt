-- Common units of time bases.
use Rattle.std.proofs.Common.{◌≡◌, ℕ, zero, suc, ◌+◌, ◌-◌, ◌*◌, ◌/◌, ◌%◌, ◌^◌, ◌<◌, ◌≤◌, ◌&&◌, ◌==◌, ◌⊎◌, Bool, true, false, List, [], ◌∷◌, ◌++◌, length, take, drop, get_or, refl, sym, ap, subst, ◌∙◌, Option, Some, None, IfSome, IfNone, inl, inr, mul-pos, arith}
use Rattle.std.proofs.lemmas.List.{take-append-drop, take_all, take_more}
use Prim.Native.Nat.{◌∣◌}
use Rattle.std.specs.Int.{IsGcd}
use Rattle.std.proofs.lemmas.Bool.{eqb-true}
use Rattle.std.proofs.lemmas.Nat.{div-add-mod', mod_below}
use Rattle.std.proofs.lemmas.Nat.Gcd.{IsGcd-from_mod, IsGcd-from_zero, IsGcd-swap, dvd_of_mod-eq-zero, dvd_trans, le_of_dvd, mod-eq-zero_of_dvd, same_from_IsGcd}
use Rattle.std.proofs.lemmas.List.Folds.{list_all-append}
use Rattle.std.proofs.Math.Nat.{div-mul_cancel, dvd-mul_left, dvd-mul_left_of_dvd, dvd-mul_right, dvd-sub, dvd_of_mul-dvd-mul_left, dvd_of_mul-dvd-mul_right, mul-dvd-mul_left, mul-dvd-mul_right, mul-dvd-mul, one-dvd, pos_of_dvd_of_pos}
use Rattle.packet_times.specs.Heads.{HasNoLowest, HasNoUnit, IsGreatestUnit, IsLowest, IsPositive, are_multiples, is_multiple}

abbrev pub Base : Type 0
Base = ℕ × ℕ

-- ---- divisors

moved : {a b c d : ℕ} → a ∣ b → a ≡ c → b ≡ d → c ∣ d
moved {a} {b} {c} {d} divides p q = subst (λ (n : ℕ). n ∣ d) p (subst (λ (n : ℕ). a ∣ n) q divides)

-- a greatest common divisor, which divides what divides multiples of both
record HasGcd (a b : ℕ) : Type 0 where
  value : ℕ
  is : IsGcd a b value
  times : (k d : ℕ) → d ∣ a * k → d ∣ b * k → d ∣ value * k

gcd_of : (n a b : ℕ) → b ≤ n → HasGcd a b
gcd_of n a zero few = record { value = a; is = IsGcd-from_zero a 0 refl; times = λ k d first second. first }
gcd_of zero a (suc b) few = absurd (omega arith)
gcd_of (suc n) a (suc b) few =
    let below : a % suc b < suc b = mod_below a (suc b) (omega arith) in
    let rest : HasGcd (suc b) (a % suc b) = gcd_of n (suc b) (a % suc b) (omega arith) in
    record {
      value = rest.value;
      is = IsGcd-from_mod a (suc b) rest.value rest.is;
      times = λ k d first second. rest.times k d second (left k d first second);
    }
  where
    left : (k d : ℕ) → d ∣ a * k → d ∣ suc b * k → d ∣ (a % suc b) * k
    left k d first second =
        let whole : (a / suc b * suc b + a % suc b) * k ≡ a * k = ap (λ (m : ℕ). m * k) (div-add-mod' a (suc b)) in
        moved (dvd-sub d first (dvd-mul_left_of_dvd d second (a / suc b))) refl (parts (a / suc b) (suc b) (a % suc b) a k whole)
      where
        parts : (q m r n k : ℕ) → (q * m + r) * k ≡ n * k → n * k - q * (m * k) ≡ r * k
        parts q m r n k e = omega arith

-- what divides multiples of two numbers divides the multiple of their greatest common divisor
pub gcd_times : (a b g : ℕ) → IsGcd a b g → (k d : ℕ) → d ∣ a * k → d ∣ b * k → d ∣ g * k
gcd_times a b g is k d first second =
    let some : HasGcd a b = gcd_of b a b (omega arith) in
    let same : some.value ≡ g = same_from_IsGcd a b some.value g some.is is in
    moved (some.times k d first second) refl (ap (λ (m : ℕ). m * k) same)

-- a divisor of a product divides the one factor if it has no divisor with the other one
pub divides_other : (p q k : ℕ) → IsGcd p q 1 → p ∣ q * k → p ∣ k
divides_other p q k prime divides = moved (gcd_times p q 1 prime k p (dvd-mul_right p k) divides) refl (omega arith)

-- ---- multiples of units

pub divides_of : (unit base : Base) → is_multiple unit base ≡ true → base.0 * unit.1 ∣ base.1 * unit.0
divides_of unit base is = dvd_of_mod-eq-zero (base.0 * unit.1) (eqb-true (base.1 * unit.0 % (base.0 * unit.1)) 0 is)

pub multiple_of : (unit base : Base) → base.0 * unit.1 ∣ base.1 * unit.0 → is_multiple unit base ≡ true
multiple_of unit base divides = ap (λ (n : ℕ). n == 0) (mod-eq-zero_of_dvd (base.0 * unit.1) divides)

pub multiple_trans : (unit middle base : Base) → IsPositive middle → is_multiple unit middle ≡ true → is_multiple middle base ≡ true → is_multiple unit base ≡ true
multiple_trans unit middle base some first second =
    let product = mul-dvd-mul (middle.0 * unit.1) (base.0 * middle.1) (divides_of unit middle first) (divides_of middle base second) in
    let whole : (middle.0 * middle.1) * (base.0 * unit.1) ∣ (middle.0 * middle.1) * (base.1 * unit.0) = moved product (omega arith) (omega arith) in
    multiple_of unit base (dvd_of_mul-dvd-mul_left (base.0 * unit.1) (mul-pos some.0 some.1) whole)

both : (a b : Bool) → (a && b) ≡ true → (a ≡ true) × (b ≡ true)
both true b all = (refl, all)
both false b all = absurd (let bad : false ≡ true = all in cc)

pub first_multiple : (unit base : Base) (bases : List Base) → are_multiples unit (base ∷ bases) ≡ true → (is_multiple unit base ≡ true) × (are_multiples unit bases ≡ true)
first_multiple unit base bases all = both (is_multiple unit base) (are_multiples unit bases) all

pub more_multiples : (unit base : Base) (bases : List Base) → is_multiple unit base ≡ true → are_multiples unit bases ≡ true → are_multiples unit (base ∷ bases) ≡ true
more_multiples unit base bases first rest = ap (λ (b : Bool). b && are_multiples unit bases) first ∙ rest

pub multiples_trans : (unit middle : Base) (bases : List Base) → IsPositive middle → is_multiple unit middle ≡ true → are_multiples middle bases ≡ true → are_multiples unit bases ≡ true
multiples_trans unit middle [] some first all = refl
multiples_trans unit middle (base ∷ bases) some first all =
    let parts = first_multiple middle base bases all in
    more_multiples unit base bases (multiple_trans unit middle base some first parts.0) (multiples_trans unit middle bases some first parts.1)

-- ---- lowest terms

pub gcd_positive : (rate scale by : ℕ) → 0 < rate → IsGcd rate scale by → 0 < by
gcd_positive rate scale by some is = pos_of_dvd_of_pos is.0 some

pub lowest_is : (rate scale by : ℕ) → (0 < rate) × (0 < scale) → IsGcd rate scale by → IsLowest (rate, scale) (rate / by, scale / by)
lowest_is rate scale by some is =
    let have : 0 < by = gcd_positive rate scale by some.0 is in
    let first : rate / by * by ≡ rate = div-mul_cancel by is.0 in
    let second : scale / by * by ≡ scale = div-mul_cancel by is.1 in
    record {
      positive = (positive_part (rate / by) rate by some.0 first, positive_part (scale / by) scale by some.1 second);
      same = ap (λ (n : ℕ). rate / by * n) (sym second) ∙ turned (rate / by) (scale / by) by ∙ ap (λ (n : ℕ). scale / by * n) first;
      lowest = (one-dvd (rate / by), one-dvd (scale / by), λ d p q. prime have first second d p q);
    }
  where
    positive_part : (q n by : ℕ) → 0 < n → q * by ≡ n → 0 < q
    positive_part zero n by some e = absurd (omega arith)
    positive_part (suc q) n by some e = omega arith

    turned : (a b n : ℕ) → a * (b * n) ≡ b * (a * n)
    turned a b n = omega arith

    prime : 0 < by → rate / by * by ≡ rate → scale / by * by ≡ scale → (d : ℕ) → d ∣ rate / by → d ∣ scale / by → d ∣ 1
    prime have first second d p q =
        let all : d * by ∣ by = is.2 (d * by) (moved (mul-dvd-mul_right d p by) refl first) (moved (mul-dvd-mul_right d q by) refl second) in
        dvd_of_mul-dvd-mul_right d have (moved all refl (omega arith))

-- the numbers of another base in lowest terms are no less
pub lowest_least : (rate scale by : ℕ) (unit : Base) → (0 < rate) × (0 < scale) → IsGcd rate scale by → IsLowest (rate, scale) unit → (rate / by ≤ unit.0) × (scale / by ≤ unit.1)
lowest_least rate scale by unit some is low =
    let have : 0 < by = gcd_positive rate scale by some.0 is in
    let first : rate / by * by ≡ rate = div-mul_cancel by is.0 in
    let second : scale / by * by ≡ scale = div-mul_cancel by is.1 in
    let made : IsLowest (rate, scale) (rate / by, scale / by) = lowest_is rate scale by some is in
    let same : unit.0 * (scale / by) * by ≡ unit.1 * (rate / by) * by = omega (arith, ap (λ (n : ℕ). unit.0 * n) second, ap (λ (n : ℕ). unit.1 * n) first, low.same) in
    let rates : rate / by ∣ scale / by * unit.0 = dvd_of_mul-dvd-mul_right (rate / by) have (moved (mul-dvd-mul_right (rate / by) (dvd-mul_left (rate / by) unit.1) by) refl (sym same ∙ ap (λ (n : ℕ). n * by) (swapped unit.0 (scale / by)))) in
    let scales : scale / by ∣ rate / by * unit.1 = dvd_of_mul-dvd-mul_right (scale / by) have (moved (mul-dvd-mul_right (scale / by) (dvd-mul_left (scale / by) unit.0) by) refl (same ∙ ap (λ (n : ℕ). n * by) (swapped unit.1 (rate / by)))) in
    (le_of_dvd low.positive.0 (divides_other (rate / by) (scale / by) unit.0 made.lowest rates), le_of_dvd low.positive.1 (divides_other (scale / by) (rate / by) unit.1 (IsGcd-swap (rate / by) (scale / by) 1 made.lowest) scales))
  where
    swapped : (a b : ℕ) → a * b ≡ b * a
    swapped a b = omega arith

pub none_lowest : (rate scale by : ℕ) → (0 < rate) × (0 < scale) → IsGcd rate scale by → (2 ^ 32 ≤ rate / by) ⊎ (2 ^ 32 ≤ scale / by) → HasNoLowest (rate, scale)
none_lowest rate scale by some is long unit low fits =
    let least = lowest_least rate scale by unit some is low in
    elim long [ inl over ↦ omega (arith, fits.rate) | inr over ↦ omega (arith, fits.scale) ]

-- ---- the greatest common unit of two bases

-- a base that two bases are multiples of, before it is in lowest terms
pub record IsShared (one other : Base) (rate scale : ℕ) : Type 0 where
  pub positive : (0 < rate) × (0 < scale)
  pub rates : rate ≡ one.0 * other.0
  pub scales : IsGcd (one.1 * other.0) (other.1 * one.0) scale

pub greatest_of_two : (one other unit : Base) (rate scale : ℕ) → IsPositive one → IsPositive other → IsShared one other rate scale → IsLowest (rate, scale) unit → IsGreatestUnit (one ∷ other ∷ []) unit
greatest_of_two one other unit rate scale first second shared low = record {
  common = record {
    positive = low.positive;
    divides = more_multiples unit one (other ∷ []) (multiple_of unit one divides_one) (more_multiples unit other [] (multiple_of unit other divides_two) refl);
    lowest = low.lowest;
  };
  greatest = λ there some all. greatest there some all;
}
  where
    same : unit.0 * scale ≡ unit.1 * (one.0 * other.0)
    same = low.same ∙ ap (λ (n : ℕ). unit.1 * n) shared.rates

    turned : (a b c d : ℕ) → a * (b * c) ≡ b * (a * c)
    turned a b c d = omega arith

    divides_one : one.0 * unit.1 ∣ one.1 * unit.0
    divides_one =
        let whole : unit.0 * scale ∣ unit.0 * (one.1 * other.0) = mul-dvd-mul_left scale unit.0 shared.scales.0 in
        dvd_of_mul-dvd-mul_right (one.0 * unit.1) second.0 (moved whole (omega (arith, same)) (omega arith))

    divides_two : other.0 * unit.1 ∣ other.1 * unit.0
    divides_two =
        let whole : unit.0 * scale ∣ unit.0 * (other.1 * one.0) = mul-dvd-mul_left scale unit.0 shared.scales.1 in
        dvd_of_mul-dvd-mul_right (other.0 * unit.1) first.0 (moved whole (omega (arith, same)) (omega arith))

    greatest : (there : Base) → IsPositive there → are_multiples there (one ∷ other ∷ []) ≡ true → is_multiple there unit ≡ true
    greatest there some all =
        let parts = first_multiple there one (other ∷ []) all in
        let last = first_multiple there other [] parts.1 in
        let by_one : one.0 * other.0 * there.1 ∣ one.1 * other.0 * there.0 = moved (mul-dvd-mul_right (one.0 * there.1) (divides_of there one parts.0) other.0) (omega arith) (omega arith) in
        let by_other : one.0 * other.0 * there.1 ∣ other.1 * one.0 * there.0 = moved (mul-dvd-mul_right (other.0 * there.1) (divides_of there other last.0) one.0) (omega arith) (omega arith) in
        let of_gcd : one.0 * other.0 * there.1 ∣ scale * there.0 = gcd_times (one.1 * other.0) (other.1 * one.0) scale shared.scales there.0 (one.0 * other.0 * there.1) by_one by_other in
        let whole : scale * (unit.0 * there.1) ∣ scale * (unit.1 * there.0) =
        moved (mul-dvd-mul_left (one.0 * other.0 * there.1) unit.1 of_gcd) (omega (arith, ap (λ (n : ℕ). n * there.1) same)) (omega arith) in
        multiple_of there unit (dvd_of_mul-dvd-mul_left (unit.0 * there.1) shared.positive.1 whole)

-- a common unit of two bases is no coarser than the greatest, so its numbers are no less, but for the scale of a base
pub none_of_two : (one other : Base) (rate scale : ℕ) → IsPositive one → IsPositive other → one.1 < 2 ^ 32 → IsShared one other rate scale → HasNoLowest (rate, scale) → HasNoUnit (one ∷ other ∷ [])
none_of_two one other rate scale first second short shared none unit common fits =
    let by : HasGcd rate scale = gcd_of scale rate scale (omega arith) in
    let top : Base = (rate / by.value, scale / by.value) in
    let low : IsLowest (rate, scale) top = lowest_is rate scale by.value shared.positive by.is in
    let great : IsGreatestUnit (one ∷ other ∷ []) top = greatest_of_two one other top rate scale first second shared low in
    let rates : top.0 ∣ unit.0 =
    divides_other top.0 top.1 unit.0 low.lowest (dvd_trans top.0 (dvd-mul_right top.0 unit.1) (divides_of unit top (great.greatest unit common.positive common.divides))) in
    let of_one = (first_multiple top one (other ∷ []) great.common.divides).0 in
    let scales : top.1 ∣ one.1 =
    divides_other top.1 top.0 one.1 (IsGcd-swap top.0 top.1 1 low.lowest) (moved (dvd_trans top.1 (dvd-mul_left top.1 one.0) (divides_of top one of_one)) refl (swapped one.1 top.0)) in
    none top low (record {
      rate = fewer (le_of_dvd common.positive.0 rates) fits.rate;
      scale = fewer (le_of_dvd first.1 scales) short;
    })
  where
    swapped : (a b : ℕ) → a * b ≡ b * a
    swapped a b = omega arith

    fewer : {a b n : ℕ} → a ≤ b → b < n → a < n
    fewer p q = omega arith

-- ---- a base more

pub greatest_more : (bases : List Base) (base unit next : Base) → IsGreatestUnit bases unit → IsGreatestUnit (unit ∷ base ∷ []) next → IsGreatestUnit (bases ++ base ∷ []) next
greatest_more bases base unit next great made =
    let parts = first_multiple next unit (base ∷ []) made.common.divides in
    record {
      common = record {
        positive = made.common.positive;
        divides = with_last next (multiples_trans next unit bases great.common.positive parts.0 great.common.divides) parts.1;
        lowest = made.common.lowest;
      };
      greatest = λ other some all. greatest other some (list_all-append (is_multiple other) bases (base ∷ [])) all;
    }
  where
    with_last : (unit : Base) → are_multiples unit bases ≡ true → are_multiples unit (base ∷ []) ≡ true → are_multiples unit (bases ++ base ∷ []) ≡ true
    with_last unit first last = list_all-append (is_multiple unit) bases (base ∷ []) ∙ ap (λ (b : Bool). b && are_multiples unit (base ∷ [])) first ∙ last

    greatest : (other : Base) → IsPositive other → are_multiples other (bases ++ base ∷ []) ≡ (are_multiples other bases && are_multiples other (base ∷ [])) → are_multiples other (bases ++ base ∷ []) ≡ true → is_multiple other next ≡ true
    greatest other some split all =
        let parts = both (are_multiples other bases) (are_multiples other (base ∷ [])) (sym split ∙ all) in
        made.greatest other some (more_multiples other unit (base ∷ []) (great.greatest other some parts.0) parts.1)

pub none_more : (bases all : List Base) (base unit : Base) → IsGreatestUnit bases unit → ((other : Base) → are_multiples other all ≡ true → are_multiples other (bases ++ base ∷ []) ≡ true) → HasNoUnit (unit ∷ base ∷ []) → HasNoUnit all
none_more bases all base unit great among none other common fits =
    let parts = both (are_multiples other bases) (are_multiples other (base ∷ [])) (sym (list_all-append (is_multiple other) bases (base ∷ [])) ∙ among other common.divides) in
    none other (record {
      positive = common.positive;
      divides = more_multiples other unit (base ∷ []) (great.greatest other common.positive parts.0) parts.1;
      lowest = common.lowest;
    }) fits

-- the first base, and then the bases again from the first one on
abbrev pub first_of : List Base → Base
first_of [] = (0, 0)
first_of (base ∷ bases) = base

abbrev pub twice : List Base → ℕ → List Base
twice bases i = first_of bases ∷ take i bases

pub twice_none : (base unit : Base) (bases : List Base) → base ≡ first_of bases → IsGreatestUnit (base ∷ base ∷ []) unit → IsGreatestUnit (twice bases 0) unit
twice_none base unit bases is great = subst (λ (b : Base). IsGreatestUnit (b ∷ []) unit) is (record {
  common = record { positive = great.common.positive; divides = (first_multiple unit base (base ∷ []) great.common.divides).1; lowest = great.common.lowest };
  greatest = λ other some all. great.greatest other some (more_multiples other base (base ∷ []) (first_multiple other base [] all).0 all);
})

pub twice_more : (base unit next : Base) (bases : List Base) (i : ℕ) → i < length bases → (other : Base) → base ≡ get_or bases i other → IsGreatestUnit (twice bases i) unit → IsGreatestUnit (unit ∷ base ∷ []) next → IsGreatestUnit (twice bases (i + 1)) next
twice_more base unit next bases i within other is great made =
    let more : twice bases (i + 1) ≡ twice bases i ++ base ∷ [] = ap (λ (bs : List Base). first_of bases ∷ bs) (take_more bases i other within ∙ ap (λ (b : Base). take i bases ++ b ∷ []) (sym is)) in
    subst (λ (bs : List Base). IsGreatestUnit bs next) (sym more) (greatest_more (twice bases i) base unit next great made)

first_among : (unit : Base) (bases : List Base) → 0 < length bases → are_multiples unit bases ≡ true → is_multiple unit (first_of bases) ≡ true
first_among unit [] some all = absurd (omega arith)
first_among unit (base ∷ bases) some all = (first_multiple unit base bases all).0

multiples_take : (unit : Base) (bases : List Base) (i : ℕ) → are_multiples unit bases ≡ true → are_multiples unit (take i bases) ≡ true
multiples_take unit bases i all =
    (both (are_multiples unit (take i bases)) (are_multiples unit (drop i bases)) (sym (list_all-append (is_multiple unit) (take i bases) (drop i bases)) ∙ ap (are_multiples unit) (take-append-drop i bases) ∙ all)).0

pub twice_no_more : (base unit : Base) (bases : List Base) (i : ℕ) → i < length bases → (other : Base) → base ≡ get_or bases i other → IsGreatestUnit (twice bases i) unit → HasNoUnit (unit ∷ base ∷ []) → HasNoUnit bases
twice_no_more base unit bases i within other is great none =
    let more : twice bases (i + 1) ≡ twice bases i ++ base ∷ [] = ap (λ (bs : List Base). first_of bases ∷ bs) (take_more bases i other within ∙ ap (λ (b : Base). take i bases ++ b ∷ []) (sym is)) in
    none_more (twice bases i) bases base unit great (λ unit all. subst (λ (bs : List Base). are_multiples unit bs ≡ true) more (more_multiples unit (first_of bases) (take (i + 1) bases) (first_among unit bases (omega arith) all) (multiples_take unit bases (i + 1) all))) none

pub twice_no_first : (base : Base) (bases : List Base) → 0 < length bases → base ≡ first_of bases → HasNoUnit (base ∷ base ∷ []) → HasNoUnit bases
twice_no_first base bases some is none other common fits =
    let first : is_multiple other base ≡ true = ap (λ (b : Base). is_multiple other b) is ∙ first_among other bases some common.divides in
    none other (record { positive = common.positive; divides = more_multiples other base (base ∷ []) first (more_multiples other base [] first refl); lowest = common.lowest }) fits

pub twice_all : (unit : Base) (bases : List Base) (i : ℕ) → 0 < length bases → length bases ≤ i → IsGreatestUnit (twice bases i) unit → IsGreatestUnit bases unit
twice_all unit bases i some over great =
    let all : take i bases ≡ bases = take_all i bases over in
    let parts = first_multiple unit (first_of bases) (take i bases) great.common.divides in
    record {
      common = record { positive = great.common.positive; divides = sym (ap (are_multiples unit) all) ∙ parts.1; lowest = great.common.lowest };
      greatest = λ other positive divides. great.greatest other positive (more_multiples other (first_of bases) (take i bases) (first_among other bases some divides) (ap (are_multiples other) all ∙ divides));
    }

-- ---- options

pub some_more : {P Q : Base → Type 0} (r : Option Base) → ((unit : Base) → P unit → Q unit) → IfSome r P → IfSome r Q
some_more None f p = p
some_more (Some unit) f p = f unit p

pub none_as : {P Q : Type 0} (r : Option Base) → (P → Q) → IfNone r P → IfNone r Q
none_as None f p = f p
none_as (Some unit) f p = p

pub none_for : {P : Type 0} (r : Option Base) → P → IfNone r P
none_for None p = p
none_for (Some unit) p = tt

pub product : (a b c d : ℕ) → a ≡ c → b ≡ d → a * b ≡ c * d
product a b c d p q = cc

pub shared_of : (one other : Base) (a b c d e f scale : ℕ) → IsPositive one → IsPositive other → a ≡ one.0 → b ≡ other.0 → c ≡ one.1 → d ≡ other.0 → e ≡ other.1 → f ≡ one.0 → IsGcd (c * d) (e * f) scale
    → IsShared one other (a * b) scale
shared_of one other a b c d e f scale first second p q r s t u is =
    let gcd : IsGcd (one.1 * other.0) (other.1 * one.0) scale =
    subst (λ (n : ℕ). IsGcd n (other.1 * one.0) scale) (product c d one.1 other.0 r s) (subst (λ (n : ℕ). IsGcd (c * d) n scale) (product e f other.1 one.0 t u) is) in
    record {
      positive = (subst (λ (n : ℕ). 0 < n) (sym (product a b one.0 other.0 p q)) (mul-pos first.0 second.0), gcd_positive (one.1 * other.0) (other.1 * one.0) scale (mul-pos first.1 second.0) gcd);
      rates = product a b one.0 other.0 p q;
      scales = gcd;
    }
