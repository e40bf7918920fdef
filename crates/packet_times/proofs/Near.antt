-- The time after frames is near the exact time.
use Rattle.std.proofs.Common.{◌≡◌, ℕ, zero, suc, ◌+◌, ◌*◌, ◌/◌, ◌%◌, ◌^◌, ◌<◌, ◌≤◌, ◌==◌, Bool, true, false, cond, List, [], ◌∷◌, ◌++◌, All, length, map, take, get_or, fold, sum_by, refl, sym, ap, subst, ◌∙◌, mul-pos, arith, add-one, zero-add}
use Rattle.std.proofs.lemmas.List.{take_more}
use Prim.Native.Nat.{◌∣◌}
use Rattle.std.specs.List.{list_any}
use Rattle.std.proofs.lemmas.List.Sums.{sum_by-cons, sum_by-le-sum_by, sum_by-take-le, sum_by_push}
use Rattle.std.proofs.lemmas.Nat.{div-add-mod', div-mul-add, le-div, mod_below}
use Rattle.std.proofs.Math.Nat.{div-mul_cancel}
use Rattle.stream_files.specs.declared.streams.Head.{Head}
use Rattle.packet_times.specs.declared.durations.Duration.{Duration}
use Rattle.packet_times.specs.Durations.{frame_rate}
use Rattle.packet_times.specs.Sums.{base_of, base_of_head, bases_of, due, in_128_bits, is_base, rescaled, units_of, with_base}
use Rattle.packet_times.specs.Laws.{LastsAUnit, StampsAreDue, TimesAreNear, UnitsAddUp, exact_parts}
use Rattle.std.proofs.lemmas.Bool.Decides.{nat_tests}
use Rattle.std.proofs.lemmas.List.Folds.{list_any-append}
use Rattle.std.proofs.lemmas.List.Elements.{All-push}
use Rattle.packet_times.proofs.Counted.{Base, bases_push, none_counted, same_base, units_more, units_push}

-- ---- one base

-- twice a quotient that is rounded half up is within one of twice the exact one
near_up : (n by m : ℕ) → 0 < by → 2 * (by * m * ((2 * n + by) / (2 * by))) ≤ 2 * (n * m) + by * m
near_up n by m some =
    let q : ℕ = (2 * n + by) / (2 * by) in
    let whole : q * (2 * by) + (2 * n + by) % (2 * by) ≡ 2 * n + by = div-add-mod' (2 * n + by) (2 * by) in
    omega (arith, scaled (q * (2 * by)) (2 * n + by) m (omega arith))
  where
    scaled : (a b k : ℕ) → a ≤ b → a * k ≤ b * k
    scaled a b k less = grind arith

near_down : (n by m : ℕ) → 0 < by → 2 * (n * m) ≤ 2 * (by * m * ((2 * n + by) / (2 * by))) + by * m
near_down n by m some =
    let q : ℕ = (2 * n + by) / (2 * by) in
    let whole : q * (2 * by) + (2 * n + by) % (2 * by) ≡ 2 * n + by = div-add-mod' (2 * n + by) (2 * by) in
    let rest : (2 * n + by) % (2 * by) < 2 * by = mod_below (2 * n + by) (2 * by) (omega arith) in
    omega (arith, scaled (2 * n + by) (q * (2 * by) + 2 * by) m (omega arith))
  where
    scaled : (a b k : ℕ) → a ≤ b → a * k ≤ b * k
    scaled a b k less = grind arith

-- ---- all bases

positive_rate : (rate scale : ℕ) → (0 < (frame_rate rate scale).0) × (0 < (frame_rate rate scale).1)
positive_rate rate scale = by_first (rate == 0) (scale == 0) refl refl
  where
    by_first : (b c : Bool) → (rate == 0) ≡ b → (scale == 0) ≡ c → (0 < (frame_rate rate scale).0) × (0 < (frame_rate rate scale).1)
    by_first true c p q = rw p (omega arith, omega arith)
    by_first false true p q = rw (p, q) (omega arith, omega arith)
    by_first false false p q = rw (p, q) (positive rate p, positive scale q)
      where
        positive : (n : ℕ) → (n == 0) ≡ false → 0 < n
        positive zero e = absurd (let bad : true ≡ false = e in cc)
        positive (suc n) e = omega arith

-- a sum over bases is near the exact one if each base is
abbrev part : Base → (Base → ℕ) → Base → ℕ
part to units base = rescaled (units base) base to

abbrev exact : Base → (Base → ℕ) → ℕ → Base → ℕ
exact to units parts base = units base * (base.1 * to.0) * (parts / (base.0 * to.1))

record IsNearSum (to : Base) (units : Base → ℕ) (parts : ℕ) (bases : List Base) : Type 0 where
  above : 2 * (parts * sum_by (part to units) bases) ≤ 2 * sum_by (exact to units parts) bases + length bases * parts
  below : 2 * sum_by (exact to units parts) bases ≤ 2 * (parts * sum_by (part to units) bases) + length bases * parts

near_sum : (to : Base) (units : Base → ℕ) (parts : ℕ) (bases : List Base) → All (λ (base : Base). 0 < base.0 * to.1) bases → All (λ (base : Base). base.0 * to.1 ∣ parts) bases → IsNearSum to units parts bases
near_sum to units parts [] some whole = record { above = omega arith; below = omega arith }
near_sum to units parts (base ∷ bases) some whole =
    let by : ℕ = base.0 * to.1 in
    let m : ℕ = parts / by in
    let n : ℕ = units base * (base.1 * to.0) in
    let positive : 0 < by = some 0 base (omega arith) in
    let all : m * by ≡ parts = div-mul_cancel by (whole 0 base (omega arith)) in
    let turned : by * m ≡ parts = omega (arith, all) in
    let rest : IsNearSum to units parts bases = near_sum to units parts bases (λ k d below. some (suc k) d (omega arith)) (λ k d below. whole (suc k) d (omega arith)) in
    let up = near_up n by m positive in
    let down = near_down n by m positive in
    let first : ℕ = part to units base in
    let times : by * m * first ≡ parts * first = ap (λ (k : ℕ). k * first) turned in
    let both : parts * sum_by (part to units) (base ∷ bases) ≡ parts * (first + sum_by (part to units) bases) = ap (λ (k : ℕ). parts * k) (sum_by-cons (part to units) base bases) in
    let exacts : sum_by (exact to units parts) (base ∷ bases) ≡ n * m + sum_by (exact to units parts) bases = sum_by-cons (exact to units parts) base bases in
    record {
      above = joined_above parts first (sum_by (part to units) bases) (sum_by (exact to units parts) bases) (by * m) n m (length bases) _ _ turned times up rest.above both exacts;
      below = joined_below parts first (sum_by (part to units) bases) (sum_by (exact to units parts) bases) (by * m) n m (length bases) _ _ turned times down rest.below both exacts;
    }
  where
    joined_above : (parts first left exact whole n m count all alls : ℕ) → whole ≡ parts → whole * first ≡ parts * first → 2 * (whole * first) ≤ 2 * (n * m) + whole → 2 * (parts * left) ≤ 2 * exact + count * parts
        → all ≡ parts * (first + left) → alls ≡ n * m + exact → 2 * all ≤ 2 * alls + suc count * parts
    joined_above parts first left exact whole n m count all alls p q r s t u = omega arith

    joined_below : (parts first left exact whole n m count all alls : ℕ) → whole ≡ parts → whole * first ≡ parts * first → 2 * (n * m) ≤ 2 * (whole * first) + whole → 2 * exact ≤ 2 * (parts * left) + count * parts
        → all ≡ parts * (first + left) → alls ≡ n * m + exact → 2 * alls ≤ 2 * all + suc count * parts
    joined_below parts first left exact whole n m count all alls p q r s t u = omega arith

-- ---- the bases of durations

-- each of these bases has a unit
abbrev AreRates : List Base → Type 0
AreRates bases = All (λ (base : Base). (0 < base.0) × (0 < base.1)) bases

rates_of : (known : List Base) (ds : List Duration) → AreRates known → AreRates (fold with_base known (map base_of ds))
rates_of known [] some = some
rates_of known (d ∷ ds) some = rates_of (with_base known (base_of d)) ds (by_first (list_any (is_base (base_of d)) known) refl)
  where
    by_first : (b : Bool) → list_any (is_base (base_of d)) known ≡ b → AreRates (with_base known (base_of d))
    by_first true e = rw e some
    by_first false e = rw e (All-push (λ (base : Base). (0 < base.0) × (0 < base.1)) known (base_of d) some (positive_rate d.rate d.scale))

units_le : (base : Base) (ds : List Duration) → units_of base ds ≤ sum_by (λ (d : Duration). d.units) ds
units_le base [] = omega arith
units_le base (d ∷ ds) = omega (arith, units_more base d ds, most (is_base (base_of d) base) d.units, sum_by-cons (λ (d : Duration). d.units) d ds, units_le base ds)
  where
    most : (b : Bool) (n : ℕ) → cond b n 0 ≤ n
    most true n = omega arith
    most false n = omega arith

in_range : (base : Base) (ds : List Duration) → sum_by (λ (d : Duration). d.units) ds < 2 ^ 128 → in_128_bits (units_of base ds) ≡ units_of base ds
in_range base ds few = omega (arith, units_le base ds)

same_sums : (f g : Base → ℕ) (bases : List Base) → ((base : Base) → f base ≡ g base) → sum_by f bases ≡ sum_by g bases
same_sums f g bases same = omega (arith, sum_by-le-sum_by f g bases (λ base. least (f base) (g base) (same base)), sum_by-le-sum_by g f bases (λ base. least (g base) (f base) (sym (same base))))
  where
    least : (a b : ℕ) → a ≡ b → a ≤ b
    least a b e = omega arith

pub times_are_near : TimesAreNear
times_are_near head ds parts few whole =
    let to : Base = base_of_head head in
    let units : Base → ℕ = λ (base : Base). in_128_bits (units_of base ds) in
    let rates : AreRates (bases_of ds) = rates_of [] ds (λ k d below. absurd (omega arith)) in
    let rate = positive_rate head.rate head.scale in
    let sums : IsNearSum to units parts (bases_of ds) = near_sum to units parts (bases_of ds) (λ k d below. mul-pos (rates k d below).0 rate.1) whole in
    let same : sum_by (exact to units parts) (bases_of ds) ≡ exact_parts head parts ds =
    same_sums (exact to units parts) (λ (base : Base). units_of base ds * (base.1 * to.0) * (parts / (base.0 * to.1))) (bases_of ds) (λ base. ap (λ (n : ℕ). n * (base.1 * to.0) * (parts / (base.0 * to.1))) (in_range base ds few)) in
    record { above = omega (arith, sums.above, same); below = omega (arith, sums.below, same) }

-- ---- a frame more

known_now : (base : Base) (known : List Base) → list_any (is_base base) (with_base known base) ≡ true
known_now base known = by_first (list_any (is_base base) known) refl
  where
    itself : is_base base base ≡ true
    itself = grind (arith, nat_tests)

    by_first : (b : Bool) → list_any (is_base base) known ≡ b → list_any (is_base base) (with_base known base) ≡ true
    by_first true e = rw e e
    by_first false e = rw e (list_any-append (is_base base) known (base ∷ []) ∙ rw (e, itself) refl)

-- a sum of terms that are no less, one of them greater
gains : (base : Base) (f g : Base → ℕ) (bases : List Base) → ((b : Base) → f b + cond (is_base base b) 1 0 ≤ g b) → list_any (is_base base) bases ≡ true → sum_by f bases + 1 ≤ sum_by g bases
gains base f g [] more among = absurd (let bad : false ≡ true = among in cc)
gains base f g (b ∷ bases) more among = by_first (is_base base b) refl (gains base f g bases more)
  where
    by_first : (c : Bool) → is_base base b ≡ c → (list_any (is_base base) bases ≡ true → sum_by f bases + 1 ≤ sum_by g bases) → sum_by f (b ∷ bases) + 1 ≤ sum_by g (b ∷ bases)
    by_first true e rest =
        let first : f b + 1 ≤ g b = rw e at (more b) in
        omega (arith, first, sum_by-le-sum_by f g bases (λ x. omega (arith, more x)), sum_by-cons f b bases, sum_by-cons g b bases)
    by_first false e rest =
        let first : f b + 0 ≤ g b = rw e at (more b) in
        omega (arith, first, rest (rw e at among), sum_by-cons f b bases, sum_by-cons g b bases)

none_rescaled : (base to : Base) → 0 < base.0 * to.1 → (units : ℕ) → units ≡ 0 → rescaled units base to ≡ 0
none_rescaled base to some units none =
    let by : ℕ = base.0 * to.1 in
    ap (λ (n : ℕ). (2 * (n * (base.1 * to.0)) + by) / (2 * by)) none ∙ ap (λ (n : ℕ). n / (2 * by)) (zeros (base.1 * to.0) by) ∙ div-mul-add 0 (2 * by) by (omega arith)
  where
    zeros : (a b : ℕ) → 2 * (0 * a) + b ≡ 0 * (2 * b) + b
    zeros a b = omega arith

rescaled_more : (base to : Base) → 0 < base.0 * to.1 → (units more : ℕ) → base.0 * to.1 ≤ more * (base.1 * to.0) → rescaled units base to + 1 ≤ rescaled (units + more) base to
rescaled_more base to some units more least =
    let by : ℕ = base.0 * to.1 in
    let n : ℕ = 2 * (units * (base.1 * to.0)) + by in
    let whole : n / (2 * by) * (2 * by) + n % (2 * by) ≡ n = div-add-mod' n (2 * by) in
    le-div (n / (2 * by) + 1) (2 * ((units + more) * (base.1 * to.0)) + by) (2 * by) (omega arith) (omega (arith, whole))

-- the sum with a base that has no units yet
sum_with : (head : Head) (ds : List Duration) (base : Base) → (0 < base.0) × (0 < base.1) → sum_by (part (base_of_head head) (λ b. in_128_bits (units_of b ds))) (with_base (bases_of ds) base) ≡ due head ds
sum_with head ds base some = by_first (list_any (is_base base) (bases_of ds)) refl
  where
    to : Base
    to = base_of_head head

    f : Base → ℕ
    f = part (base_of_head head) (λ b. in_128_bits (units_of b ds))

    by_first : (b : Bool) → list_any (is_base base) (bases_of ds) ≡ b → sum_by (part (base_of_head head) (λ b. in_128_bits (units_of b ds))) (with_base (bases_of ds) base) ≡ due head ds
    by_first true e = rw e refl
    by_first false e =
        let none : sum_by f (bases_of ds ++ base ∷ []) ≡ due head ds + 0 = sum_by_push f (bases_of ds) base ∙ ap (λ (n : ℕ). due head ds + n) (none_rescaled base to (mul-pos some.0 (positive_rate head.rate head.scale).1) (in_128_bits (units_of base ds)) (omega (arith, none_counted base ds e))) in
        rw e (none ∙ omega arith)

joined_same : (a b : ℕ) → a ≡ b → a + 0 ≤ b
joined_same a b e = omega arith

joined : (a b c e : ℕ) → a ≡ c → b ≡ e → c + 1 ≤ e → a + 1 ≤ b
joined a b c e p q r = omega arith

-- a frame of at least one unit makes the time at least one unit later
due_more : (head : Head) (ds : List Duration) (d : Duration) → sum_by (λ (x : Duration). x.units) (ds ++ d ∷ []) < 2 ^ 128 → LastsAUnit head d → due head ds + 1 ≤ due head (ds ++ d ∷ [])
due_more head ds d few lasts =
    let bases : List Base = with_base (bases_of ds) x in
    let after : due head (ds ++ d ∷ []) ≡ sum_by g bases = ap (λ (bs : List Base). sum_by g bs) (bases_push ds d) in
    omega (arith, gains x f g bases more (known_now x (bases_of ds)), after, sum_with head ds x (positive_rate d.rate d.scale))
  where
    x : Base
    x = base_of d

    to : Base
    to = base_of_head head

    all : List Duration
    all = ds ++ d ∷ []

    f : Base → ℕ
    f = part to (λ b. in_128_bits (units_of b ds))

    g : Base → ℕ
    g = part to (λ b. in_128_bits (units_of b all))

    shorter : sum_by (λ (y : Duration). y.units) ds < 2 ^ 128
    shorter = omega (arith, few, sum_by_push (λ (y : Duration). y.units) ds d)

    more : (b : Base) → f b + cond (is_base x b) 1 0 ≤ g b
    more b = by_first (is_base x b) refl
      where
        now : in_128_bits (units_of b ds) ≡ units_of b ds
        now = in_range b ds shorter

        later : in_128_bits (units_of b all) ≡ units_of b all
        later = in_range b all few

        by_first : (c : Bool) → is_base x b ≡ c → f b + cond (is_base x b) 1 0 ≤ g b
        by_first true e =
            let same : x ≡ b = same_base x b e in
            let units : units_of b all ≡ units_of b ds + d.units = units_push b ds d ∙ rw e refl in
            let some : 0 < b.0 * to.1 = subst (λ (y : Base). 0 < y.0 * to.1) same (mul-pos (positive_rate d.rate d.scale).0 (positive_rate head.rate head.scale).1) in
            let least : b.0 * to.1 ≤ d.units * (b.1 * to.0) = subst (λ (y : Base). y.0 * to.1 ≤ d.units * (y.1 * to.0)) same lasts in
            let step : rescaled (units_of b ds) b to + 1 ≤ rescaled (units_of b ds + d.units) b to = rescaled_more b to some (units_of b ds) d.units least in
            let first : f b ≡ rescaled (units_of b ds) b to = ap (λ (n : ℕ). rescaled n b to) now in
            let last : g b ≡ rescaled (units_of b ds + d.units) b to = ap (λ (n : ℕ). rescaled n b to) (later ∙ units) in
            rw e (joined _ _ _ _ first last step)
        by_first false e =
            let units : units_of b all ≡ units_of b ds + 0 = units_push b ds d ∙ rw e refl in
            let same : f b ≡ g b = ap (λ (n : ℕ). rescaled n b to) (omega (arith, now, later, units)) in
            rw e (joined_same _ _ same)

pub stamps_are_due : StampsAreDue
stamps_are_due head ds zero last within = refl
stamps_are_due head ds (suc n) last within =
    let d : Duration = get_or ds n (record { units = 0; rate = 0; scale = 0 }) in
    let more : take (suc n) ds ≡ take n ds ++ d ∷ [] = sym (ap (λ (k : ℕ). take k ds) (add-one n)) ∙ take_more ds n (record { units = 0; rate = 0; scale = 0 }) (omega arith) in
    let few : sum_by (λ (x : Duration). x.units) (take n ds ++ d ∷ []) < 2 ^ 128 =
    subst (λ (xs : List Duration). sum_by (λ (x : Duration). x.units) xs < 2 ^ 128) more (omega (arith, last.few, sum_by-take-le (λ (x : Duration). x.units) ds (suc n))) in
    let later : due head (take n ds) + 1 ≤ due head (take (suc n) ds) =
    subst (λ (xs : List Duration). due head (take n ds) + 1 ≤ due head xs) (sym more) (due_more head (take n ds) d few (last.each n (record { units = 0; rate = 0; scale = 0 }) (omega arith))) in
    omega (arith, stamps_are_due head ds n last (omega arith), later)

-- ---- one base alone

alone : (base : Base) (ds : List Duration) → All (λ (d : Duration). base_of d ≡ base) ds → fold with_base (base ∷ []) (map base_of ds) ≡ base ∷ []
alone base [] same = refl
alone base (d ∷ ds) same =
    let first : with_base (base ∷ []) (base_of d) ≡ with_base (base ∷ []) base = ap (λ (b : Base). with_base (base ∷ []) b) (same 0 d (omega arith)) in
    let itself : is_base base base ≡ true = grind (arith, nat_tests) in
    let stays : with_base (base ∷ []) base ≡ base ∷ [] = rw itself refl in
    ap (λ (known : List Base). fold with_base known (map base_of ds)) (first ∙ stays) ∙ alone base ds (λ k e below. same (suc k) e (omega arith))

all_units : (base : Base) (ds : List Duration) → All (λ (d : Duration). base_of d ≡ base) ds → units_of base ds ≡ sum_by (λ (d : Duration). d.units) ds
all_units base [] same = refl
all_units base (d ∷ ds) same =
    let itself : is_base base base ≡ true = grind (arith, nat_tests) in
    let first : is_base (base_of d) base ≡ true = ap (λ (b : Base). is_base b base) (same 0 d (omega arith)) ∙ itself in
    let units : cond (is_base (base_of d) base) d.units 0 ≡ d.units = rw first refl in
    omega (arith, units_more base d ds, units, sum_by-cons (λ (x : Duration). x.units) d ds, all_units base ds (λ k e below. same (suc k) e (omega arith)))

itself_rescaled : (base : Base) (units : ℕ) → 0 < base.0 * base.1 → rescaled units base base ≡ units
itself_rescaled base units some =
    let by : ℕ = base.0 * base.1 in
    ap (λ (n : ℕ). n / (2 * by)) (parts units base.0 base.1) ∙ div-mul-add units (2 * by) by (omega arith)
  where
    parts : (u a b : ℕ) → 2 * (u * (b * a)) + a * b ≡ u * (2 * (a * b)) + a * b
    parts u a b = omega arith

pub units_add_up : UnitsAddUp
units_add_up head [] same few = refl
units_add_up head (d ∷ ds) same few =
    let to : Base = base_of_head head in
    let all : List Duration = d ∷ ds in
    let rate = positive_rate head.rate head.scale in
    let first : base_of d ≡ to = same 0 d (omega arith) in
    let bases : bases_of all ≡ to ∷ [] = ap (λ (b : Base). fold with_base (b ∷ []) (map base_of ds)) first ∙ alone to ds (λ k e below. same (suc k) e (omega arith)) in
    let time : due head all ≡ rescaled (in_128_bits (units_of to all)) to to = ap (λ (bs : List Base). sum_by (part to (λ b. in_128_bits (units_of b all))) bs) bases ∙ zero-add _ in
    time ∙ itself_rescaled to (in_128_bits (units_of to all)) (mul-pos rate.0 rate.1) ∙ in_range to all few ∙ all_units to all same
