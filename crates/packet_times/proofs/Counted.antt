-- A clock counts the units of each base.
use Rattle.std.proofs.Common.{◌≡◌, ℕ, zero, suc, ◌+◌, ◌-◌, ◌^◌, ◌≤◌, ◌||◌, ◌==◌, min, max, Bool, true, false, cond, List, [], ◌∷◌, ◌++◌, length, map, take, drop, filter, fold, sum_by, refl, sym, ap, ◌∙◌, arith, add-one}
use Rattle.std.specs.List.{list_any, range_with_len}
use Rattle.std.proofs.lemmas.Bool.{eqb-true}
use Rattle.std.proofs.lemmas.List.{map_push, length-append, length-take, take-append-drop, take-append-le, take_all}
use Rattle.std.proofs.lemmas.List.Sums.{fold_push, sum_by-cons}
use Rattle.std.proofs.lemmas.List.Folds.{list_any-append}
use Rattle.std.proofs.lemmas.Simd.{map-map}
use Rattle.std.proofs.lemmas.List.FromFn.{map-range_with_len_more}
use Rattle.stream_files.specs.declared.streams.Head.{Head}
use Rattle.packet_times.specs.declared.durations.Duration.{Duration}
use Rattle.packet_times.specs.declared.clocks.Sum.{Sum}
use Rattle.packet_times.specs.declared.clocks.Clock.{Clock}
use Rattle.packet_times.specs.Clocks.{HasShown, added, has_base, in_units, opened, sum_of}
use Rattle.packet_times.specs.Sums.{base_of, base_of_head, bases_of, due, in_128_bits, is_base, rescaled, stamp_at, units_of, with_base}

abbrev pub Base : Type 0
Base = ℕ × ℕ

abbrev pair : ℕ → ℕ → Base
pair rate scale = (rate, scale)

-- ---- bases

pub same_base : (a b : Base) → is_base a b ≡ true → a ≡ b
same_base a b e = by_first (a.0 == b.0) (a.1 == b.1) refl refl
  where
    by_first : (c d : Bool) → (a.0 == b.0) ≡ c → (a.1 == b.1) ≡ d → a ≡ b
    by_first true true p q = ap (λ (n : ℕ). pair n a.1) (eqb-true a.0 b.0 p) ∙ ap (λ (n : ℕ). pair b.0 n) (eqb-true a.1 b.1 q)
    by_first true false p q = let bad = rw (p, q) at e in cc
    by_first false d p q = let bad = rw p at e in cc

pub bases_push : (ds : List Duration) (d : Duration) → bases_of (ds ++ d ∷ []) ≡ with_base (bases_of ds) (base_of d)
bases_push ds d = ap (λ (bs : List Base). fold with_base [] bs) (map_push base_of ds d) ∙ fold_push with_base [] (map base_of ds) (base_of d)

abbrev pub units_if : Base → Duration → ℕ
units_if base d = cond (is_base (base_of d) base) d.units 0

pub units_more : (base : Base) (d : Duration) (ds : List Duration) → units_of base (d ∷ ds) ≡ units_if base d + units_of base ds
units_more base d ds = by_first (is_base (base_of d) base) refl
  where
    by_first : (b : Bool) → is_base (base_of d) base ≡ b → units_of base (d ∷ ds) ≡ units_if base d + units_of base ds
    by_first true e = rw e (sum_by-cons (λ (x : Duration). x.units) d (filter (λ x. is_base (base_of x) base) ds))
    by_first false e = rw e (omega arith)

pub units_push : (base : Base) (ds : List Duration) (d : Duration) → units_of base (ds ++ d ∷ []) ≡ units_of base ds + units_if base d
units_push base [] d = units_more base d [] ∙ omega arith
units_push base (x ∷ ds) d = units_more base x (ds ++ d ∷ []) ∙ omega (arith, units_push base ds d, units_more base x ds)

-- ---- bases that are not among them

abbrev known_in : Base → List Base → Bool
known_in base bases = list_any (is_base base) bases

other_base : (a b : Base) → is_base a b ≡ false → is_base b a ≡ false
other_base a b differ = by_first (is_base b a) refl
  where
    by_first : (c : Bool) → is_base b a ≡ c → is_base b a ≡ false
    by_first false e = e
    by_first true e =
        let one : b ≡ a = same_base b a e in
        let first : is_base a b ≡ is_base a a = ap (λ (x : Base). is_base a x) one in
        let second : is_base b a ≡ is_base a a = ap (λ (x : Base). is_base x a) one in
        cc

differs : (base x : Base) (known : List Base) → known_in x known ≡ true → known_in base known ≡ false → is_base base x ≡ false
differs base x known among absent = by_first (is_base base x) refl
  where
    by_first : (c : Bool) → is_base base x ≡ c → is_base base x ≡ false
    by_first false e = e
    by_first true e = let one : known_in base known ≡ known_in x known = ap (λ (b : Base). known_in b known) (same_base base x e) in cc

neither : (base x : Base) (known : List Base) → known_in base (known ++ x ∷ []) ≡ false → (known_in base known ≡ false) × (is_base base x ≡ false)
neither base x known none = by_first (known_in base known) (is_base base x) refl refl (sym (list_any-append (is_base base) known (x ∷ [])) ∙ none)
  where
    by_first : (b c : Bool) → known_in base known ≡ b → is_base base x ≡ c → (known_in base known || known_in base (x ∷ [])) ≡ false → (known_in base known ≡ false) × (is_base base x ≡ false)
    by_first false false p q e = (p, q)
    by_first false true p q e = let bad = rw (p, q) at e in cc
    by_first true c p q e = let bad = rw p at e in cc

units_none : (base : Base) (d : Duration) (ds : List Duration) → is_base base (base_of d) ≡ false → units_of base ds ≡ 0 → units_of base (d ∷ ds) ≡ 0
units_none base d ds differ none = let e = other_base base (base_of d) differ in units_more base d ds ∙ rw e (omega arith)

none_of : (base : Base) (known : List Base) (ds : List Duration) → known_in base (fold with_base known (map base_of ds)) ≡ false → (known_in base known ≡ false) × (units_of base ds ≡ 0)
none_of base known [] none = (none, refl)
none_of base known (d ∷ ds) none = by_first (known_in (base_of d) known) refl (none_of base (with_base known (base_of d)) ds none)
  where
    by_first : (b : Bool) → known_in (base_of d) known ≡ b → (known_in base (with_base known (base_of d)) ≡ false) × (units_of base ds ≡ 0)
        → (known_in base known ≡ false) × (units_of base (d ∷ ds) ≡ 0)
    by_first true e rest =
        let no : known_in base known ≡ false = rw e at (rest.0) in
        (no, units_none base d ds (differs base (base_of d) known e no) rest.1)
    by_first false e rest =
        let no : known_in base (known ++ base_of d ∷ []) ≡ false = rw e at (rest.0) in
        let parts = neither base (base_of d) known no in
        (parts.0, units_none base d ds parts.1 rest.1)

pub none_counted : (base : Base) (ds : List Duration) → known_in base (bases_of ds) ≡ false → units_of base ds ≡ 0
none_counted base ds none = (none_of base [] ds none).1

-- ---- a frame more

-- the sum of a base after a frame
added_is : (d : Duration) (ds : List Duration) (base : Base) → added d (sum_of ds base) ≡ sum_of (ds ++ d ∷ []) base
added_is d ds base = by_first (is_base (base_of d) base) refl
  where
    with_units : ℕ → Sum
    with_units n = record { base = base; units = n }

    by_first : (b : Bool) → is_base (base_of d) base ≡ b → added d (sum_of ds base) ≡ sum_of (ds ++ d ∷ []) base
    by_first true e =
        let more : units_of base (ds ++ d ∷ []) ≡ units_of base ds + d.units = units_push base ds d ∙ rw e refl in
        rw e (ap (λ (n : ℕ). with_units n) (omega (arith, more)))
    by_first false e =
        let more : units_of base (ds ++ d ∷ []) ≡ units_of base ds + 0 = units_push base ds d ∙ rw e refl in
        rw e (ap (λ (n : ℕ). with_units n) (omega (arith, more)))

map_same : {A B : Type 0} (f g : A → B) → ((x : A) → f x ≡ g x) → (xs : List A) → map f xs ≡ map g xs
map_same f g same [] = refl
map_same f g same (x ∷ xs) = ap (λ y. y ∷ map f xs) (same x) ∙ ap (λ ys. g x ∷ ys) (map_same f g same xs)

has_same : (base : Base) (ds : List Duration) (bases : List Base) → list_any (has_base base) (map (sum_of ds) bases) ≡ known_in base bases
has_same base ds [] = refl
has_same base ds (b ∷ bases) = ap (λ (c : Bool). is_base base b || c) (has_same base ds bases)

opened_is : (d : Duration) (ds : List Duration) → opened (base_of d) (map (sum_of ds) (bases_of ds)) ≡ map (sum_of ds) (with_base (bases_of ds) (base_of d))
opened_is d ds = by_first (known_in (base_of d) (bases_of ds)) refl
  where
    by_first : (b : Bool) → known_in (base_of d) (bases_of ds) ≡ b → opened (base_of d) (map (sum_of ds) (bases_of ds)) ≡ map (sum_of ds) (with_base (bases_of ds) (base_of d))
    by_first true e =
        let has : list_any (has_base (base_of d)) (map (sum_of ds) (bases_of ds)) ≡ true = has_same (base_of d) ds (bases_of ds) ∙ e in
        rw (has, e) refl
    by_first false e =
        let has : list_any (has_base (base_of d)) (map (sum_of ds) (bases_of ds)) ≡ false = has_same (base_of d) ds (bases_of ds) ∙ e in
        let none : 0 ≡ in_128_bits (units_of (base_of d) ds) = omega (arith, none_counted (base_of d) ds e) in
        rw (has, e) (ap (λ (n : ℕ). map (sum_of ds) (bases_of ds) ++ record { base = base_of d; units = n } ∷ []) none ∙ sym (map_push (sum_of ds) (bases_of ds) (base_of d)))

pub sums_more : (d : Duration) (ds : List Duration) → map (added d) (opened (base_of d) (map (sum_of ds) (bases_of ds))) ≡ map (sum_of (ds ++ d ∷ [])) (bases_of (ds ++ d ∷ []))
sums_more d ds =
    ap (λ (sums : List Sum). map (added d) sums) (opened_is d ds) ∙ map-map (added d) (sum_of ds) (with_base (bases_of ds) (base_of d))
    ∙ map_same (λ b. added d (sum_of ds b)) (sum_of (ds ++ d ∷ [])) (added_is d ds) (with_base (bases_of ds) (base_of d))
    ∙ ap (λ (bs : List Base). map (sum_of (ds ++ d ∷ [])) bs) (sym (bases_push ds d))

-- ---- time stamps

due_of_bases : Head → List Duration → List Base → ℕ
due_of_bases head ds bases = sum_by (λ base. rescaled (in_128_bits (units_of base ds)) base (base_of_head head)) bases

due_counted : (head : Head) (ds : List Duration) (bases : List Base)
    → min (2 ^ 64 - 1) (sum_by (in_units (base_of_head head)) (map (sum_of ds) bases)) ≡ min (2 ^ 64 - 1) (sum_by (λ base. rescaled (in_128_bits (units_of base ds)) base (base_of_head head)) bases)
due_counted head ds [] = refl
due_counted head ds (b ∷ bases) =
    let first : ℕ = rescaled (in_128_bits (units_of b ds)) b (base_of_head head) in
    omega (arith, due_counted head ds bases, sum_by-cons (in_units (base_of_head head)) (sum_of ds b) (map (sum_of ds) bases), sum_by-cons (λ base. rescaled (in_128_bits (units_of base ds)) base (base_of_head head)) b bases)

-- the time stamps of the first frames are as they were
pub stamp_prefix : (head : Head) (n : ℕ) (xs ys : List Duration) → n ≤ length xs → stamp_at head (xs ++ ys) n ≡ stamp_at head xs n
stamp_prefix head zero xs ys few = refl
stamp_prefix head (suc n) xs ys few =
    ap (λ (ds : List Duration). min (2 ^ 64 - 1) (max (due head ds) (stamp_at head (xs ++ ys) n + 1))) (take-append-le (suc n) xs ys few)
    ∙ ap (λ (stamp : ℕ). min (2 ^ 64 - 1) (max (due head (take (suc n) xs)) (stamp + 1))) (stamp_prefix head n xs ys (omega arith))

pub stamp_more : (head : Head) (ds : List Duration) (d : Duration) (to : Base) (sums : List Sum) (old counted next new : ℕ)
    → to ≡ base_of_head head → sums ≡ map (sum_of (ds ++ d ∷ [])) (bases_of (ds ++ d ∷ [])) → old ≡ stamp_at head ds (length ds)
    → counted ≡ min (2 ^ 64 - 1) (sum_by (in_units to) sums) → next ≡ min (2 ^ 64 - 1) (old + 1) → new ≡ max counted next
    → new ≡ stamp_at head (ds ++ d ∷ []) (length (ds ++ d ∷ []))
stamp_more head ds d to sums old counted next new at are was times step made =
    let all : List Duration = ds ++ d ∷ [] in
    let more : length all ≡ suc (length ds) = length-append ds (d ∷ []) ∙ add-one (length ds) in
    let whole : take (suc (length ds)) all ≡ all = take_all (suc (length ds)) all (omega (arith, more)) in
    let before : stamp_at head all (length ds) ≡ stamp_at head ds (length ds) = stamp_prefix head (length ds) ds (d ∷ []) (omega arith) in
    let time : counted ≡ min (2 ^ 64 - 1) (due head all) =
    times ∙ ap (λ (b : Base). min (2 ^ 64 - 1) (sum_by (in_units b) sums)) at ∙ ap (λ (xs : List Sum). min (2 ^ 64 - 1) (sum_by (in_units (base_of_head head)) xs)) are ∙ due_counted head all (bases_of all) in
    let later : new ≡ min (2 ^ 64 - 1) (max (due head all) (stamp_at head all (length ds) + 1)) = omega (arith, time, before, made, step, was) in
    later ∙ ap (λ (xs : List Duration). min (2 ^ 64 - 1) (max (due head xs) (stamp_at head all (length ds) + 1))) (sym whole) ∙ ap (stamp_at head all) (sym more)

-- the clock after a frame
pub shown_more : (head : Head) (ds : List Duration) (d : Duration) (old new : Clock) (to : Base) (sums : List Sum) (counted next : ℕ)
    → HasShown head ds old → new.head ≡ old.head → new.sums.items ≡ map (added d) (opened (base_of d) old.sums.items) → sums ≡ new.sums.items
    → to ≡ base_of_head old.head → counted ≡ min (2 ^ 64 - 1) (sum_by (in_units to) sums) → next ≡ min (2 ^ 64 - 1) (old.stamp + 1) → new.stamp ≡ max counted next
    → HasShown head (ds ++ d ∷ []) new
shown_more head ds d old new to sums counted next was heads made read at times step stamp =
    let are : new.sums.items ≡ map (sum_of (ds ++ d ∷ [])) (bases_of (ds ++ d ∷ [])) = made ∙ ap (λ (xs : List Sum). map (added d) (opened (base_of d) xs)) was.sums ∙ sums_more d ds in
    record {
      of_file = heads ∙ was.of_file;
      sums = are;
      stamp = stamp_more head ds d to sums old.stamp counted next new.stamp (at ∙ ap base_of_head was.of_file) (read ∙ are) was.stamp times step stamp;
    }

-- the time stamps so far, and the next one
pub stamps_more : (head : Head) (ds : List Duration) (i : ℕ) (old new : List ℕ) (stamp : ℕ) → i ≤ length ds → old ≡ map (stamp_at head ds) (range_with_len 0 i)
    → stamp ≡ stamp_at head (take i ds) (length (take i ds)) → new ≡ old ++ stamp ∷ [] → new ≡ map (stamp_at head ds) (range_with_len 0 (i + 1))
stamps_more head ds i old new stamp within are next made =
    let long : length (take i ds) ≡ i = omega (arith, length-take i ds) in
    let same : stamp_at head (take i ds) i ≡ stamp_at head ds i =
    sym (stamp_prefix head i (take i ds) (drop i ds) (omega (arith, long))) ∙ ap (λ (xs : List Duration). stamp_at head xs i) (take-append-drop i ds) in
    let here : stamp ≡ stamp_at head ds i = next ∙ ap (λ (n : ℕ). stamp_at head (take i ds) n) long ∙ same in
    made ∙ ap (λ (xs : List ℕ). xs ++ stamp ∷ []) are ∙ ap (λ (n : ℕ). map (stamp_at head ds) (range_with_len 0 i) ++ n ∷ []) here ∙ sym (map-range_with_len_more (stamp_at head ds) 0 i i (omega arith))
