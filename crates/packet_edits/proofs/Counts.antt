-- Counts of flagged packets after a packet is appended, moved or changed, and flagged packets by number.
use Rattle.std.proofs.Common.{◌≡◌, ℕ, zero, suc, ◌+◌, ◌-◌, ◌<◌, ◌≤◌, Bool, true, false, List, [], ◌∷◌, ◌++◌, length, take, drop, slice_get, slice_set, Some, refl, sym, ap, ◌∙◌, arith, add-zero}
use Rattle.std.specs.List.{insert, remove}
use Rattle.chunked_list.specs.Moves.{moved}
use Rattle.packet_edits.specs.FlagCounts.{count_with, flagged_before, indexes_from}
use Rattle.packet_edits.proofs.Mapped.{length_removed, moved_is}

-- counts grow with each flagged packet
pub one_up : (n : ℕ) (flag : Bool) → count_with (suc n) flag ≡ suc (count_with n flag)
one_up n true = omega arith
one_up n false = refl

pub count_swap : (n : ℕ) (a b : Bool) → count_with (count_with n a) b ≡ count_with (count_with n b) a
count_swap n true true = refl
count_swap n true false = refl
count_swap n false true = refl
count_swap n false false = refl

pub count_least : (n : ℕ) (flag : Bool) → n ≤ count_with n flag
count_least n true = omega arith
count_least n false = omega arith

pub count_most : (n : ℕ) (flag : Bool) → count_with n flag ≤ n + 1
count_most n true = omega arith
count_most n false = omega arith

pub count_less : (a b : ℕ) (flag : Bool) → a ≤ b → count_with a flag ≤ count_with b flag
count_less a b true le = omega (arith, le)
count_less a b false le = le

-- no more packets are flagged than there are
pub flagged_few : (n : ℕ) (flags : List Bool) → flagged_before n flags ≤ n
flagged_few zero flags = omega arith
flagged_few (suc n) [] = omega arith
flagged_few (suc n) (flag ∷ flags) =
    let rest : flagged_before n flags ≤ n = flagged_few n flags in
    let one : count_with (flagged_before n flags) flag ≤ flagged_before n flags + 1 = count_most (flagged_before n flags) flag in
    omega (arith, rest, one)

-- counts never fall
pub flagged_rise : (n m : ℕ) (flags : List Bool) → n ≤ m → flagged_before n flags ≤ flagged_before m flags
flagged_rise zero m flags order = omega arith
flagged_rise (suc n) zero flags order = absurd (omega (arith, order))
flagged_rise (suc n) (suc m) [] order = omega arith
flagged_rise (suc n) (suc m) (flag ∷ flags) order = count_less (flagged_before n flags) (flagged_before m flags) flag (flagged_rise n m flags (omega (arith, order)))

-- one packet more
pub flagged_more : (n : ℕ) (flags : List Bool) (flag : Bool) → slice_get flags n ≡ Some flag → flagged_before (suc n) flags ≡ count_with (flagged_before n flags) flag
flagged_more n [] flag here = cc
flagged_more zero (f ∷ flags) flag here = let is : f ≡ flag = cc in ap (λ (b : Bool). count_with 0 b) is
flagged_more (suc n) (f ∷ flags) flag here = ap (λ k. count_with k f) (flagged_more n flags flag here) ∙ count_swap (flagged_before n flags) flag f

-- appended packets
pub flagged_append : (n : ℕ) (flags more : List Bool) → n ≤ length flags → flagged_before n (flags ++ more) ≡ flagged_before n flags
flagged_append zero flags more within = refl
flagged_append (suc n) [] more within = absurd (omega arith)
flagged_append (suc n) (f ∷ flags) more within = ap (λ k. count_with k f) (flagged_append n flags more (omega arith))

-- the first packets
pub flagged_take : (n m : ℕ) (flags : List Bool) → n ≤ m → flagged_before n (take m flags) ≡ flagged_before n flags
flagged_take zero m flags within = refl
flagged_take (suc n) zero flags within = absurd (omega (arith, within))
flagged_take (suc n) (suc m) [] within = refl
flagged_take (suc n) (suc m) (f ∷ flags) within = ap (λ k. count_with k f) (flagged_take n m flags (omega (arith, within)))

-- an inserted packet
insert_before : (n at : ℕ) (flags : List Bool) (flag : Bool) → n ≤ at → at ≤ length flags → flagged_before n (insert flags at flag) ≡ flagged_before n flags
insert_before zero at flags flag order within = refl
insert_before (suc n) zero flags flag order within = absurd (omega (arith, order))
insert_before (suc n) (suc at) [] flag order within = absurd (omega arith)
insert_before (suc n) (suc at) (f ∷ flags) flag order within = ap (λ k. count_with k f) (insert_before n at flags flag (omega (arith, order)) (omega arith))

insert_after : (n at : ℕ) (flags : List Bool) (flag : Bool) → at ≤ n → at ≤ length flags → flagged_before (suc n) (insert flags at flag) ≡ count_with (flagged_before n flags) flag
insert_after n zero flags flag order within = refl
insert_after zero (suc at) flags flag order within = absurd (omega (arith, order))
insert_after (suc n) (suc at) [] flag order within = absurd (omega arith)
insert_after (suc n) (suc at) (f ∷ flags) flag order within =
    ap (λ k. count_with k f) (insert_after n at flags flag (omega (arith, order)) (omega arith)) ∙ count_swap (flagged_before n flags) flag f

-- a removed packet
remove_before : (n at : ℕ) (flags : List Bool) → n ≤ at → flagged_before n (remove flags at) ≡ flagged_before n flags
remove_before zero at flags order = refl
remove_before (suc n) zero flags order = absurd (omega (arith, order))
remove_before (suc n) (suc at) [] order = refl
remove_before (suc n) (suc at) (f ∷ flags) order = ap (λ k. count_with k f) (remove_before n at flags (omega (arith, order)))

remove_after : (n at : ℕ) (flags : List Bool) (flag : Bool) → at ≤ n → slice_get flags at ≡ Some flag → flagged_before (suc n) flags ≡ count_with (flagged_before n (remove flags at)) flag
remove_after n at [] flag order here = cc
remove_after n zero (f ∷ flags) flag order here = let is : f ≡ flag = cc in ap (λ (b : Bool). count_with (flagged_before n flags) b) is
remove_after zero (suc at) (f ∷ flags) flag order here = absurd (omega (arith, order))
remove_after (suc n) (suc at) (f ∷ flags) flag order here =
    ap (λ k. count_with k f) (remove_after n at flags flag (omega (arith, order)) here) ∙ count_swap (flagged_before n (remove flags at)) flag f

-- a packet exchanged for another one in a count
exchanged : (n old new : ℕ) (was now : Bool) → count_with new was ≡ count_with old now → new ≡ count_with old now - count_with 0 was
exchanged n old new true now same = omega (arith, same)
exchanged n old new false now same = omega (arith, same)

-- a packet overwritten
pub set_before : (n at : ℕ) (flags : List Bool) (flag : Bool) → n ≤ at → flagged_before n (slice_set flags at flag) ≡ flagged_before n flags
set_before zero at flags flag order = refl
set_before (suc n) at [] flag order = refl
set_before (suc n) zero (f ∷ flags) flag order = absurd (omega (arith, order))
set_before (suc n) (suc at) (f ∷ flags) flag order = ap (λ k. count_with k f) (set_before n at flags flag (omega (arith, order)))

set_swapped : (n at : ℕ) (flags : List Bool) (was flag : Bool) → at < n → slice_get flags at ≡ Some was → count_with (flagged_before n (slice_set flags at flag)) was ≡ count_with (flagged_before n flags) flag
set_swapped n at [] was flag order here = cc
set_swapped zero at (f ∷ flags) was flag order here = absurd (omega (arith, order))
set_swapped (suc n) zero (f ∷ flags) was flag order here =
    let is : f ≡ was = cc in
    ap (λ (b : Bool). count_with (count_with (flagged_before n flags) flag) b) (sym is) ∙ count_swap (flagged_before n flags) flag f
set_swapped (suc n) (suc at) (f ∷ flags) was flag order here =
    count_swap (flagged_before n (slice_set flags at flag)) f was
    ∙ ap (λ k. count_with k f) (set_swapped n at flags was flag (omega (arith, order)) here)
    ∙ count_swap (flagged_before n flags) flag f

pub set_after : (n at : ℕ) (flags : List Bool) (was flag : Bool) → at < n → slice_get flags at ≡ Some was → flagged_before n (slice_set flags at flag) ≡ count_with (flagged_before n flags) flag - count_with 0 was
set_after n at flags was flag order here =
    exchanged n (flagged_before n flags) (flagged_before n (slice_set flags at flag)) was flag (set_swapped n at flags was flag order here)

-- a moved packet: counts before and after both of its indexes stay
pub move_before : (n from to : ℕ) (flags : List Bool) (flag : Bool) → slice_get flags from ≡ Some flag → from < length flags → to < length flags → n ≤ from → n ≤ to → flagged_before n (moved from to flags) ≡ flagged_before n flags
move_before n from to flags flag here out in_ below first =
    let left : suc (length (remove flags from)) ≡ length flags = length_removed flags from out in
    ap (λ (xs : List Bool). flagged_before n xs) (moved_is from to flags flag here)
    ∙ insert_before n to (remove flags from) flag first (omega (arith, left, in_)) ∙ remove_before n from flags below

pub move_after : (n from to : ℕ) (flags : List Bool) (flag : Bool) → slice_get flags from ≡ Some flag → from < length flags → to < length flags → from < n → to < n → flagged_before n (moved from to flags) ≡ flagged_before n flags
move_after zero from to flags flag here out in_ above last = absurd (omega (arith, above))
move_after (suc n) from to flags flag here out in_ above last =
    let left : suc (length (remove flags from)) ≡ length flags = length_removed flags from out in
    ap (λ (xs : List Bool). flagged_before (suc n) xs) (moved_is from to flags flag here)
    ∙ insert_after n to (remove flags from) flag (omega (arith, last)) (omega (arith, left, in_)) ∙ sym (remove_after n from flags flag (omega (arith, above)) here)

-- and between them one packet has come and another has gone
pub move_down : (n from to : ℕ) (flags : List Bool) (flag was : Bool) → slice_get flags from ≡ Some flag → from < length flags → to < length flags → to < n → n ≤ from → slice_get (moved from to flags) n ≡ Some was → flagged_before n (moved from to flags) ≡ count_with (flagged_before n flags) flag - count_with 0 was
move_down n from to flags flag was here out in_ above below next =
    let left : suc (length (remove flags from)) ≡ length flags = length_removed flags from out in
    let now : List Bool = moved from to flags in
    exchanged n (flagged_before n flags) (flagged_before n now) was flag
    (sym (flagged_more n now was next)
    ∙ ap (λ (xs : List Bool). flagged_before (suc n) xs) (moved_is from to flags flag here)
    ∙ insert_after n to (remove flags from) flag (omega (arith, above)) (omega (arith, left, in_))
    ∙ ap (λ k. count_with k flag) (remove_before n from flags below))

pub move_up : (n from to : ℕ) (flags : List Bool) (flag now : Bool) → slice_get flags from ≡ Some flag → from < length flags → to < length flags → from < n → n ≤ to → slice_get (moved from to flags) (n - 1) ≡ Some now → flagged_before n (moved from to flags) ≡ count_with (flagged_before n flags) now - count_with 0 flag
move_up zero from to flags flag now here out in_ above below last = absurd (omega (arith, above))
move_up (suc n) from to flags flag now here out in_ above below last =
    let left : suc (length (remove flags from)) ≡ length flags = length_removed flags from out in
    let result : List Bool = moved from to flags in
    let one : suc n - 1 ≡ n = omega arith in
    let last_is : slice_get result n ≡ Some now = ap (λ (i : ℕ). slice_get result i) (sym one) ∙ last in
    let rest : flagged_before n result ≡ flagged_before n (remove flags from) =
    ap (λ (xs : List Bool). flagged_before n xs) (moved_is from to flags flag here) ∙ insert_before n to (remove flags from) flag (omega (arith, below)) (omega (arith, left, in_)) in
    exchanged n (flagged_before (suc n) flags) (flagged_before (suc n) result) flag now
    (ap (λ k. count_with k flag) (flagged_more n result now last_is ∙ ap (λ k. count_with k now) rest)
    ∙ count_swap (flagged_before n (remove flags from)) now flag
    ∙ ap (λ k. count_with k now) (sym (remove_after n from flags flag (omega (arith, above)) here)))

-- the flagged packets after the first n
pub indexes_after : (place n k : ℕ) (flags : List Bool) → n ≤ length flags → flagged_before n flags ≤ k → slice_get (indexes_from place flags) k ≡ slice_get (indexes_from (place + n) (drop n flags)) (k - flagged_before n flags)
indexes_after place zero k flags within enough = ap (λ (p : ℕ). slice_get (indexes_from p flags) k) (sym (add-zero place)) ∙ ap (λ (i : ℕ). slice_get (indexes_from (place + 0) flags) i) (omega arith)
indexes_after place (suc n) k [] within enough = absurd (omega arith)
indexes_after place (suc n) zero (true ∷ flags) within enough = absurd (omega (arith, enough))
indexes_after place (suc n) (suc k) (true ∷ flags) within enough =
    indexes_after (place + 1) n k flags (omega arith) (omega (arith, enough))
    ∙ ap (λ (p : ℕ). slice_get (indexes_from p (drop n flags)) (k - flagged_before n flags)) (omega arith)
    ∙ ap (λ (i : ℕ). slice_get (indexes_from (place + suc n) (drop n flags)) i) (omega arith)
indexes_after place (suc n) k (false ∷ flags) within enough =
    indexes_after (place + 1) n k flags (omega arith) enough
    ∙ ap (λ (p : ℕ). slice_get (indexes_from p (drop n flags)) (k - flagged_before n flags)) (omega arith)

-- the flagged packets starting at an index, by its flag
from_here : (n : ℕ) (flags : List Bool) (flag : Bool) → slice_get flags n ≡ Some flag → drop n flags ≡ flag ∷ drop (n + 1) flags
from_here n [] flag here = cc
from_here zero (f ∷ flags) flag here = let is : f ≡ flag = cc in ap (λ b. b ∷ flags) is
from_here (suc n) (f ∷ flags) flag here = let one : suc n + 1 ≡ suc (n + 1) = omega arith in from_here n flags flag here ∙ ap (λ i. flag ∷ drop i (f ∷ flags)) (sym one)

pub one_found : (n : ℕ) (flags : List Bool) → slice_get flags n ≡ Some true → slice_get (indexes_from n (drop n flags)) 0 ≡ Some n
one_found n flags here = ap (λ fs. slice_get (indexes_from n fs) 0) (from_here n flags true here)

pub one_passed : (n k : ℕ) (flags : List Bool) → slice_get flags n ≡ Some true → slice_get (indexes_from n (drop n flags)) (suc k) ≡ slice_get (indexes_from (n + 1) (drop (n + 1) flags)) k
one_passed n k flags here = ap (λ fs. slice_get (indexes_from n fs) (suc k)) (from_here n flags true here)

pub one_skipped : (n k : ℕ) (flags : List Bool) → slice_get flags n ≡ Some false → slice_get (indexes_from n (drop n flags)) k ≡ slice_get (indexes_from (n + 1) (drop (n + 1) flags)) k
one_skipped n k flags here = ap (λ fs. slice_get (indexes_from n fs) k) (from_here n flags false here)

-- as many indexes as flagged packets
pub count_told : (place : ℕ) (flags : List Bool) → flagged_before (length flags) flags ≡ length (indexes_from place flags)
count_told place [] = refl
count_told place (true ∷ flags) = omega (arith, count_told (place + 1) flags)
count_told place (false ∷ flags) = count_told (place + 1) flags
