-- The counts of an index after each of its changes.
use Rattle.std.proofs.Common.{◌≡◌, ℕ, zero, suc, ◌+◌, ◌-◌, ◌*◌, ◌/◌, ◌%◌, ◌<◌, ◌≤◌, All, Bool, List, [], ◌∷◌, ◌++◌, length, min, max, take, drop, get_or, slice_get, slice_set, Some, inl, inr, refl, sym, ap, ◌∙◌, arith, zero-add, length-append}
use Rattle.std.specs.List.{insert, remove}
use Rattle.std.proofs.lemmas.Bool.{cases_lt}
use Rattle.std.proofs.lemmas.List.{get_or-take, get_or_append_left, get_or_at, get_or_default, length-set, length-take}
use Rattle.chunked_list.specs.Moves.{moved}
use Rattle.packet_edits.specs.FlagCounts.{AreCounts, count_with, flag_at, flagged_before, indexes_from}
use Rattle.packet_edits.specs.Nearest.{HoldsNowhere}
use Rattle.packet_edits.proofs.Counts.{flagged_append, flagged_few, flagged_more, flagged_rise, flagged_take, indexes_after, move_after, move_before, move_down, move_up, set_after, set_before}
use Rattle.packet_edits.proofs.Nearest.{none_between}
use Rattle.packet_edits.proofs.Mapped.{length_moved, length_removed, moved_is, stands}

-- no count is too large to rise
pub counts_small : (counts : List ℕ) (flags : List Bool) → AreCounts counts flags → All (λ count. count < 4294967295) counts
counts_small counts flags are k d within =
    let value : get_or counts k 0 ≡ flagged_before ((k + 1) * 1024) flags = are.each k within in
    let same : get_or counts k d ≡ get_or counts k 0 = get_or_default counts k d 0 within in
    let few : flagged_before ((k + 1) * 1024) flags ≤ (k + 1) * 1024 = flagged_few ((k + 1) * 1024) flags in
    omega (arith, value, same, few, within, are.many, are.few)

pub count_small : (counts : List ℕ) (flags : List Bool) (at count : ℕ) → AreCounts counts flags → at ≤ length flags → count ≡ flagged_before at flags → count < 4294967295
count_small counts flags at count are within is =
    let few : flagged_before at flags ≤ at = flagged_few at flags in
    omega (arith, few, is, within, are.few)

-- a packet whose flag is changed
pub counts_set : (counts new : List ℕ) (flags : List Bool) (at : ℕ) (was flag : Bool) → AreCounts counts flags → slice_get flags at ≡ Some was → length new ≡ length counts
    → ((k : ℕ) → k < at / 1024 → get_or new k 0 ≡ get_or counts k 0)
    → ((k : ℕ) → at / 1024 ≤ k → k < length counts → get_or new k 0 ≡ count_with (get_or counts k 0) flag - count_with 0 was) → AreCounts new (slice_set flags at flag)
counts_set counts new flags at was flag are here long before after =
    let same : length (slice_set flags at flag) ≡ length flags = length-set flags at flag in
    record {
      many = omega (arith, long, same, are.many);
      each = λ k within.
          let in_ : k < length counts = omega (arith, within, long) in
          elim (cases_lt k (at / 1024)) [
            | inl less ↦ before k less ∙ are.each k in_ ∙ sym (set_before ((k + 1) * 1024) at flags flag (omega (arith, less)))
            | inr more ↦ after k more in_ ∙ ap (λ n. count_with n flag - count_with 0 was) (are.each k in_) ∙ sym (set_after ((k + 1) * 1024) at flags was flag (omega (arith, more)) here)
          ];
      few = omega (arith, same, are.few);
    }

-- a packet that is moved up
pub counts_up : (counts new : List ℕ) (flags : List Bool) (from to : ℕ) (flag : Bool) → AreCounts counts flags → slice_get flags from ≡ Some flag → from < to → to < length flags → length new ≡ length counts
    → ((k : ℕ) → k < from / 1024 → get_or new k 0 ≡ get_or counts k 0)
    → ((k : ℕ) (now : Bool) → from / 1024 ≤ k → k < to / 1024 → slice_get (moved from to flags) ((k + 1) * 1024 - 1) ≡ Some now → get_or new k 0 ≡ count_with (get_or counts k 0) now - count_with 0 flag)
    → ((k : ℕ) → to / 1024 ≤ k → get_or new k 0 ≡ get_or counts k 0) → AreCounts new (moved from to flags)
counts_up counts new flags from to flag are here up in_ long before within after =
    let out : from < length flags = omega (arith, up, in_) in
    let same : length (moved from to flags) ≡ length flags = length_moved from to flags out in_ in
    record {
      many = omega (arith, long, same, are.many);
      each = λ k less.
          let old : k < length counts = omega (arith, less, long) in
          elim (cases_lt k (from / 1024)) [
            | inl low ↦ before k low ∙ are.each k old ∙ sym (move_before ((k + 1) * 1024) from to flags flag here out in_ (omega (arith, low)) (omega (arith, low, up)))
            | inr high ↦ (
                elim (cases_lt k (to / 1024)) [
                  | inl low ↦ (
                      let last = stands (moved from to flags) ((k + 1) * 1024 - 1) (omega (arith, same, low, in_)) in
                      within k last.element high low last.here ∙ ap (λ n. count_with n last.element - count_with 0 flag) (are.each k old)
                      ∙ sym (move_up ((k + 1) * 1024) from to flags flag last.element here out in_ (omega (arith, high)) (omega (arith, low)) last.here))
                  | inr above ↦ after k above ∙ are.each k old ∙ sym (move_after ((k + 1) * 1024) from to flags flag here out in_ (omega (arith, above, up)) (omega (arith, above)))
                ])
          ];
      few = omega (arith, same, are.few);
    }

-- and one that is moved down
pub counts_down : (counts new : List ℕ) (flags : List Bool) (from to : ℕ) (flag : Bool) → AreCounts counts flags → slice_get flags from ≡ Some flag → to ≤ from → from < length flags → length new ≡ length counts
    → ((k : ℕ) → k < to / 1024 → get_or new k 0 ≡ get_or counts k 0)
    → ((k : ℕ) (was : Bool) → to / 1024 ≤ k → k < from / 1024 → slice_get (moved from to flags) ((k + 1) * 1024) ≡ Some was → get_or new k 0 ≡ count_with (get_or counts k 0) flag - count_with 0 was)
    → ((k : ℕ) → from / 1024 ≤ k → get_or new k 0 ≡ get_or counts k 0) → AreCounts new (moved from to flags)
counts_down counts new flags from to flag are here down out long before within after =
    let in_ : to < length flags = omega (arith, down, out) in
    let same : length (moved from to flags) ≡ length flags = length_moved from to flags out in_ in
    record {
      many = omega (arith, long, same, are.many);
      each = λ k less.
          let old : k < length counts = omega (arith, less, long) in
          elim (cases_lt k (to / 1024)) [
            | inl low ↦ before k low ∙ are.each k old ∙ sym (move_before ((k + 1) * 1024) from to flags flag here out in_ (omega (arith, low, down)) (omega (arith, low)))
            | inr high ↦ (
                elim (cases_lt k (from / 1024)) [
                  | inl low ↦ (
                      let next = stands (moved from to flags) ((k + 1) * 1024) (omega (arith, same, low, out)) in
                      within k next.element high low next.here ∙ ap (λ n. count_with n flag - count_with 0 next.element) (are.each k old)
                      ∙ sym (move_down ((k + 1) * 1024) from to flags flag next.element here out in_ (omega (arith, high)) (omega (arith, low)) next.here))
                  | inr above ↦ after k above ∙ are.each k old ∙ sym (move_after ((k + 1) * 1024) from to flags flag here out in_ (omega (arith, above)) (omega (arith, above, down)))
                ])
          ];
      few = omega (arith, same, are.few);
    }

-- an appended packet
one_longer : (flags : List Bool) (flag : Bool) → length (flags ++ flag ∷ []) ≡ length flags + 1
one_longer flags flag = length-append flags (flag ∷ [])

last_of : (flags : List Bool) (flag : Bool) → slice_get (flags ++ flag ∷ []) (length flags) ≡ Some flag
last_of [] flag = refl
last_of (f ∷ flags) flag = last_of flags flag

pub counts_pushed : (counts : List ℕ) (flags : List Bool) (flag : Bool) → AreCounts counts flags → length flags < 1048576 → ((length flags + 1) % 1024 ≡ 0 → ⊥) → AreCounts counts (flags ++ flag ∷ [])
counts_pushed counts flags flag are few rest =
    let long : length (flags ++ flag ∷ []) ≡ length flags + 1 = one_longer flags flag in
    record {
      many = omega (arith, long, rest, are.many);
      each = λ k within. are.each k within ∙ sym (flagged_append ((k + 1) * 1024) flags (flag ∷ []) (omega (arith, within, are.many)));
      few = omega (arith, long, few);
    }

pub counts_filled : (counts new : List ℕ) (flags : List Bool) (flag : Bool) (count : ℕ) → AreCounts counts flags → length flags < 1048576 → (length flags + 1) % 1024 ≡ 0 → count ≡ count_with (flagged_before (length flags) flags) flag → new ≡ counts ++ count ∷ [] → AreCounts new (flags ++ flag ∷ [])
counts_filled counts new flags flag count are few whole is put =
    let long : length (flags ++ flag ∷ []) ≡ length flags + 1 = one_longer flags flag in
    let more : length new ≡ length counts + 1 = ap length put ∙ length-append counts (count ∷ []) in
    record {
      many = omega (arith, long, whole, are.many, more);
      each = λ k within.
          elim (cases_lt k (length counts)) [
            | inl less ↦ ap (λ ns. get_or ns k 0) put ∙ get_or_append_left counts (count ∷ []) 0 k less ∙ are.each k less ∙ sym (flagged_append ((k + 1) * 1024) flags (flag ∷ []) (omega (arith, less, are.many)))
            | inr end ↦ (
                let at_end : k ≡ length counts = omega (arith, end, within, more) in
                let index : (k + 1) * 1024 ≡ suc (length flags) = omega (arith, at_end, whole, are.many) in
                ap (λ ns. get_or ns k 0) put ∙ get_or_at counts count [] 0 k (sym at_end) ∙ is
                ∙ ap (λ n. count_with n flag) (sym (flagged_append (length flags) flags (flag ∷ []) (omega arith)))
                ∙ sym (ap (λ n. flagged_before n (flags ++ flag ∷ [])) index ∙ flagged_more (length flags) (flags ++ flag ∷ []) flag (last_of flags flag)))
          ];
      few = omega (arith, long, few);
    }

-- the first packets
pub counts_taken : (counts : List ℕ) (flags : List Bool) (len : ℕ) → AreCounts counts flags → AreCounts (take (len / 1024) counts) (take len flags)
counts_taken counts flags len are =
    let long : length (take len flags) ≡ min len (length flags) = length-take len flags in
    let many : length (take (len / 1024) counts) ≡ min (len / 1024) (length counts) = length-take (len / 1024) counts in
    record {
      many = omega (arith, long, many, are.many);
      each = λ k within.
          get_or-take (len / 1024) counts k 0 (omega (arith, many, within)) ∙ are.each k (omega (arith, many, within))
          ∙ sym (flagged_take ((k + 1) * 1024) len flags (omega (arith, many, within)));
      few = omega (arith, long, are.few);
    }

without_last : (flags : List Bool) (flag : Bool) → remove (flags ++ flag ∷ []) (length flags) ≡ flags
without_last [] flag = refl
without_last (f ∷ flags) flag = ap (λ xs. f ∷ xs) (without_last flags flag)

cut_insert : (flags : List Bool) (last : ℕ) (flag : Bool) → length flags ≡ last → take last (insert flags last flag) ≡ flags
cut_insert [] zero flag is = refl
cut_insert [] (suc last) flag is = absurd (omega (arith, is))
cut_insert (f ∷ flags) zero flag is = absurd (omega (arith, is))
cut_insert (f ∷ flags) (suc last) flag is = ap (λ xs. f ∷ xs) (cut_insert flags last flag (omega (arith, is)))

-- an insertion is a packet appended and moved, and a removal is one moved to the end and cut off
pub pushed_moved : (flags pushed : List Bool) (at : ℕ) (flag : Bool) → pushed ≡ flags ++ flag ∷ [] → moved (length flags) at pushed ≡ insert flags at flag
pushed_moved flags pushed at flag is =
    ap (λ xs. moved (length flags) at xs) is ∙ moved_is (length flags) at (flags ++ flag ∷ []) flag (last_of flags flag) ∙ ap (λ xs. insert xs at flag) (without_last flags flag)

pub moved_cut : (flags : List Bool) (at last : ℕ) → at < length flags → last + 1 ≡ length flags → take last (moved at last flags) ≡ remove flags at
moved_cut flags at last within end =
    let s = stands flags at within in
    ap (take last) (moved_is at last flags s.element s.here) ∙ cut_insert (remove flags at) last s.element (let left = length_removed flags at within in omega (arith, left, end))

-- the count of the first runs
pub counted_runs : (counts : List ℕ) (flags : List Bool) (runs : ℕ) → AreCounts counts flags → runs ≤ length counts → get_or (0 ∷ counts) runs 0 ≡ flagged_before (runs * 1024) flags
counted_runs counts flags zero are within = refl
counted_runs counts flags (suc runs) are within =
    let one : (runs + 1) * 1024 ≡ suc runs * 1024 = omega arith in
    are.each runs (omega (arith, within)) ∙ ap (λ n. flagged_before n flags) one

pub count_of : (counts : List ℕ) (flags now : List Bool) (runs count : ℕ) → AreCounts counts flags → flags ≡ now → runs * 1024 ≤ length now → count ≡ get_or (0 ∷ counts) runs 0 → count ≡ flagged_before (runs * 1024) now
count_of counts flags now runs count are same within is =
    let long : length flags ≡ length now = ap length same in
    is ∙ counted_runs counts flags runs are (omega (arith, within, long, are.many)) ∙ ap (flagged_before (runs * 1024)) same

-- and it is at most n if each of their counts is
pub runs_within : (counts : List ℕ) (n runs : ℕ) → ((i : ℕ) → i < runs → get_or counts i 0 ≤ n) → get_or (0 ∷ counts) runs 0 ≤ n
runs_within counts n zero below = omega arith
runs_within counts n (suc runs) below = below runs (omega arith)

-- the flagged packet that is searched
pub place_told : (counts : List ℕ) (flags : List Bool) (n whole before : ℕ) → whole * 1024 ≤ length flags → before ≡ flagged_before (whole * 1024) flags → before ≤ n → slice_get (indexes_from (whole * 1024) (drop (whole * 1024) flags)) (n - before) ≡ slice_get (indexes_from 0 flags) n
place_told counts flags n whole before within is enough =
    let fits : flagged_before (whole * 1024) flags ≤ n = omega (arith, is, enough) in
    ap (λ m. slice_get (indexes_from (whole * 1024) (drop (whole * 1024) flags)) (n - m)) is
    ∙ sym (indexes_after 0 (whole * 1024) n flags within fits ∙ ap (λ p. slice_get (indexes_from p (drop (whole * 1024) flags)) (n - flagged_before (whole * 1024) flags)) (zero-add (whole * 1024)))

-- counts ascend
pub counts_ascend : (counts : List ℕ) (flags : List Bool) → AreCounts counts flags → (i j : ℕ) → i ≤ j → j < length counts → get_or counts i 0 ≤ get_or counts j 0
counts_ascend counts flags are i j order within =
    let a : get_or counts i 0 ≡ flagged_before ((i + 1) * 1024) flags = are.each i (omega (arith, order, within)) in
    let b : get_or counts j 0 ≡ flagged_before ((j + 1) * 1024) flags = are.each j within in
    let rise : flagged_before ((i + 1) * 1024) flags ≤ flagged_before ((j + 1) * 1024) flags = flagged_rise ((i + 1) * 1024) ((j + 1) * 1024) flags (omega (arith, order)) in
    omega (arith, a, b, rise)

-- no packet is flagged between the end of the last run with a flagged packet and the end of the first runs
pub none_after : (flags : List Bool) (runs before count end : ℕ) → runs * 1024 ≤ length flags → count ≡ flagged_before (runs * 1024) flags → ((before + 1) * 1024 ≤ length flags → count - 1 < flagged_before ((before + 1) * 1024) flags) → end ≡ min ((before + 1) * 1024) (runs * 1024)
    → HoldsNowhere (flag_at flags) end (runs * 1024)
none_after flags runs before count end within is after at p from to =
    let low : (before + 1) * 1024 ≤ p = omega (arith, at, from, to) in
    let more : count - 1 < flagged_before ((before + 1) * 1024) flags = after (omega (arith, low, to, within)) in
    none_between ((before + 1) * 1024) (runs * 1024) flags (omega (arith, is, more)) p low to

-- and between the end of the first runs and the next run with a flagged packet
pub none_up_to : (flags : List Bool) (run before count start : ℕ) → count ≡ flagged_before (run * 1024) flags → flagged_before (before * 1024) flags ≤ count → start ≡ max (before * 1024) (run * 1024) → HoldsNowhere (flag_at flags) (run * 1024) start
none_up_to flags run before count start is few at p from to =
    none_between (run * 1024) (before * 1024) flags (omega (arith, is, few)) p from (omega (arith, at, from, to))
