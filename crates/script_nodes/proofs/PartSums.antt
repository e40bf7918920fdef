-- The frames of parts.
use Rattle.std.specs.List.{All, list_all}
use Rattle.std.specs.Prelude.{slice_index, min, max, nat_lt, set}
use Rattle.std.proofs.Common.{◌≡◌, ℕ, zero, suc, ◌+◌, ◌-◌, ◌<◌, ◌≤◌, Bool, true, false, List, [], ◌∷◌, length, drop, get_or, refl, sym, ap, subst, ◌∙◌, arith, add-one, get_or-set_same, get_or-set_other, inl, inr}
use Rattle.std.proofs.Math.Seq.{drop-cons}
use Rattle.std.proofs.lemmas.Bool.{lt-ltb, le-ltb, ltb-true, ltb-false, cond-true, cond-false, cases_eq}
use Rattle.std.proofs.lemmas.List.{drop_all}
use Rattle.script_nodes.specs.declared.part_list.Part.{Part}
use Rattle.script_nodes.specs.PartLists.{AreNeeds, IsNeeded, ends_from, most_frames, too_many}
use Rattle.script_nodes.specs.Frames.{parts_frame}
use Rattle.script_nodes.specs.NodeSteps.{steps_of_parts}
use Rattle.script_nodes.specs.declared.node_steps.NodeStep.{NodeStep}
use Rattle.script_nodes.proofs.Uses.{both}
use Rattle.script_nodes.specs.Lengths.{AreWhole, has_clip, part_length, parts_length, place_in}

abbrev pub no_part : Part
no_part = record { clip = 0; first = 0; count = 0 }

-- the parts starting at one
pub length_next : (clip_lengths : List ℕ) (parts : List Part) (i : ℕ) (d : Part) → i < length parts → parts_length clip_lengths (drop i parts) ≡ part_length clip_lengths (get_or parts i d) + parts_length clip_lengths (drop (i + 1) parts)
length_next clip_lengths parts i d h = rw (add-one i, drop-cons parts i d h) refl

pub length_end : (clip_lengths : List ℕ) (parts : List Part) (i : ℕ) → length parts ≤ i → parts_length clip_lengths (drop i parts) ≡ 0
length_end clip_lengths parts i h = rw (drop_all i parts h) refl

pub place_here : (clip_lengths : List ℕ) (parts : List Part) (i k : ℕ) (d : Part) → i < length parts → k < part_length clip_lengths (get_or parts i d) → place_in clip_lengths (drop i parts) k ≡ ((get_or parts i d).clip, (get_or parts i d).first + k)
place_here clip_lengths parts i k d h less =
    ap (λ (ps : List Part). place_in clip_lengths ps k) (drop-cons parts i d h) ∙ cond-true _ _ _ (lt-ltb k (part_length clip_lengths (get_or parts i d)) less)

pub place_later : (clip_lengths : List ℕ) (parts : List Part) (i k : ℕ) (d : Part) → i < length parts → part_length clip_lengths (get_or parts i d) ≤ k → place_in clip_lengths (drop i parts) k ≡ place_in clip_lengths (drop (i + 1) parts) (k - part_length clip_lengths (get_or parts i d))
place_later clip_lengths parts i k d h from =
    ap (λ (ps : List Part). place_in clip_lengths ps k) (drop-cons parts i d h) ∙ cond-false _ _ _ (le-ltb k (part_length clip_lengths (get_or parts i d)) from)
    ∙ ap (λ (n : ℕ). place_in clip_lengths (drop n parts) (k - part_length clip_lengths (get_or parts i d))) (sym (add-one i))

pub place_end : (clip_lengths : List ℕ) (parts : List Part) (i k : ℕ) → length parts ≤ i → place_in clip_lengths (drop i parts) k ≡ (0, k)
place_end clip_lengths parts i k h = rw (drop_all i parts h) refl

-- the sums of the parts starting at one
pub ends_next : (total : ℕ) (parts : List Part) (i : ℕ) (d : Part) → i < length parts → ends_from total (drop i parts) ≡ min too_many (total + (get_or parts i d).count) ∷ ends_from (min too_many (total + (get_or parts i d).count)) (drop (i + 1) parts)
ends_next total parts i d h = rw (add-one i, drop-cons parts i d h) refl

pub ends_end : (total : ℕ) (parts : List Part) (i : ℕ) → length parts ≤ i → ends_from total (drop i parts) ≡ []
ends_end total parts i h = rw (drop_all i parts h) refl

pub length-ends : (total : ℕ) (parts : List Part) → length (ends_from total parts) ≡ length parts
length-ends total [] = refl
length-ends total (part ∷ parts) = ap suc (length-ends (min too_many (total + part.count)) parts)

-- each sum is at least the ones before it
ends_above : (total : ℕ) (parts : List Part) (k : ℕ) → total ≤ too_many → k < length (ends_from total parts) → total ≤ get_or (ends_from total parts) k 0
ends_above total [] k small h = absurd (omega arith)
ends_above total (part ∷ parts) zero small h = omega arith
ends_above total (part ∷ parts) (suc k) small h =
    let rest : min too_many (total + part.count) ≤ get_or (ends_from (min too_many (total + part.count)) parts) k 0 = ends_above (min too_many (total + part.count)) parts k (omega arith) (omega arith) in
    omega (arith, rest, small)

pub ends_ascend : (total : ℕ) (parts : List Part) (i j : ℕ) → total ≤ too_many → i ≤ j → j < length (ends_from total parts) → get_or (ends_from total parts) i 0 ≤ get_or (ends_from total parts) j 0
ends_ascend total [] i j small order h = absurd (omega arith)
ends_ascend total (part ∷ parts) zero zero small order h = omega arith
ends_ascend total (part ∷ parts) zero (suc j) small order h = ends_above (min too_many (total + part.count)) parts j (omega arith) (omega arith)
ends_ascend total (part ∷ parts) (suc i) zero small order h = absurd (omega arith)
ends_ascend total (part ∷ parts) (suc i) (suc j) small order h = ends_ascend (min too_many (total + part.count)) parts i j (omega arith) (omega arith) (omega arith)

-- where a part starts, by the sums
abbrev pub start_of : ℕ → List ℕ → ℕ → ℕ
start_of total ends zero = total
start_of total ends (suc at) = slice_index ends at

pub start_is : (ends : List ℕ) (at start : ℕ) → (at ≡ 0 → start ≡ 0) → (0 < at → start ≡ slice_index ends (at - 1)) → start ≡ start_of 0 ends at
start_is ends zero start first later = first refl
start_is ends (suc at) start first later = let e : suc at - 1 ≡ at = omega arith in later (omega arith) ∙ ap (slice_index ends) e

start_rest : (total end : ℕ) (ends : List ℕ) (at : ℕ) → start_of total (end ∷ ends) (suc at) ≡ start_of end ends at
start_rest total end ends zero = refl
start_rest total end ends (suc at) = refl

whole_first : (clip_lengths : List ℕ) (part : Part) (parts : List Part) → AreWhole clip_lengths (part ∷ parts) → part_length clip_lengths part ≡ part.count
whole_first clip_lengths part parts whole = whole 0 no_part (omega arith)

whole_rest : (clip_lengths : List ℕ) (part : Part) (parts : List Part) → AreWhole clip_lengths (part ∷ parts) → AreWhole clip_lengths parts
whole_rest clip_lengths part parts whole = λ k d h. whole (suc k) d (omega (arith, h))

-- the last sum is the number of frames, if no part is cut short
end_is : (clip_lengths : List ℕ) (parts : List Part) (total : ℕ) → AreWhole clip_lengths parts → total + parts_length clip_lengths parts ≤ most_frames → start_of total (ends_from total parts) (length parts) ≡ total + parts_length clip_lengths parts
end_is clip_lengths [] total whole within = (let e : total ≡ total + 0 = omega arith in e)
end_is clip_lengths (part ∷ parts) total whole within =
    let here : part_length clip_lengths part ≡ part.count = whole_first clip_lengths part parts whole in
    let next : min too_many (total + part.count) ≡ total + part_length clip_lengths part = omega (arith, here, within) in
    start_rest total (min too_many (total + part.count)) (ends_from (min too_many (total + part.count)) parts) (length parts)
    ∙ ap (λ (t : ℕ). start_of t (ends_from t parts) (length parts)) next
    ∙ end_is clip_lengths parts (total + part_length clip_lengths part) (whole_rest clip_lengths part parts whole) (omega (arith, within))
    ∙ (let e : total + part_length clip_lengths part + parts_length clip_lengths parts ≡ total + (part_length clip_lengths part + parts_length clip_lengths parts) = omega arith in e)

pub whole_length : (clip_lengths : List ℕ) (parts : List Part) (ends : List ℕ) (start : ℕ) → ends ≡ ends_from 0 parts → AreWhole clip_lengths parts → parts_length clip_lengths parts ≤ most_frames → start ≡ start_of 0 ends (length ends) → start ≡ parts_length clip_lengths parts
whole_length clip_lengths parts ends start summed whole within is =
    is ∙ ap (λ (es : List ℕ). start_of 0 es (length es)) summed ∙ ap (start_of 0 (ends_from 0 parts)) (length-ends 0 parts) ∙ end_is clip_lengths parts 0 whole (omega (arith, within)) ∙ (let e : 0 + parts_length clip_lengths parts ≡ parts_length clip_lengths parts = omega arith in e)

-- the index of the first sum above a frame
pub record IsSplitAt (frame : ℕ) (ends : List ℕ) (at : ℕ) : Type 0 where
  pub before : (j : ℕ) → j < at → get_or ends j 0 ≤ frame
  pub after : (j : ℕ) → at ≤ j → j < length ends → frame < get_or ends j 0

split_rest : (frame end : ℕ) (ends : List ℕ) (at : ℕ) → IsSplitAt frame (end ∷ ends) (suc at) → IsSplitAt frame ends at
split_rest frame end ends at split = record {
  before = λ j less. split.before (suc j) (omega (arith, less));
  after = λ j from less. split.after (suc j) (omega (arith, from)) (omega (arith, less));
}

-- where a frame of parts is
pub record IsPlacedAt (clip_lengths : List ℕ) (parts : List Part) (total frame at : ℕ) : Type 0 where
  pub within : at < length parts
  pub started : start_of total (ends_from total parts) at ≤ frame
  pub place : (d : Part) → place_in clip_lengths parts (frame - total) ≡ ((get_or parts at d).clip, (get_or parts at d).first + (frame - start_of total (ends_from total parts) at))
  pub inside : (d : Part) → frame - start_of total (ends_from total parts) at < part_length clip_lengths (get_or parts at d)

placed_at : (clip_lengths : List ℕ) (parts : List Part) (total frame at : ℕ) → AreWhole clip_lengths parts → total + parts_length clip_lengths parts ≤ most_frames → total ≤ frame → frame < total + parts_length clip_lengths parts → IsSplitAt frame (ends_from total parts) at → IsPlacedAt clip_lengths parts total frame at
placed_at clip_lengths [] total frame at whole within from inside split = absurd (omega (arith, from, inside))
placed_at clip_lengths (part ∷ parts) total frame zero whole within from inside split =
    let here : part_length clip_lengths part ≡ part.count = whole_first clip_lengths part parts whole in
    let above : frame < min too_many (total + part.count) = split.after 0 (omega arith) (omega arith) in
    let less : frame - total < part_length clip_lengths part = omega (arith, here, above, from) in
    record {
      within = omega arith;
      started = from;
      place = λ d. cond-true _ _ _ (lt-ltb (frame - total) (part_length clip_lengths part) less);
      inside = λ d. less;
    }
placed_at clip_lengths (part ∷ parts) total frame (suc at) whole within from inside split =
    let here : part_length clip_lengths part ≡ part.count = whole_first clip_lengths part parts whole in
    let end : ℕ = min too_many (total + part.count) in
    let next : end ≡ total + part_length clip_lengths part = omega (arith, here, within) in
    let below : end ≤ frame = split.before 0 (omega arith) in
    let rest : IsPlacedAt clip_lengths parts end frame at = placed_at clip_lengths parts end frame at (whole_rest clip_lengths part parts whole) (omega (arith, within, next)) below (omega (arith, inside, next)) (split_rest frame end (ends_from end parts) at split) in
    let same : start_of total (end ∷ ends_from end parts) (suc at) ≡ start_of end (ends_from end parts) at = start_rest total end (ends_from end parts) at in
    let left : frame - total - part_length clip_lengths part ≡ frame - end = omega (arith, next) in
    record {
      within = omega (arith, rest.within);
      started = rw same rest.started;
      place = λ d. cond-false _ _ _ (le-ltb (frame - total) (part_length clip_lengths part) (omega (arith, below, next, from))) ∙ ap (place_in clip_lengths parts) left ∙ rest.place d ∙ ap (λ (s : ℕ). ((get_or parts at d).clip, (get_or parts at d).first + (frame - s))) (sym same);
      inside = λ d. rw same (rest.inside d);
    }

pub whole_placed : (clip_lengths : List ℕ) (parts : List Part) (ends : List ℕ) (frame at : ℕ) → ends ≡ ends_from 0 parts → AreWhole clip_lengths parts → parts_length clip_lengths parts ≤ most_frames → frame < parts_length clip_lengths parts → IsSplitAt frame ends at → IsPlacedAt clip_lengths parts 0 frame at
whole_placed clip_lengths parts ends frame at summed whole within inside split = placed_at clip_lengths parts 0 frame at whole (omega (arith, within)) (omega arith) (omega (arith, inside)) (rw summed at split)

-- no part is cut short, if each clip has as many frames as its parts need
pub whole_by_needs : (clip_lengths needs : List ℕ) (parts : List Part) → length clip_lengths ≤ 17 → All (has_clip (length clip_lengths)) parts → ((k : ℕ) → slice_index clip_lengths k ≤ most_frames) → AreNeeds parts needs → ((k : ℕ) → k < 17 → slice_index needs k ≤ slice_index clip_lengths k) → AreWhole clip_lengths parts
whole_by_needs clip_lengths needs parts few uses small needed met = λ k d h.
    let part : Part = get_or parts k d in
    let used : part.clip < length clip_lengths = uses k d h in
    let clip_is : min part.clip 16 ≡ part.clip = omega (arith, used, few) in
    let need : min too_many (part.first + part.count) ≤ slice_index needs part.clip = rw clip_is at (needed k d h) in
    let enough : slice_index needs part.clip ≤ slice_index clip_lengths part.clip = met part.clip (omega (arith, used, few)) in
    omega (arith, need, enough, small part.clip)

pub ends_sorted : (ends : List ℕ) (parts : List Part) → ends ≡ ends_from 0 parts → (i j : ℕ) → i ≤ j → j < length ends → get_or ends i 0 ≤ get_or ends j 0
ends_sorted ends parts summed i j order within =
    let inside : j < length (ends_from 0 parts) = rw summed at within in
    rw summed (ends_ascend 0 parts i j (omega arith) order inside)

pub start_here : (ends : List ℕ) (parts : List Part) (at start : ℕ) → ends ≡ ends_from 0 parts → (at ≡ 0 → start ≡ 0) → (0 < at → start ≡ slice_index ends (at - 1)) → start ≡ start_of 0 (ends_from 0 parts) at
start_here ends parts at start summed first later = start_is ends at start first later ∙ ap (λ (es : List ℕ). start_of 0 es at) summed

-- the place that the code computes
pub place_is : (clip_lengths : List ℕ) (parts : List Part) (frame at start : ℕ) (part : Part) → IsPlacedAt clip_lengths parts 0 frame at → start ≡ start_of 0 (ends_from 0 parts) at → part ≡ get_or parts at part → (place_in clip_lengths parts frame ≡ (part.clip, part.first + (frame - start))) × (part.first + (frame - start) < slice_index clip_lengths part.clip)
place_is clip_lengths parts frame at start part placed is here =
    let all : frame ≡ frame - 0 = omega arith in
    let begin : ℕ = start_of 0 (ends_from 0 parts) at in
    let left : frame - begin < part_length clip_lengths part = subst (λ (p : Part). frame - begin < part_length clip_lengths p) (sym here) (placed.inside part) in (
      ap (place_in clip_lengths parts) all ∙ placed.place part ∙ ap (λ (p : Part). (p.clip, p.first + (frame - begin))) (sym here) ∙ ap (λ (s : ℕ). (part.clip, part.first + (frame - s))) (sym is),
      omega (arith, left, is),
    )

-- the needs after one more part
same_part : (parts : List Part) (i : ℕ) (d e : Part) → i < length parts → get_or parts i d ≡ get_or parts i e
same_part [] i d e h = absurd (omega arith)
same_part (part ∷ parts) zero d e h = refl
same_part (part ∷ parts) (suc i) d e h = same_part parts i d e (omega (arith, h))

kept : (needs : List ℕ) (clip value k : ℕ) → clip < length needs → slice_index needs clip ≤ value → slice_index needs k ≤ slice_index (set needs clip value) k
kept needs clip value k within more = elim (cases_eq k clip) [
  | inl same ↦ rw (same, get_or-set_same needs clip value 0 within) more
  | inr other ↦ rw (get_or-set_other needs clip k value 0 other) (omega arith)
]

pub needs_next : (needs : List ℕ) (parts : List Part) (i clip need value : ℕ) (e : Part) → length needs ≡ 17 → i < length parts → clip ≡ min (get_or parts i e).clip 16 → need ≡ min too_many ((get_or parts i e).first + (get_or parts i e).count) → value ≡ max (slice_index needs clip) need → ((k : ℕ) (d : Part) → k < i → IsNeeded needs (get_or parts k d)) → (k : ℕ) (d : Part) → k < i + 1 → IsNeeded (set needs clip value) (get_or parts k d)
needs_next needs parts i clip need value e long within clip_is need_is value_is before k d less = elim (cases_eq k i) [
  | inl same ↦
      let here : get_or parts k d ≡ get_or parts i e = ap (λ (n : ℕ). get_or parts n d) same ∙ same_part parts i d e within in
      rw here (rw (sym clip_is, get_or-set_same needs clip value 0 (omega (arith, clip_is, long))) (omega (arith, need_is, value_is)))
  | inr other ↦
      let old : IsNeeded needs (get_or parts k d) = before k d (omega (arith, less, other)) in
      let more : slice_index needs (min (get_or parts k d).clip 16) ≤ slice_index (set needs clip value) (min (get_or parts k d).clip 16) = kept needs clip value (min (get_or parts k d).clip 16) (omega (arith, clip_is, long)) (omega (arith, value_is)) in
      omega (arith, old, more)
]

-- a test of all parts holds of each
all_parts_hold : (p : Part → Bool) (parts : List Part) (k : ℕ) (d : Part) → list_all p parts ≡ true → k < length parts → p (get_or parts k d) ≡ true
all_parts_hold p [] k d all within = absurd (omega arith)
all_parts_hold p (x ∷ xs) zero d all within = (both _ _ all).0
all_parts_hold p (x ∷ xs) (suc k) d all within = all_parts_hold p xs k d (both _ _ all).1 (omega (arith, within))

pub parts_used : (own n : ℕ) (parts : List Part) → list_all (λ part. nat_lt part.clip own) parts ≡ true → own ≤ n → All (has_clip n) parts
parts_used own n parts uses within = λ k d h.
    let less : (get_or parts k d).clip < own = ltb-true (get_or parts k d).clip own (all_parts_hold (λ part. nat_lt part.clip own) parts k d uses h) in
    omega (arith, less, within)

-- a frame of parts is one of a clip that they use
pub place_inside : (clip_lengths : List ℕ) (own : ℕ) (parts : List Part) (i : ℕ) → list_all (λ part. nat_lt part.clip own) parts ≡ true → i < parts_length clip_lengths parts → ((place_in clip_lengths parts i).0 < own) × ((place_in clip_lengths parts i).1 < slice_index clip_lengths (place_in clip_lengths parts i).0)
place_inside clip_lengths own [] i uses inside = absurd (omega arith)
place_inside clip_lengths own (part ∷ parts) i uses inside = by_place (nat_lt i (part_length clip_lengths part)) refl (λ from. place_inside clip_lengths own parts (i - part_length clip_lengths part) (both _ _ uses).1 (omega (arith, from, inside)))
  where
    by_place : (b : Bool) → nat_lt i (part_length clip_lengths part) ≡ b → (part_length clip_lengths part ≤ i → ((place_in clip_lengths parts (i - part_length clip_lengths part)).0 < own) × ((place_in clip_lengths parts (i - part_length clip_lengths part)).1 < slice_index clip_lengths (place_in clip_lengths parts (i - part_length clip_lengths part)).0)) → ((place_in clip_lengths (part ∷ parts) i).0 < own) × ((place_in clip_lengths (part ∷ parts) i).1 < slice_index clip_lengths (place_in clip_lengths (part ∷ parts) i).0)
    by_place true e rest =
        let less : i < part_length clip_lengths part = ltb-true i (part_length clip_lengths part) e in
        rw e (ltb-true part.clip own (both _ _ uses).0, omega (arith, less))
    by_place false e rest = rw e (rest (ltb-false i (part_length clip_lengths part) e))

-- the frames of parts by their places
pub frame_placed : {A : Type 0} (clip_lengths : List ℕ) (below : List (ℕ → A)) (none : ℕ → A) (parts : List Part) (i : ℕ) → i < parts_length clip_lengths parts → parts_frame clip_lengths below none parts i ≡ get_or below (place_in clip_lengths parts i).0 none (place_in clip_lengths parts i).1
frame_placed clip_lengths below none [] i inside = absurd (omega arith)
frame_placed {A} clip_lengths below none (part ∷ parts) i inside = by_place (nat_lt i (part_length clip_lengths part)) refl (λ from. frame_placed clip_lengths below none parts (i - part_length clip_lengths part) (omega (arith, from, inside)))
  where
    by_place : (b : Bool) → nat_lt i (part_length clip_lengths part) ≡ b → (part_length clip_lengths part ≤ i → parts_frame clip_lengths below none parts (i - part_length clip_lengths part) ≡ get_or below (place_in clip_lengths parts (i - part_length clip_lengths part)).0 none (place_in clip_lengths parts (i - part_length clip_lengths part)).1) → parts_frame clip_lengths below none (part ∷ parts) i ≡ get_or below (place_in clip_lengths (part ∷ parts) i).0 none (place_in clip_lengths (part ∷ parts) i).1
    by_place true e rest = rw e refl
    by_place false e rest = rw e (rest (ltb-false i (part_length clip_lengths part) e))

pub steps_placed : (below : ℕ → ℕ → List NodeStep) (clip_lengths : List ℕ) (parts : List Part) (i : ℕ) → i < parts_length clip_lengths parts → steps_of_parts below clip_lengths parts i ≡ below (place_in clip_lengths parts i).0 (place_in clip_lengths parts i).1
steps_placed below clip_lengths [] i inside = absurd (omega arith)
steps_placed below clip_lengths (part ∷ parts) i inside = by_place (nat_lt i (part_length clip_lengths part)) refl (λ from. steps_placed below clip_lengths parts (i - part_length clip_lengths part) (omega (arith, from, inside)))
  where
    by_place : (b : Bool) → nat_lt i (part_length clip_lengths part) ≡ b → (part_length clip_lengths part ≤ i → steps_of_parts below clip_lengths parts (i - part_length clip_lengths part) ≡ below (place_in clip_lengths parts (i - part_length clip_lengths part)).0 (place_in clip_lengths parts (i - part_length clip_lengths part)).1) → steps_of_parts below clip_lengths (part ∷ parts) i ≡ below (place_in clip_lengths (part ∷ parts) i).0 (place_in clip_lengths (part ∷ parts) i).1
    by_place true e rest = rw e refl
    by_place false e rest = rw e (rest (ltb-false i (part_length clip_lengths part) e))
