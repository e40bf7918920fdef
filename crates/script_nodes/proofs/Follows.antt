-- The clips that are nodes, by the clips that they use.
use Rattle.std.specs.List.{All, list_all}
use Rattle.std.specs.Prelude.{slice_index, slice_index_or, min, nat_lt, if◌then◌else◌}
use Rattle.std.proofs.Common.{◌≡◌, ℕ, zero, suc, ◌+◌, ◌-◌, ◌^◌, ◌<◌, ◌≤◌, Bool, true, List, [], ◌∷◌, ◌++◌, length, get_or, refl, sym, ap, subst, ◌∙◌, arith}
use Rattle.std.proofs.lemmas.List.Elements.{All-push}
use Rattle.std.proofs.lemmas.Bool.{ltb-true, lt-ltb, le-ltb, leb-true, cond-true, cond-false}
use Rattle.script_nodes.specs.declared.nodes.Node.{Node}
use Rattle.script_nodes.specs.declared.nodes.Node.TheVariants.{Source, Trim, Splice, Crop, Fade, Parts}
use Rattle.script_nodes.specs.declared.part_list.Part.{Part}
use Rattle.script_nodes.specs.declared.nodes.Area.{Area}
use Rattle.script_nodes.specs.declared.nodes.Ramp.{Ramp}
use Rattle.script_nodes.specs.declared.traces.Step.{Step}
use Rattle.script_nodes.specs.declared.traces.Step.TheVariants.{Cut, Weigh}
use Rattle.script_nodes.specs.Nodes.{uses_below, all_use_below, has_numbers, is_area}
use Rattle.script_nodes.specs.Lengths.{has_clip, lengths, node_length, part_length, parts_length, place_in}
use Rattle.script_nodes.specs.PartLists.{most_frames}
use Rattle.script_nodes.specs.Frames.{Origin, origin, with_step, node_frame, frames, parts_frame, weight_at}
use Rattle.script_nodes.specs.Traces.{IsStep}
use Rattle.script_nodes.specs.Scripts.{Given, origin_of}
use Rattle.script_nodes.proofs.PartSums.{frame_placed, parts_used, place_inside}
use Rattle.script_nodes.proofs.Uses.{both}
use Rattle.script_nodes.proofs.Built.{IsLocal, built_at, built_below, length-built}

-- parts have the same number of frames over clips of the same lengths
parts_length_same : (n : ℕ) (below all : List ℕ) (parts : List Part) → list_all (λ part. nat_lt part.clip n) parts ≡ true → ((k d : ℕ) → k < n → get_or all k d ≡ get_or below k d) → parts_length all parts ≡ parts_length below parts
parts_length_same n below all [] uses same = refl
parts_length_same n below all (part ∷ parts) uses same =
    ap (λ (k : ℕ). min part.count (k - part.first) + parts_length all parts) (same part.clip 0 (ltb-true part.clip n (both _ _ uses).0))
    ∙ ap (λ (k : ℕ). part_length below part + k) (parts_length_same n below all parts (both _ _ uses).1 same)

length_same : (counts : List ℕ) (n : ℕ) (below all : List ℕ) (node : Node) → uses_below n node ≡ true → ((k d : ℕ) → k < n → get_or all k d ≡ get_or below k d) → node_length counts all node ≡ node_length counts below node
length_same counts n below all (Source number) uses same = refl
length_same counts n below all (Trim clip first count) uses same = ap (λ k. min count (k - first)) (same clip 0 (ltb-true clip n uses))
length_same counts n below all (Splice front back) uses same =
    let used = both _ _ uses in
    rw (same front 0 (ltb-true front n used.0), same back 0 (ltb-true back n used.1)) refl
length_same counts n below all (Crop clip area) uses same = same clip 0 (ltb-true clip n uses)
length_same counts n below all (Fade clip ramp) uses same = same clip 0 (ltb-true clip n uses)
length_same counts n below all (Parts parts) uses same = parts_length_same n below all parts uses same

lengths_local : (counts : List ℕ) → IsLocal (node_length counts)
lengths_local counts = record { same = length_same counts }

module _ {A : Type 0} (made : Step → A → A) (clip_lengths : List ℕ) (sources : ℕ → ℕ → A) where
  parts_frame_same : (n : ℕ) (below all : List (ℕ → A)) (parts : List Part) → list_all (λ part. nat_lt part.clip n) parts ≡ true → ((k : ℕ) (d : ℕ → A) → k < n → get_or all k d ≡ get_or below k d) → parts_frame clip_lengths all (sources 0) parts ≡ parts_frame clip_lengths below (sources 0) parts
  parts_frame_same n below all [] uses same = refl
  parts_frame_same n below all (part ∷ parts) uses same =
      ap (λ (f : ℕ → A). λ (i : ℕ). if nat_lt i (part_length clip_lengths part) then f (part.first + i) else parts_frame clip_lengths all (sources 0) parts (i - part_length clip_lengths part)) (same part.clip (sources 0) (ltb-true part.clip n (both _ _ uses).0))
      ∙ ap (λ (f : ℕ → A). λ (i : ℕ). if nat_lt i (part_length clip_lengths part) then get_or below part.clip (sources 0) (part.first + i) else f (i - part_length clip_lengths part)) (parts_frame_same n below all parts (both _ _ uses).1 same)

  frame_same : (n : ℕ) (below all : List (ℕ → A)) (node : Node) → uses_below n node ≡ true → ((k : ℕ) (d : ℕ → A) → k < n → get_or all k d ≡ get_or below k d) → node_frame made clip_lengths sources all node ≡ node_frame made clip_lengths sources below node
  frame_same n below all (Source number) uses same = refl
  frame_same n below all (Trim clip first count) uses same = ap (λ (f : ℕ → A). λ (i : ℕ). f (first + i)) (same clip (sources 0) (ltb-true clip n uses))
  frame_same n below all (Splice front back) uses same =
      let used = both _ _ uses in
      ap (λ (f : ℕ → A). λ (i : ℕ). if nat_lt i (slice_index clip_lengths front) then f i else get_or all back (sources 0) (i - slice_index clip_lengths front)) (same front (sources 0) (ltb-true front n used.0))
      ∙ ap (λ (f : ℕ → A). λ (i : ℕ). if nat_lt i (slice_index clip_lengths front) then get_or below front (sources 0) i else f (i - slice_index clip_lengths front)) (same back (sources 0) (ltb-true back n used.1))
  frame_same n below all (Crop clip area) uses same = ap (λ (f : ℕ → A). λ (i : ℕ). made (Cut area) (f i)) (same clip (sources 0) (ltb-true clip n uses))
  frame_same n below all (Fade clip ramp) uses same = ap (λ (f : ℕ → A). λ (i : ℕ). made (Weigh (weight_at ramp i)) (f i)) (same clip (sources 0) (ltb-true clip n uses))
  frame_same n below all (Parts parts) uses same = parts_frame_same n below all parts uses same

  -- the frames of a node, by the frames of all clips
  pub frames_at : (nodes : List Node) (clip : ℕ) (e : Node) → all_use_below 1 nodes ≡ true → 0 < clip → clip ≤ length nodes → get_or (frames made clip_lengths sources nodes) clip (sources 0) ≡ node_frame made clip_lengths sources (frames made clip_lengths sources nodes) (get_or nodes (clip - 1) e)
  frames_at nodes clip e uses some within =
      let place : 1 + (clip - 1) ≡ clip = omega arith in
      sym (ap (λ k. get_or (frames made clip_lengths sources nodes) k (sources 0)) place)
      ∙ built_at (node_frame made clip_lengths sources) (record { same = frame_same }) (sources 0 ∷ []) nodes (clip - 1) (sources 0) e uses (omega arith)

-- the number of frames of a node, by the numbers of all clips
pub lengths_at : (counts : List ℕ) (nodes : List Node) (clip : ℕ) (e : Node) → all_use_below 1 nodes ≡ true → 0 < clip → clip ≤ length nodes → slice_index (lengths counts nodes) clip ≡ node_length counts (lengths counts nodes) (get_or nodes (clip - 1) e)
lengths_at counts nodes clip e uses some within =
    let place : 1 + (clip - 1) ≡ clip = omega arith in
    sym (ap (λ k. get_or (lengths counts nodes) k 0) place)
    ∙ built_at (node_length counts) (lengths_local counts) (slice_index counts 0 ∷ []) nodes (clip - 1) 0 e uses (omega arith)

-- a node uses only clips below it
pub uses_from : (own : ℕ) (nodes : List Node) (k : ℕ) (e : Node) → all_use_below own nodes ≡ true → k < length nodes → uses_below (own + k) (get_or nodes k e) ≡ true
uses_from own [] k e uses within = absurd (omega arith)
uses_from own (node ∷ nodes) zero e uses within = let same : own + 0 ≡ own = omega arith in rw same (both _ _ uses).0
uses_from own (node ∷ nodes) (suc k) e uses within =
    let same : own + suc k ≡ own + 1 + k = omega arith in
    rw same (uses_from (own + 1) nodes k e (both _ _ uses).1 (omega arith))

-- what holds of a clip of a script that is a node
pub record IsClip (counts : List ℕ) (clip_lengths : List ℕ) (clip : ℕ) (node : Node) : Type 0 where
  pub uses : uses_below clip node ≡ true
  pub count : slice_index clip_lengths clip ≡ node_length counts clip_lengths node

-- a clip of a script is the node at the index before its number
pub record IsNode (counts : List ℕ) (nodes : List Node) (clip_lengths : List ℕ) (clip : ℕ) (e node : Node) : Type 0 where
  pub given : Given counts nodes clip_lengths
  pub some : 0 < clip
  pub within : clip ≤ length nodes
  pub is : get_or nodes (clip - 1) e ≡ node

clip_is : (counts : List ℕ) (nodes : List Node) (clip_lengths : List ℕ) (clip : ℕ) (e node : Node) → IsNode counts nodes clip_lengths clip e node → IsClip counts clip_lengths clip node
clip_is counts nodes clip_lengths clip e node n = record {
  uses = let place : 1 + (clip - 1) ≡ clip = omega (arith, n.some) in subst (λ (k : ℕ). uses_below k node ≡ true) place (subst (λ (m : Node). uses_below (1 + (clip - 1)) m ≡ true) n.is (uses_from 1 nodes (clip - 1) e n.given.script.below (omega (arith, n.some, n.within))));
  count = subst (λ (m : Node). slice_index clip_lengths clip ≡ node_length counts clip_lengths m) n.is
      (subst (λ (l : List ℕ). slice_index l clip ≡ node_length counts l (get_or nodes (clip - 1) e)) (sym n.given.counted) (lengths_at counts nodes clip e n.given.script.below n.some n.within));
}

-- the number of clips of a script
pub given_long : (counts : List ℕ) (nodes : List Node) (clip_lengths : List ℕ) → Given counts nodes clip_lengths → length clip_lengths ≡ length nodes + 1
given_long counts nodes clip_lengths given = ap length given.counted ∙ length-built (node_length counts) (slice_index counts 0 ∷ []) nodes ∙ (let e : 1 + length nodes ≡ length nodes + 1 = omega arith in e)

-- the number of frames of source 0
pub given_first : (counts : List ℕ) (nodes : List Node) (clip_lengths : List ℕ) → Given counts nodes clip_lengths → slice_index clip_lengths 0 ≡ slice_index counts 0
given_first counts nodes clip_lengths given = ap (λ l. slice_index l 0) given.counted ∙ built_below (node_length counts) (slice_index counts 0 ∷ []) nodes 0 0 (omega arith)

module _ (counts : List ℕ) (nodes : List Node) (clip_lengths : List ℕ) (clip i : ℕ) (e : Node) where
  -- the clips that a node uses, and the frame is one of theirs
  pub source_inside : (number : ℕ) → IsNode counts nodes clip_lengths clip e (Source number) → i < slice_index clip_lengths clip → i < slice_index counts number
  source_inside number n inside = omega (arith, (clip_is counts nodes clip_lengths clip e (Source number) n).count)

  pub trim_inside : (lower first count : ℕ) → IsNode counts nodes clip_lengths clip e (Trim lower first count) → i < slice_index clip_lengths clip → (lower < clip) × (first + i < slice_index clip_lengths lower)
  trim_inside lower first count n inside =
      let c = clip_is counts nodes clip_lengths clip e (Trim lower first count) n in
      (ltb-true lower clip c.uses, omega (arith, c.count))

  pub splice_inside : (front back : ℕ) → IsNode counts nodes clip_lengths clip e (Splice front back) → i < slice_index clip_lengths clip → (front < clip) × (back < clip) × (slice_index clip_lengths front ≤ i → i - slice_index clip_lengths front < slice_index clip_lengths back)
  splice_inside front back n inside =
      let c = clip_is counts nodes clip_lengths clip e (Splice front back) n in
      (ltb-true front clip (both _ _ c.uses).0, ltb-true back clip (both _ _ c.uses).1, λ from. omega (arith, c.count))

  pub crop_inside : (lower : ℕ) (area : Area) → IsNode counts nodes clip_lengths clip e (Crop lower area) → i < slice_index clip_lengths clip → (lower < clip) × (i < slice_index clip_lengths lower)
  crop_inside lower area n inside =
      let c = clip_is counts nodes clip_lengths clip e (Crop lower area) n in
      (ltb-true lower clip c.uses, omega (arith, c.count))

  pub fade_inside : (lower : ℕ) (ramp : Ramp) → IsNode counts nodes clip_lengths clip e (Fade lower ramp) → i < slice_index clip_lengths clip → (lower < clip) × (i < slice_index clip_lengths lower)
  fade_inside lower ramp n inside =
      let c = clip_is counts nodes clip_lengths clip e (Fade lower ramp) n in
      (ltb-true lower clip c.uses, omega (arith, c.count))

  -- what is known of a frame of parts
  pub record IsPartsFrame (parts : List Part) : Type 0 where
    pub few : length clip_lengths ≤ 17
    pub uses : All (has_clip (length clip_lengths)) parts
    pub within : parts_length clip_lengths parts ≤ most_frames
    pub inside : i < parts_length clip_lengths parts
    pub below : (place_in clip_lengths parts i).0 < clip
    pub frame : (place_in clip_lengths parts i).1 < slice_index clip_lengths (place_in clip_lengths parts i).0

  pub parts_inside : (parts : List Part) → IsNode counts nodes clip_lengths clip e (Parts parts) → i < slice_index clip_lengths clip → IsPartsFrame parts
  parts_inside parts n inside =
      let c = clip_is counts nodes clip_lengths clip e (Parts parts) n in
      let here : i < parts_length clip_lengths parts = omega (arith, c.count, inside) in
      let long : length clip_lengths ≡ length nodes + 1 = given_long counts nodes clip_lengths n.given in
      let place = place_inside clip_lengths clip parts i c.uses here in
      record {
        few = omega (arith, long, n.given.script.few);
        uses = parts_used clip (length clip_lengths) parts c.uses (omega (arith, long, n.within));
        within = omega (arith, c.count, n.given.small clip);
        inside = here;
        below = place.0;
        frame = place.1;
      }

  -- the origin of a frame of source 0
  pub first_frame : clip ≡ 0 → slice_index_or (frames with_step clip_lengths origin nodes) clip (origin 0) i ≡ origin 0 i
  first_frame first =
      ap (λ k. slice_index_or (frames with_step clip_lengths origin nodes) k (origin 0) i) first
      ∙ ap (λ f. f i) (built_below (node_frame with_step clip_lengths origin) (origin 0 ∷ []) nodes 0 (origin 0) (omega arith))

  -- the origin of a frame of a node
  frame_here : (node : Node) → IsNode counts nodes clip_lengths clip e node → slice_index_or (frames with_step clip_lengths origin nodes) clip (origin 0) i ≡ node_frame with_step clip_lengths origin (frames with_step clip_lengths origin nodes) node i
  frame_here node n =
      ap (λ f. f i) (frames_at with_step clip_lengths origin nodes clip e n.given.script.below n.some n.within)
      ∙ ap (λ (m : Node). node_frame with_step clip_lengths origin (frames with_step clip_lengths origin nodes) m i) n.is

  pub source_frame : (number : ℕ) (found : Origin) → IsNode counts nodes clip_lengths clip e (Source number) → found ≡ origin number i → found ≡ slice_index_or (frames with_step clip_lengths origin nodes) clip (origin 0) i
  source_frame number found n is = is ∙ sym (frame_here (Source number) n)

  pub trim_frame : (lower first count : ℕ) (found : Origin) → IsNode counts nodes clip_lengths clip e (Trim lower first count) → found ≡ slice_index_or (frames with_step clip_lengths origin nodes) lower (origin 0) (first + i) → found ≡ slice_index_or (frames with_step clip_lengths origin nodes) clip (origin 0) i
  trim_frame lower first count found n is = is ∙ sym (frame_here (Trim lower first count) n)

  pub front_frame : (front back : ℕ) (found : Origin) → IsNode counts nodes clip_lengths clip e (Splice front back) → i < slice_index clip_lengths front → found ≡ slice_index_or (frames with_step clip_lengths origin nodes) front (origin 0) i → found ≡ slice_index_or (frames with_step clip_lengths origin nodes) clip (origin 0) i
  front_frame front back found n less is = is ∙ sym (frame_here (Splice front back) n ∙ cond-true _ _ _ (lt-ltb i (slice_index clip_lengths front) less))

  pub back_frame : (front back : ℕ) (found : Origin) → IsNode counts nodes clip_lengths clip e (Splice front back) → slice_index clip_lengths front ≤ i → found ≡ slice_index_or (frames with_step clip_lengths origin nodes) back (origin 0) (i - slice_index clip_lengths front) → found ≡ slice_index_or (frames with_step clip_lengths origin nodes) clip (origin 0) i
  back_frame front back found n from is = is ∙ sym (frame_here (Splice front back) n ∙ cond-false _ _ _ (le-ltb i (slice_index clip_lengths front) from))

  pub crop_frame : (lower : ℕ) (area : Area) (source frame : ℕ) (steps new : List Step) → IsNode counts nodes clip_lengths clip e (Crop lower area) → new ≡ steps ++ Cut area ∷ [] → origin_of source frame steps ≡ slice_index_or (frames with_step clip_lengths origin nodes) lower (origin 0) i → origin_of source frame new ≡ slice_index_or (frames with_step clip_lengths origin nodes) clip (origin 0) i
  crop_frame lower area source frame steps new n pushed is = ap (origin_of source frame) pushed ∙ ap (with_step (Cut area)) is ∙ sym (frame_here (Crop lower area) n)

  pub fade_frame : (lower : ℕ) (ramp : Ramp) (weight source frame : ℕ) (steps new : List Step) → IsNode counts nodes clip_lengths clip e (Fade lower ramp) → new ≡ steps ++ Weigh weight ∷ [] → weight ≡ weight_at ramp i → origin_of source frame steps ≡ slice_index_or (frames with_step clip_lengths origin nodes) lower (origin 0) i → origin_of source frame new ≡ slice_index_or (frames with_step clip_lengths origin nodes) clip (origin 0) i
  fade_frame lower ramp weight source frame steps new n pushed at is =
      ap (origin_of source frame) (pushed ∙ ap (λ (w : ℕ). steps ++ Weigh w ∷ []) at) ∙ ap (with_step (Weigh (weight_at ramp i))) is ∙ sym (frame_here (Fade lower ramp) n)

  pub parts_frame_at : (parts : List Part) (found : Origin) → IsNode counts nodes clip_lengths clip e (Parts parts) → i < parts_length clip_lengths parts → found ≡ slice_index_or (frames with_step clip_lengths origin nodes) (place_in clip_lengths parts i).0 (origin 0) (place_in clip_lengths parts i).1 → found ≡ slice_index_or (frames with_step clip_lengths origin nodes) clip (origin 0) i
  parts_frame_at parts found n inside is = is ∙ sym (frame_here (Parts parts) n ∙ frame_placed clip_lengths (frames with_step clip_lengths origin nodes) (origin 0) parts i inside)

-- a test of all nodes holds of each
all_hold : (p : Node → Bool) (xs : List Node) (k : ℕ) (d : Node) → list_all p xs ≡ true → k < length xs → p (get_or xs k d) ≡ true
all_hold p [] k d all within = absurd (omega arith)
all_hold p (x ∷ xs) zero d all within = (both _ _ all).0
all_hold p (x ∷ xs) (suc k) d all within = all_hold p xs k d (both _ _ all).1 (omega arith)

-- the numbers of a node of a script are allowed
pub numbers_here : (counts : List ℕ) (nodes : List Node) (clip_lengths : List ℕ) (clip : ℕ) (e node : Node) → IsNode counts nodes clip_lengths clip e node → has_numbers node ≡ true
numbers_here counts nodes clip_lengths clip e node n =
    subst (λ (m : Node). has_numbers m ≡ true) n.is (all_hold has_numbers nodes (clip - 1) e n.given.script.numbers (let h : clip - 1 < length nodes = omega (arith, n.some, n.within) in h))

-- the steps of a trace
pub step_more : (steps new : List Step) (step : Step) → All IsStep steps → IsStep step → new ≡ steps ++ step ∷ [] → All IsStep new
step_more steps new step all here is = rw is (All-push IsStep steps step all here)

pub cut_allowed : (area : Area) → is_area area ≡ true → IsStep (Cut area)
cut_allowed area h =
    let one = both _ _ h in
    let two = both _ _ one.0 in
    let three = both _ _ two.0 in
    let x = both _ _ three.0 in
    let y = both _ _ three.1 in
    let wide = both _ _ two.1 in
    let high = both _ _ one.1 in
    (ltb-true area.x (2 ^ 32) x.0, ltb-true area.y (2 ^ 32) y.0, ltb-true 0 area.width wide.0, leb-true area.width 16383 wide.1, ltb-true 0 area.height high.0, leb-true area.height 16383 high.1)
