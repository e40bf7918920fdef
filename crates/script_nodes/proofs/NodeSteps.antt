-- The steps of a frame with the numbers of their nodes.
use Rattle.std.specs.Prelude.{slice_index, slice_index_or, nat_lt}
use Rattle.std.proofs.Common.{◌≡◌, ℕ, zero, suc, ◌+◌, ◌-◌, ◌<◌, ◌≤◌, Bool, true, false, List, [], ◌∷◌, ◌++◌, length, map, get_or, refl, sym, ap, ◌∙◌, arith}
use Rattle.std.proofs.lemmas.Bool.{cond-false, cond-true, le-ltb, lt-ltb, ltb-true}
use Rattle.std.proofs.lemmas.List.{map-append}
use Rattle.std.proofs.lemmas.List.Elements.{All-push}
use Rattle.std.specs.List.{All, list_all}
use Rattle.script_nodes.specs.declared.nodes.Area.{Area}
use Rattle.script_nodes.specs.declared.nodes.Node.{Node}
use Rattle.script_nodes.specs.declared.nodes.Node.TheVariants.{Source, Trim, Splice, Crop, Fade, Parts}
use Rattle.script_nodes.specs.declared.part_list.Part.{Part}
use Rattle.script_nodes.specs.declared.nodes.Ramp.{Ramp}
use Rattle.script_nodes.specs.declared.node_steps.NodeStep.{NodeStep}
use Rattle.script_nodes.specs.declared.traces.Step.{Step}
use Rattle.script_nodes.specs.declared.traces.Step.TheVariants.{Cut, Weigh}
use Rattle.script_nodes.specs.Frames.{Origin, origin, with_step, node_frame, frames, parts_frame, weight_at}
use Rattle.script_nodes.specs.Lengths.{lengths, part_length, parts_length, place_in}
use Rattle.script_nodes.specs.Nodes.{uses_below, all_use_below}
use Rattle.script_nodes.specs.NodeSteps.{IsNodeStep, StepsAreOfNodes, steps_of_clip, steps_of_node, steps_of_parts}
use Rattle.script_nodes.proofs.Built.{built_below}
use Rattle.script_nodes.proofs.Follows.{IsNode, frames_at, uses_from}
use Rattle.script_nodes.proofs.PartSums.{steps_placed}
use Rattle.script_nodes.proofs.Uses.{both}

-- one more step
pub node_step_more : (steps new : List NodeStep) (s : NodeStep) → All IsNodeStep steps → IsNodeStep s → new ≡ steps ++ s ∷ [] → All IsNodeStep new
node_step_more steps new s all here is = rw is (All-push IsNodeStep steps s all here)

module _ (nodes : List Node) (clip_lengths : List ℕ) (uses : all_use_below 1 nodes ≡ true) where
  one_more : (steps : List NodeStep) (own : ℕ) (step : Step) (traced : List Step) → map (λ (s : NodeStep). s.step) steps ≡ traced → map (λ (s : NodeStep). s.step) (steps ++ record { node = own; step = step } ∷ []) ≡ traced ++ step ∷ []
  one_more steps own step traced same = map-append (λ (s : NodeStep). s.step) steps (record { node = own; step = step } ∷ []) ∙ ap (λ (l : List Step). l ++ step ∷ []) same

  parts_traced : (depth own : ℕ) (parts : List Part) (i : ℕ) → list_all (λ part. nat_lt part.clip own) parts ≡ true
      → ((clip j : ℕ) → clip < own → map (λ (s : NodeStep). s.step) (steps_of_clip depth nodes clip_lengths clip j) ≡ (slice_index_or (frames with_step clip_lengths origin nodes) clip (origin 0) j).steps)
      → map (λ (s : NodeStep). s.step) (steps_of_parts (steps_of_clip depth nodes clip_lengths) clip_lengths parts i) ≡ (parts_frame clip_lengths (frames with_step clip_lengths origin nodes) (origin 0) parts i).steps
  parts_traced depth own [] i below same = refl
  parts_traced depth own (part ∷ parts) i below same = by_place (nat_lt i (part_length clip_lengths part)) refl (parts_traced depth own parts (i - part_length clip_lengths part) (both _ _ below).1 same)
    where
      by_place : (b : Bool) → nat_lt i (part_length clip_lengths part) ≡ b
          → map (λ (s : NodeStep). s.step) (steps_of_parts (steps_of_clip depth nodes clip_lengths) clip_lengths parts (i - part_length clip_lengths part)) ≡ (parts_frame clip_lengths (frames with_step clip_lengths origin nodes) (origin 0) parts (i - part_length clip_lengths part)).steps
          → map (λ (s : NodeStep). s.step) (steps_of_parts (steps_of_clip depth nodes clip_lengths) clip_lengths (part ∷ parts) i) ≡ (parts_frame clip_lengths (frames with_step clip_lengths origin nodes) (origin 0) (part ∷ parts) i).steps
      by_place true e rest = rw e (same part.clip (part.first + i) (ltb-true part.clip own (both _ _ below).0))
      by_place false e rest = rw e rest

  node_traced : (depth own : ℕ) (node : Node) (i : ℕ) → uses_below own node ≡ true
      → ((clip j : ℕ) → clip < own → map (λ (s : NodeStep). s.step) (steps_of_clip depth nodes clip_lengths clip j) ≡ (slice_index_or (frames with_step clip_lengths origin nodes) clip (origin 0) j).steps)
      → map (λ (s : NodeStep). s.step) (steps_of_node (steps_of_clip depth nodes clip_lengths) clip_lengths own node i) ≡ (node_frame with_step clip_lengths origin (frames with_step clip_lengths origin nodes) node i).steps
  node_traced depth own (Source number) i below same = refl
  node_traced depth own (Trim clip first count) i below same = same clip (first + i) (ltb-true clip own below)
  node_traced depth own (Splice front back) i below same = by_place (nat_lt i (slice_index clip_lengths front)) refl
    where
      by_place : (b : Bool) → nat_lt i (slice_index clip_lengths front) ≡ b
          → map (λ (s : NodeStep). s.step) (steps_of_node (steps_of_clip depth nodes clip_lengths) clip_lengths own (Splice front back) i) ≡ (node_frame with_step clip_lengths origin (frames with_step clip_lengths origin nodes) (Splice front back) i).steps
      by_place true e = rw e (same front i (ltb-true front own (both _ _ below).0))
      by_place false e = rw e (same back (i - slice_index clip_lengths front) (ltb-true back own (both _ _ below).1))
  node_traced depth own (Crop clip area) i below same = one_more _ own (Cut area) _ (same clip i (ltb-true clip own below))
  node_traced depth own (Fade clip ramp) i below same = one_more _ own (Weigh (weight_at ramp i)) _ (same clip i (ltb-true clip own below))
  node_traced depth own (Parts parts) i below same = parts_traced depth own parts i below same

  clip_first : (i : ℕ) → (slice_index_or (frames with_step clip_lengths origin nodes) 0 (origin 0) i).steps ≡ []
  clip_first i = ap (λ (f : ℕ → Origin). (f i).steps) (built_below (node_frame with_step clip_lengths origin) (origin 0 ∷ []) nodes 0 (origin 0) (omega arith))

  pub clip_traced : (depth clip i : ℕ) → clip ≤ depth → clip ≤ length nodes → map (λ (s : NodeStep). s.step) (steps_of_clip depth nodes clip_lengths clip i) ≡ (slice_index_or (frames with_step clip_lengths origin nodes) clip (origin 0) i).steps
  clip_traced zero zero i deep within = sym (clip_first i)
  clip_traced zero (suc k) i deep within = absurd (omega arith)
  clip_traced (suc depth) zero i deep within = sym (clip_first i)
  clip_traced (suc depth) (suc k) i deep within =
      let own : 1 + k ≡ suc k = omega arith in
      let place : suc k - 1 ≡ k = omega arith in
      node_traced depth (suc k) (get_or nodes k (Source 0)) i (ap (λ (n : ℕ). uses_below n (get_or nodes k (Source 0))) (sym own) ∙ uses_from 1 nodes k (Source 0) uses (omega arith)) (λ clip j less. clip_traced depth clip j (omega arith) (omega arith))
      ∙ sym (ap (λ (f : ℕ → Origin). (f i).steps) (frames_at with_step clip_lengths origin nodes (suc k) (Source 0) uses (omega arith) within)
      ∙ ap (λ (n : ℕ). (node_frame with_step clip_lengths origin (frames with_step clip_lengths origin nodes) (get_or nodes n (Source 0)) i).steps) place)

pub of_nodes : StepsAreOfNodes
of_nodes counts nodes i script = clip_traced nodes (lengths counts nodes) script.below (length nodes) (length nodes) i (omega arith) (omega arith)

-- a node in range does not depend on the default
same_node : (nodes : List Node) (k : ℕ) (d e : Node) → k < length nodes → get_or nodes k d ≡ get_or nodes k e
same_node [] k d e h = absurd (omega arith)
same_node (node ∷ nodes) zero d e h = refl
same_node (node ∷ nodes) (suc k) d e h = same_node nodes k d e (omega (arith, h))

steps_here : (nodes : List Node) (clip_lengths : List ℕ) (depth clip i : ℕ) (e node : Node) → 0 < clip → clip ≤ depth → clip ≤ length nodes → get_or nodes (clip - 1) e ≡ node → steps_of_clip depth nodes clip_lengths clip i ≡ steps_of_node (steps_of_clip (depth - 1) nodes clip_lengths) clip_lengths clip node i
steps_here nodes clip_lengths zero clip i e node some deep within is = absurd (omega (arith, some, deep))
steps_here nodes clip_lengths (suc depth) zero i e node some deep within is = absurd (omega (arith, some))
steps_here nodes clip_lengths (suc depth) (suc k) i e node some deep within is =
    let place : suc k - 1 ≡ k = omega arith in
    let below : suc depth - 1 ≡ depth = omega arith in
    ap (λ (n : Node). steps_of_node (steps_of_clip depth nodes clip_lengths) clip_lengths (suc k) n i) (same_node nodes k (Source 0) e (omega (arith, within)) ∙ ap (λ (n : ℕ). get_or nodes n e) (sym place) ∙ is)
    ∙ ap (λ (d : ℕ). steps_of_node (steps_of_clip d nodes clip_lengths) clip_lengths (suc k) node i) (sym below)

-- the steps of a frame of a clip by those of the clips that its node uses
module _ (counts : List ℕ) (nodes : List Node) (clip_lengths : List ℕ) (depth clip i : ℕ) (e : Node) where
  steps_at : (node : Node) → IsNode counts nodes clip_lengths clip e node → clip ≤ depth → steps_of_clip depth nodes clip_lengths clip i ≡ steps_of_node (steps_of_clip (depth - 1) nodes clip_lengths) clip_lengths clip node i
  steps_at node n deep = steps_here nodes clip_lengths depth clip i e node n.some deep n.within n.is

  pub source_steps : (number : ℕ) (found : List NodeStep) → IsNode counts nodes clip_lengths clip e (Source number) → clip ≤ depth → found ≡ [] → found ≡ steps_of_clip depth nodes clip_lengths clip i
  source_steps number found n deep is = is ∙ sym (steps_at (Source number) n deep)

  pub trim_steps : (lower first count : ℕ) (found : List NodeStep) → IsNode counts nodes clip_lengths clip e (Trim lower first count) → clip ≤ depth → found ≡ steps_of_clip (depth - 1) nodes clip_lengths lower (first + i) → found ≡ steps_of_clip depth nodes clip_lengths clip i
  trim_steps lower first count found n deep is = is ∙ sym (steps_at (Trim lower first count) n deep)

  pub front_steps : (front back : ℕ) (found : List NodeStep) → IsNode counts nodes clip_lengths clip e (Splice front back) → clip ≤ depth → i < slice_index clip_lengths front → found ≡ steps_of_clip (depth - 1) nodes clip_lengths front i → found ≡ steps_of_clip depth nodes clip_lengths clip i
  front_steps front back found n deep less is = is ∙ sym (steps_at (Splice front back) n deep ∙ cond-true _ _ _ (lt-ltb i (slice_index clip_lengths front) less))

  pub back_steps : (front back : ℕ) (found : List NodeStep) → IsNode counts nodes clip_lengths clip e (Splice front back) → clip ≤ depth → slice_index clip_lengths front ≤ i → found ≡ steps_of_clip (depth - 1) nodes clip_lengths back (i - slice_index clip_lengths front) → found ≡ steps_of_clip depth nodes clip_lengths clip i
  back_steps front back found n deep from is = is ∙ sym (steps_at (Splice front back) n deep ∙ cond-false _ _ _ (le-ltb i (slice_index clip_lengths front) from))

  pub crop_steps : (lower : ℕ) (area : Area) (found new : List NodeStep) → IsNode counts nodes clip_lengths clip e (Crop lower area) → clip ≤ depth → new ≡ found ++ record { node = clip; step = Cut area } ∷ [] → found ≡ steps_of_clip (depth - 1) nodes clip_lengths lower i → new ≡ steps_of_clip depth nodes clip_lengths clip i
  crop_steps lower area found new n deep pushed is = pushed ∙ ap (λ (l : List NodeStep). l ++ record { node = clip; step = Cut area } ∷ []) is ∙ sym (steps_at (Crop lower area) n deep)

  pub fade_steps : (lower : ℕ) (ramp : Ramp) (weight : ℕ) (found new : List NodeStep) → IsNode counts nodes clip_lengths clip e (Fade lower ramp) → clip ≤ depth → new ≡ found ++ record { node = clip; step = Weigh weight } ∷ [] → weight ≡ weight_at ramp i → found ≡ steps_of_clip (depth - 1) nodes clip_lengths lower i → new ≡ steps_of_clip depth nodes clip_lengths clip i
  fade_steps lower ramp weight found new n deep pushed at is =
      pushed ∙ ap (λ (w : ℕ). found ++ record { node = clip; step = Weigh w } ∷ []) at ∙ ap (λ (l : List NodeStep). l ++ record { node = clip; step = Weigh (weight_at ramp i) } ∷ []) is ∙ sym (steps_at (Fade lower ramp) n deep)

  pub parts_steps : (parts : List Part) (place : ℕ × ℕ) (found : List NodeStep) → IsNode counts nodes clip_lengths clip e (Parts parts) → clip ≤ depth → i < parts_length clip_lengths parts → place ≡ place_in clip_lengths parts i → found ≡ steps_of_clip (depth - 1) nodes clip_lengths place.0 place.1 → found ≡ steps_of_clip depth nodes clip_lengths clip i
  parts_steps parts place found n deep inside placed is =
      is ∙ ap (λ (p : ℕ × ℕ). steps_of_clip (depth - 1) nodes clip_lengths p.0 p.1) placed
      ∙ sym (steps_at (Parts parts) n deep ∙ steps_placed (steps_of_clip (depth - 1) nodes clip_lengths) clip_lengths parts i inside)
