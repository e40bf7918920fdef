-- A frame of a script is the frame that its trace names, with the steps of the trace applied.
use Rattle.std.specs.Prelude.{slice_index, slice_index_or, nat_lt}
use Rattle.std.proofs.Common.{◌≡◌, ℕ, zero, suc, ◌+◌, ◌-◌, Bool, true, false, List, [], ◌∷◌, ◌++◌, length, get_or, refl, sym, ap, ◌∙◌, arith, inl, inr}
use Rattle.std.proofs.lemmas.Bool.{cases_lt, cases_eq}
use Rattle.std.proofs.lemmas.List.{get_or_append_left, get_or-append_right, get_or_past}
use Rattle.script_nodes.specs.declared.nodes.Node.{Node}
use Rattle.script_nodes.specs.declared.nodes.Node.TheVariants.{Source, Trim, Splice, Crop, Fade, Parts}
use Rattle.script_nodes.specs.declared.part_list.Part.{Part}
use Rattle.script_nodes.specs.declared.traces.Step.{Step}
use Rattle.script_nodes.specs.declared.traces.Step.TheVariants.{Cut, Weigh}
use Rattle.script_nodes.specs.Lengths.{built, lengths, part_length}
use Rattle.script_nodes.specs.Frames.{Origin, origin, with_step, node_frame, frames, parts_frame, script_frame, weight_at, after_steps}
use Rattle.script_nodes.specs.Scripts.{origin_of}
use Rattle.script_nodes.specs.Shown.{use_step, IsFollowed}
use Rattle.script_nodes.proofs.Built.{length-one_more}

module _ {A : Type 0} (made : Step → A → A) (clip_lengths : List ℕ) (sources : ℕ → ℕ → A) where
  -- the steps of an origin applied to its frame
  abbrev pub after : Origin → A
  after from = after_steps made from.steps (sources from.source from.frame)

  after_more : (steps : List Step) (step : Step) (frame : A) → after_steps made (steps ++ step ∷ []) frame ≡ made step (after_steps made steps frame)
  after_more [] step frame = refl
  after_more (first ∷ steps) step frame = after_more steps step (made first frame)

  -- clips and the origins of their frames agree
  pub record GoTogether (clips : List (ℕ → A)) (origins : List (ℕ → Origin)) : Type 0 where
    pub long : length clips ≡ length origins
    pub same : (k i : ℕ) → slice_index_or clips k (sources 0) i ≡ after (slice_index_or origins k (origin 0) i)

  step_same : (step : Step) (frame : A) (from : Origin) → frame ≡ after from → made step frame ≡ after (with_step step from)
  step_same step frame from same = ap (made step) same ∙ sym (after_more from.steps step (sources from.source from.frame))

  -- and so they do for parts
  parts_same : (clips : List (ℕ → A)) (origins : List (ℕ → Origin)) (parts : List Part) (i : ℕ) → GoTogether clips origins → parts_frame clip_lengths clips (sources 0) parts i ≡ after (parts_frame clip_lengths origins (origin 0) parts i)
  parts_same clips origins [] i t = refl
  parts_same clips origins (part ∷ parts) i t = by_place (nat_lt i (part_length clip_lengths part)) refl (parts_same clips origins parts (i - part_length clip_lengths part) t)
    where
      by_place : (b : Bool) → nat_lt i (part_length clip_lengths part) ≡ b → parts_frame clip_lengths clips (sources 0) parts (i - part_length clip_lengths part) ≡ after (parts_frame clip_lengths origins (origin 0) parts (i - part_length clip_lengths part)) → parts_frame clip_lengths clips (sources 0) (part ∷ parts) i ≡ after (parts_frame clip_lengths origins (origin 0) (part ∷ parts) i)
      by_place true e rest = rw e (t.same part.clip (part.first + i))
      by_place false e rest = rw e rest

  -- and so they do for a node
  node_same : (clips : List (ℕ → A)) (origins : List (ℕ → Origin)) (node : Node) (i : ℕ) → GoTogether clips origins → node_frame made clip_lengths sources clips node i ≡ after (node_frame with_step clip_lengths origin origins node i)
  node_same clips origins (Source number) i t = refl
  node_same clips origins (Trim clip first count) i t = t.same clip (first + i)
  node_same clips origins (Splice front back) i t = by_place (nat_lt i (slice_index clip_lengths front)) refl
    where
      by_place : (b : Bool) → nat_lt i (slice_index clip_lengths front) ≡ b → node_frame made clip_lengths sources clips (Splice front back) i ≡ after (node_frame with_step clip_lengths origin origins (Splice front back) i)
      by_place true e = rw e (t.same front i)
      by_place false e = rw e (t.same back (i - slice_index clip_lengths front))
  node_same clips origins (Crop clip area) i t = step_same (Cut area) _ (slice_index_or origins clip (origin 0) i) (t.same clip i)
  node_same clips origins (Fade clip ramp) i t = step_same (Weigh (weight_at ramp i)) _ (slice_index_or origins clip (origin 0) i) (t.same clip i)
  node_same clips origins (Parts parts) i t = parts_same clips origins parts i t

  one_more : (clips : List (ℕ → A)) (origins : List (ℕ → Origin)) (node : Node) → GoTogether clips origins → GoTogether (clips ++ node_frame made clip_lengths sources clips node ∷ []) (origins ++ node_frame with_step clip_lengths origin origins node ∷ [])
  one_more clips origins node t =
      let clip : ℕ → A = node_frame made clip_lengths sources clips node in
      let from : ℕ → Origin = node_frame with_step clip_lengths origin origins node in
      let long : length (clips ++ clip ∷ []) ≡ length clips + 1 = length-one_more (node_frame made clip_lengths sources) clips clip in
      let long' : length (origins ++ from ∷ []) ≡ length origins + 1 = length-one_more (node_frame with_step clip_lengths origin) origins from in
      record {
        long = omega (arith, t.long, long, long');
        same = λ k i.
            elim (cases_lt k (length clips)) [
              | inl less ↦
                  ap (λ f. f i) (get_or_append_left clips (clip ∷ []) (sources 0) k less)
                  ∙ t.same k i
                  ∙ sym (ap (λ f. after (f i)) (get_or_append_left origins (from ∷ []) (origin 0) k (omega (arith, t.long))))
              | inr rest ↦ elim (cases_eq k (length clips)) [
                | inl here ↦
                    let first : k - length clips ≡ 0 = omega arith in
                    let first' : k - length origins ≡ 0 = omega (arith, t.long) in
                    ap (λ f. f i) (get_or-append_right clips (clip ∷ []) (length clips) k (sources 0) refl rest ∙ ap (λ j. get_or (clip ∷ []) j (sources 0)) first)
                    ∙ node_same clips origins node i t
                    ∙ sym (ap (λ f. after (f i)) (get_or-append_right origins (from ∷ []) (length origins) k (origin 0) refl (omega (arith, t.long)) ∙ ap (λ j. get_or (from ∷ []) j (origin 0)) first'))
                | inr apart ↦
                    ap (λ f. f i) (get_or_past (clips ++ clip ∷ []) k (sources 0) (omega (arith, long)))
                    ∙ sym (ap (λ f. after (f i)) (get_or_past (origins ++ from ∷ []) k (origin 0) (omega (arith, long', t.long))))
              ]
            ];
      }

  pub all_together : (clips : List (ℕ → A)) (origins : List (ℕ → Origin)) (nodes : List Node) → GoTogether clips origins → GoTogether (built (node_frame made clip_lengths sources) clips nodes) (built (node_frame with_step clip_lengths origin) origins nodes)
  all_together clips origins [] t = t
  all_together clips origins (node ∷ nodes) t = all_together (clips ++ node_frame made clip_lengths sources clips node ∷ []) (origins ++ node_frame with_step clip_lengths origin origins node ∷ []) nodes (one_more clips origins node t)

  pub source_together : GoTogether (sources 0 ∷ []) (origin 0 ∷ [])
  source_together = record { long = refl; same = same }
    where
      same : (k i : ℕ) → slice_index_or (sources 0 ∷ []) k (sources 0) i ≡ after (slice_index_or (origin 0 ∷ []) k (origin 0) i)
      same zero i = refl
      same (suc k) i = ap (λ f. f i) (get_or_past (sources 0 ∷ []) (suc k) (sources 0) (omega arith)) ∙ sym (ap (λ f. after (f i)) (get_or_past (origin 0 ∷ []) (suc k) (origin 0) (omega arith)))

pub trace_followed : {A : Type 0} (made : Step → A → A) (sources : ℕ → ℕ → A) (counts : List ℕ) (nodes : List Node) (i : ℕ) → script_frame made sources counts nodes i ≡ after made (lengths counts nodes) sources (script_frame with_step origin counts nodes i)
trace_followed made sources counts nodes i = (all_together made (lengths counts nodes) sources (sources 0 ∷ []) (origin 0 ∷ []) nodes (source_together made (lengths counts nodes) sources)).same (length nodes) i

-- the same for an origin that the code found, from its nodes and numbers of frames
pub found_followed : (counts : List ℕ) (nodes a b : List Node) (held found : List ℕ) (last i source frame : ℕ) (steps new : List Step) → new ≡ steps → origin_of source frame steps ≡ slice_index_or (frames with_step held origin b) last (origin 0) i → held ≡ found → found ≡ lengths counts a → a ≡ nodes → b ≡ nodes → last ≡ length nodes → IsFollowed counts nodes i (origin_of source frame new)
found_followed counts nodes a b held found last i source frame steps new pushed is same_held counted same same' end sources =
    let from : origin_of source frame new ≡ script_frame with_step origin counts nodes i = ap (origin_of source frame) pushed ∙ is ∙ rw (same_held, counted, same, same', end) refl in
    trace_followed use_step sources counts nodes i ∙ ap (λ (o : Origin). after_steps use_step o.steps (sources o.source o.frame)) (sym from)
