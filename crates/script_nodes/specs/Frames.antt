-- The frames of each node, by recursion to the nodes below it, for any kind of frame: a picture, or the trace of one.
use Rattle.std.specs.Prelude.{ℕ, ◌+◌, ◌-◌, ◌*◌, ◌/◌, List, [], ◌∷◌, ◌++◌, length, nat_lt, nat_le, if◌then◌else◌, slice_index, slice_index_or, Option, None, Some}
use Rattle.script_nodes.specs.declared.nodes.Ramp.{Ramp}
use Rattle.script_nodes.specs.declared.nodes.Node.{Node}
use Rattle.script_nodes.specs.declared.nodes.Node.TheVariants.{Source, Trim, Splice, Crop, Fade, Parts}
use Rattle.script_nodes.specs.declared.part_list.Part.{Part}
use Rattle.script_nodes.specs.declared.traces.Step.{Step}
use Rattle.script_nodes.specs.declared.traces.Step.TheVariants.{Cut, Weigh}
use Rattle.script_nodes.specs.Lengths.{built, lengths, part_length, script_length}

-- the weight of frame i in 256ths: `start` before the ramp, `end` after it, and evenly from the one to the other between
unfoldable pub weight_at : Ramp → ℕ → ℕ
weight_at ramp i =
    if nat_lt i ramp.first then ramp.start
    else if nat_le (ramp.first + ramp.count) i then ramp.end
    else (ramp.start * (ramp.count - (i - ramp.first)) + ramp.end * (i - ramp.first)) / ramp.count

-- the frames of parts: those of the first part, followed by those of the others; `none` past the end
abbrev pub parts_frame : {A : Type 0} → List ℕ → List (ℕ → A) → (ℕ → A) → List Part → ℕ → A
parts_frame clip_lengths below none [] = none
parts_frame clip_lengths below none (part ∷ parts) = λ i.
    if nat_lt i (part_length clip_lengths part) then slice_index_or below part.clip none (part.first + i)
    else parts_frame clip_lengths below none parts (i - part_length clip_lengths part)

-- frame i of a node; `made` applies a step to a frame, `sources` has the frames of each source, and the lengths and the frames of the clips below are given, source 0 first
abbrev pub node_frame : {A : Type 0} → (Step → A → A) → List ℕ → (ℕ → ℕ → A) → List (ℕ → A) → Node → ℕ → A
node_frame made clip_lengths sources below (Source number) = sources number
node_frame made clip_lengths sources below (Trim clip first count) = λ i. slice_index_or below clip (sources 0) (first + i)
node_frame made clip_lengths sources below (Splice front back) = λ i.
    if nat_lt i (slice_index clip_lengths front) then slice_index_or below front (sources 0) i
    else slice_index_or below back (sources 0) (i - slice_index clip_lengths front)
node_frame made clip_lengths sources below (Crop clip area) = λ i. made (Cut area) (slice_index_or below clip (sources 0) i)
node_frame made clip_lengths sources below (Fade clip ramp) = λ i. made (Weigh (weight_at ramp i)) (slice_index_or below clip (sources 0) i)
node_frame made clip_lengths sources below (Parts parts) = parts_frame clip_lengths below (sources 0) parts

-- the frames of source 0, and then of each node
abbrev pub frames : {A : Type 0} → (Step → A → A) → List ℕ → (ℕ → ℕ → A) → List Node → List (ℕ → A)
frames made clip_lengths sources nodes = built (node_frame made clip_lengths sources) (sources 0 ∷ []) nodes

-- frame i of the last node of a script, given the frames of each source and the number of frames of each
abbrev pub script_frame : {A : Type 0} → (Step → A → A) → (ℕ → ℕ → A) → List ℕ → List Node → ℕ → A
script_frame made sources counts nodes i = slice_index_or (frames made (lengths counts nodes) sources nodes) (length nodes) (sources 0) i

-- the origin of a frame: a source, a frame of this source, and the steps to apply to it, in order
pub record Origin : Type 0 where
  pub source : ℕ
  pub frame : ℕ
  pub steps : List Step

-- frame i of a source as it is
abbrev pub origin : ℕ → ℕ → Origin
origin source i = record { source = source; frame = i; steps = [] }

-- one more step
abbrev pub with_step : Step → Origin → Origin
with_step step from = record from { steps = from.steps ++ step ∷ [] }

-- the origin of frame i of a script, or none if the script has at most i frames
abbrev pub traced : List ℕ → List Node → ℕ → Option Origin
traced counts nodes i = if nat_lt i (script_length counts nodes) then Some (script_frame with_step origin counts nodes i) else None

-- steps applied to a frame in sequence
abbrev pub after_steps : {A : Type 0} → (Step → A → A) → List Step → A → A
after_steps made [] frame = frame
after_steps made (step ∷ steps) frame = after_steps made steps (made step frame)
