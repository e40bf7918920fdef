-- The steps of a frame with the numbers of their nodes.
use Rattle.std.specs.Prelude.{◌≡◌, ℕ, zero, suc, ◌+◌, ◌-◌, ◌==◌, ◌&&◌, Bool, unwrap_or, List, [], ◌∷◌, ◌++◌, length, map, nat_lt, if◌then◌else◌, slice_index, slice_index_or}
use Rattle.script_nodes.specs.declared.nodes.Node.{Node}
use Rattle.script_nodes.specs.declared.nodes.Node.TheVariants.{Source, Trim, Splice, Crop, Fade, Parts}
use Rattle.script_nodes.specs.declared.part_list.Part.{Part}
use Rattle.script_nodes.specs.declared.node_steps.NodeStep.{NodeStep}
use Rattle.script_nodes.specs.declared.traces.Step.{Step}
use Rattle.script_nodes.specs.declared.traces.Step.TheVariants.{Cut, Weigh}
use Rattle.script_nodes.specs.Frames.{origin, script_frame, weight_at, with_step}
use Rattle.script_nodes.specs.Lengths.{lengths, part_length}
use Rattle.script_nodes.specs.Scripts.{IsScript}
use Rattle.script_nodes.specs.Shown.{Size, step_size}
use Rattle.script_nodes.specs.Traces.{IsStep}

-- the steps of frame i of parts
abbrev pub steps_of_parts : (ℕ → ℕ → List NodeStep) → List ℕ → List Part → ℕ → List NodeStep
steps_of_parts below clip_lengths [] i = []
steps_of_parts below clip_lengths (part ∷ parts) i =
    if nat_lt i (part_length clip_lengths part) then below part.clip (part.first + i)
    else steps_of_parts below clip_lengths parts (i - part_length clip_lengths part)

-- the steps of frame i of a node with this number, in order; `below` has those of each frame of the clips below
abbrev pub steps_of_node : (ℕ → ℕ → List NodeStep) → List ℕ → ℕ → Node → ℕ → List NodeStep
steps_of_node below clip_lengths own (Source number) i = []
steps_of_node below clip_lengths own (Trim clip first count) i = below clip (first + i)
steps_of_node below clip_lengths own (Splice front back) i = if nat_lt i (slice_index clip_lengths front) then below front i else below back (i - slice_index clip_lengths front)
steps_of_node below clip_lengths own (Crop clip area) i = below clip i ++ record { node = own; step = Cut area } ∷ []
steps_of_node below clip_lengths own (Fade clip ramp) i = below clip i ++ record { node = own; step = Weigh (weight_at ramp i) } ∷ []
steps_of_node below clip_lengths own (Parts parts) i = steps_of_parts below clip_lengths parts i

-- the steps of frame i of a clip. A node uses only clips below it, so the clip's number is depth enough
abbrev pub steps_of_clip : ℕ → List Node → List ℕ → ℕ → ℕ → List NodeStep
steps_of_clip zero nodes clip_lengths clip i = []
steps_of_clip (suc depth) nodes clip_lengths zero i = []
steps_of_clip (suc depth) nodes clip_lengths (suc k) i = steps_of_node (steps_of_clip depth nodes clip_lengths) clip_lengths (suc k) (slice_index_or nodes k (Source 0)) i

-- the steps of frame i of a script, given the number of frames of each source
abbrev pub node_steps : List ℕ → List Node → ℕ → List NodeStep
node_steps counts nodes i = steps_of_clip (length nodes) nodes (lengths counts nodes) (length nodes) i

-- they are the steps of the frame's origin
abbrev pub StepsAreOfNodes : Type 0
StepsAreOfNodes = (counts : List ℕ) (nodes : List Node) (i : ℕ) → IsScript nodes → map (λ (s : NodeStep). s.step) (node_steps counts nodes i) ≡ (script_frame with_step origin counts nodes i).steps

-- its numbers are those of a script
abbrev pub IsNodeStep : NodeStep → Type 0
IsNodeStep s = IsStep s.step

-- whether a step changes no sample of a picture of this size: it cuts the whole picture out, or has the whole weight
abbrev pub keeps_samples : ℕ → ℕ → Step → Bool
keeps_samples width height (Cut area) = (area.x == 0) && (area.y == 0) && (area.width == width) && (area.height == height)
keeps_samples width height (Weigh weight) = weight == 256

-- the numbers of the nodes that change a sample of a picture of this size. A crop past the size leaves it: such a frame is refused
abbrev pub changed_nodes : Size → List NodeStep → List ℕ
changed_nodes size [] = []
changed_nodes size (s ∷ steps) = (if keeps_samples size.0 size.1 s.step then [] else s.node ∷ []) ++ changed_nodes (unwrap_or (step_size s.step size) size) steps
