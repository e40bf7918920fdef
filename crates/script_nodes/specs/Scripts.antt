-- What holds of the nodes of a script.
use Rattle.std.specs.Prelude.{◌≡◌, ℕ, ◌≤◌, true, List, length, slice_index}
use Rattle.std.specs.List.{list_all}
use Rattle.script_nodes.specs.declared.nodes.Node.{Node}
use Rattle.script_nodes.specs.declared.traces.Step.{Step}
use Rattle.script_nodes.specs.Nodes.{all_use_below, has_numbers}
use Rattle.script_nodes.specs.Lengths.{is_length, lengths, most_lengths}
use Rattle.script_nodes.specs.Frames.{Origin}

-- at most 16 nodes, each of which uses earlier ones, with numbers that are allowed
pub record IsScript (nodes : List Node) : Type 0 where
  pub few : length nodes ≤ 16
  pub below : all_use_below 1 nodes ≡ true
  pub numbers : list_all has_numbers nodes ≡ true
  pub most : list_all is_length (most_lengths nodes) ≡ true

-- the nodes of a script, and the numbers of frames of its clips for these sources, none above 68,719,476,736
pub record Given (counts : List ℕ) (nodes : List Node) (clip_lengths : List ℕ) : Type 0 where
  pub script : IsScript nodes
  pub counted : clip_lengths ≡ lengths counts nodes
  pub small : (k : ℕ) → slice_index clip_lengths k ≤ 68719476736

-- a source, a frame of it and steps as an origin
abbrev pub origin_of : ℕ → ℕ → List Step → Origin
origin_of source frame steps = record { source = source; frame = frame; steps = steps }
