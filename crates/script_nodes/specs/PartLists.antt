-- How the parts of a node are stored.
use Rattle.std.specs.Prelude.{◌≡◌, ℕ, ◌+◌, ◌≤◌, min, List, [], ◌∷◌, slice_index}
use Rattle.std.specs.List.{All}
use Rattle.script_nodes.specs.declared.part_list.Part.{Part}

-- the most frames of a clip of a script
abbrev pub most_frames : ℕ
most_frames = 68719476736

-- more frames than a clip of a script may have
abbrev pub too_many : ℕ
too_many = 68719476737

-- the sum of the counts up to each part, counted up to 68,719,476,737, after this sum of earlier ones
abbrev pub ends_from : ℕ → List Part → List ℕ
ends_from total [] = []
ends_from total (part ∷ parts) = min too_many (total + part.count) ∷ ends_from (min too_many (total + part.count)) parts

-- the clip of a part has at least as many frames as are listed for it, if that part is not cut short
abbrev pub IsNeeded : List ℕ → Part → Type 0
IsNeeded needs part = min too_many (part.first + part.count) ≤ slice_index needs (min part.clip 16)

abbrev pub AreNeeds : List Part → List ℕ → Type 0
AreNeeds parts needs = All (IsNeeded needs) parts

-- the sums and needs of parts
pub record AreSums (parts : List Part) (ends needs : List ℕ) : Type 0 where
  pub summed : ends ≡ ends_from 0 parts
  pub needed : AreNeeds parts needs
