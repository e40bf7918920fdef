-- How the code stores the vectors from which a macroblock's own are predicted.
use Rattle.std.specs.Prelude.{ℕ, ◌≤◌, List, [], ◌∷◌}
use Rattle.mode_parser.specs.declared.nearby.MbPosition.{MbPosition}
use Rattle.mode_parser.specs.declared.nearby.Near.{Near}
use Rattle.mode_parser.specs.declared.nearby.Candidates.{Candidates}
use Rattle.mode_parser.specs.NearVectors.{near_in}

-- the near vectors of a macroblock at a position, by its candidates
abbrev pub near_by : MbPosition → Candidates → Near
near_by place found = near_in place found.zeros found.nearest found.near found.split

-- the weights by which its mode is read
abbrev pub counts_of : Candidates → List ℕ
counts_of found = found.zeros ∷ found.nearest.weight ∷ found.near.weight ∷ found.split ∷ []

-- no weight is above 5
pub record AreLight (found : Candidates) : Type 0 where
  pub zeros : found.zeros ≤ 5
  pub nearest : found.nearest.weight ≤ 5
  pub near : found.near.weight ≤ 5
  pub split : found.split ≤ 5
