-- The gaps of a file as they are read.
use Rattle.std.specs.Prelude.{◌≡◌, ◌↔◌, List, ℕ, drop, IsTrue}
use Rattle.webm_files.specs.declared.gaps.Gaps.{Gaps}
use Rattle.webm_files.specs.Walks.{Walk, IsWalk, IsCut}
use Rattle.webm_files.specs.Kept.{gaps_of, parts_of, skipped}
use Rattle.webm_files.specs.Clusters.{timeless_of}

pub record HasGaps (file : List ℕ) (found : Gaps) : Type 0 where
  pub walk : Walk
  pub is : IsWalk file walk
  pub gaps : found.gaps.items ≡ gaps_of file walk
  pub spare : found.spare ≡ skipped (gaps_of file walk)
  pub parts : found.parts.items ≡ parts_of walk.elements
  pub timeless : found.timeless.items ≡ timeless_of walk.elements
  pub cut : IsTrue found.is_cut ↔ IsCut (drop walk.end file)
