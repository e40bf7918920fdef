-- Parts are the splices of trims.
use Rattle.std.specs.Prelude.{slice_index, slice_index_or, nat_lt, if◌then◌else◌}
use Rattle.std.proofs.Common.{◌≡◌, ℕ, ◌+◌, ◌-◌, Option, List, [], ◌∷◌, ◌++◌, length, get_or, refl, sym, ap, ◌∙◌, arith}
use Rattle.std.proofs.lemmas.List.{get_or-append_right}
use Rattle.script_nodes.specs.declared.nodes.Node.TheVariants.{Trim}
use Rattle.script_nodes.specs.Frames.{node_frame, parts_frame}
use Rattle.script_nodes.specs.Laws.{PartsAreSplices}
use Rattle.script_nodes.specs.Lengths.{part_length, parts_length}
use Rattle.script_nodes.specs.Shown.{Shown, use_step}

-- the first and the second of two values after a list
first_behind : {X : Type 0} (xs : List X) (a b d : X) → get_or (xs ++ a ∷ b ∷ []) (length xs) d ≡ a
first_behind xs a b d =
    let none : length xs - length xs ≡ 0 = omega arith in
    get_or-append_right xs (a ∷ b ∷ []) (length xs) (length xs) d refl (omega arith) ∙ ap (λ (k : ℕ). get_or (a ∷ b ∷ []) k d) none

second_behind : {X : Type 0} (xs : List X) (a b d : X) → get_or (xs ++ a ∷ b ∷ []) (length xs + 1) d ≡ b
second_behind xs a b d =
    let one : length xs + 1 - length xs ≡ 1 = omega arith in
    get_or-append_right xs (a ∷ b ∷ []) (length xs) (length xs + 1) d refl (omega arith) ∙ ap (λ (k : ℕ). get_or (a ∷ b ∷ []) k d) one

pub are_splices : PartsAreSplices
are_splices counts below sources clips first others i same =
    let count : ℕ = part_length below first in
    let rest : ℕ = parts_length below others in
    let trim : ℕ → Option Shown = node_frame use_step below sources clips (Trim first.clip first.first first.count) in
    let later : ℕ → Option Shown = parts_frame below clips (sources 0) others in
    let front_long : slice_index (below ++ count ∷ rest ∷ []) (length below) ≡ count = first_behind below count rest 0 in
    let back_long : slice_index (below ++ count ∷ rest ∷ []) (length below + 1) ≡ rest = second_behind below count rest 0 in
    let front_is : slice_index_or (clips ++ trim ∷ later ∷ []) (length below) (sources 0) ≡ trim = ap (λ (k : ℕ). get_or (clips ++ trim ∷ later ∷ []) k (sources 0)) (sym same) ∙ first_behind clips trim later (sources 0) in
    let back_is : slice_index_or (clips ++ trim ∷ later ∷ []) (length below + 1) (sources 0) ≡ later = ap (λ (k : ℕ). get_or (clips ++ trim ∷ later ∷ []) (k + 1) (sources 0)) (sym same) ∙ second_behind clips trim later (sources 0) in (
      refl,
      ap (λ (k : ℕ). k + rest) (sym front_long) ∙ ap (λ (k : ℕ). slice_index (below ++ count ∷ rest ∷ []) (length below) + k) (sym back_long),
      sym (ap (λ (k : ℕ). if nat_lt i k then slice_index_or (clips ++ trim ∷ later ∷ []) (length below) (sources 0) i else slice_index_or (clips ++ trim ∷ later ∷ []) (length below + 1) (sources 0) (i - k)) front_long
          ∙ ap (λ (f : ℕ → Option Shown). if nat_lt i count then f i else slice_index_or (clips ++ trim ∷ later ∷ []) (length below + 1) (sources 0) (i - count)) front_is
          ∙ ap (λ (f : ℕ → Option Shown). if nat_lt i count then trim i else f (i - count)) back_is),
    )
