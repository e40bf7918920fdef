-- The text of parts.
use Rattle.std.specs.Fmt.{decimal}
use Rattle.std.specs.List.{flat_map, join_with_byte}
use Rattle.std.specs.Prelude.{codes}
use Rattle.std.proofs.Common.{◌≡◌, ℕ, List, [], ◌∷◌, ◌++◌, refl, sym, ap, ◌∙◌, append_assoc, append-nil}
use Rattle.script_nodes.specs.declared.nodes.Node.TheVariants.{Parts}
use Rattle.script_nodes.specs.declared.part_list.Part.{Part}
use Rattle.script_nodes.specs.Written.{later_part, node_text, part_words}

-- words after another one
joined_later : (word : List ℕ) (words : List (List ℕ)) → join_with_byte 32 (word ∷ words) ≡ word ++ flat_map (λ (w : List ℕ). 32 ∷ w) words
joined_later word [] = sym (append-nil word)
joined_later word (next ∷ words) = ap (λ (text : List ℕ). word ++ 32 ∷ text) (joined_later next words)

part_text : (part : Part) (rest : List ℕ) → (32 ∷ decimal part.clip) ++ ((32 ∷ decimal part.first) ++ ((32 ∷ decimal part.count) ++ rest)) ≡ later_part part ++ rest
part_text part rest =
    let first : List ℕ = 32 ∷ decimal part.clip in
    let second : List ℕ = 32 ∷ decimal part.first in
    let third : List ℕ = 32 ∷ decimal part.count in
    sym (append_assoc first second (third ++ rest)) ∙ sym (append_assoc (first ++ second) third rest)

parts_later : (parts : List Part) → flat_map (λ (w : List ℕ). 32 ∷ w) (flat_map part_words parts) ≡ flat_map later_part parts
parts_later [] = refl
parts_later (part ∷ parts) =
    let first : List ℕ = 32 ∷ decimal part.clip in
    let second : List ℕ = 32 ∷ decimal part.first in
    let third : List ℕ = 32 ∷ decimal part.count in
    ap (λ (text : List ℕ). first ++ (second ++ (third ++ text))) (parts_later parts) ∙ part_text part (flat_map later_part parts)

pub parts_text : (parts : List Part) → node_text (Parts parts) ≡ codes "parts" ++ flat_map later_part parts
parts_text parts = joined_later (codes "parts") (flat_map part_words parts) ∙ ap (λ (text : List ℕ). codes "parts" ++ text) (parts_later parts)
