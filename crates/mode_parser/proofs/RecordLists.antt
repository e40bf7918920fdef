-- Stored records while the lists beside them grow
use Rattle.std.proofs.Common.{◌≡◌, ℕ, suc, ◌<◌, Bool, true, false, List, [], ◌∷◌, ◌++◌, length, map, refl, arith, slice_index_or, replicate}
use Rattle.std.specs.Prelude.{if◌then◌else◌}
use Rattle.std.specs.List.{All}
use Rattle.std.proofs.lemmas.List.{get_or_append_left}
use Rattle.intra_predict.specs.declared.modes.SubMode.{SubMode}
use Rattle.mode_parser.specs.declared.records.MbMode.{MbMode}
use Rattle.mode_parser.specs.declared.record_list.Stored.{Stored}
use Rattle.mode_parser.specs.Records.{no_sub_modes, no_vectors}
use Rattle.mode_parser.specs.NearVectors.{is_split_mode}
use Rattle.mode_parser.specs.RecordList.{IsInside, has_sub_modes, stored_with}
use Rattle.mode_parser.specs.Vectors.{MotionVector}

-- an entry of a list that gets one more
kept : {X : Type 0} (is : Bool) (lists : List X) (more : X) (n : ℕ) (d e : X) → (is ≡ true → n < length lists) → (if is then slice_index_or (lists ++ more ∷ []) n d else e) ≡ (if is then slice_index_or lists n d else e)
kept true lists more n d e inside = get_or_append_left lists (more ∷ []) d n (inside refl)
kept false lists more n d e inside = refl

map-same : {X Y : Type 0} (f g : X → Y) (P : X → Type 0) (xs : List X) → ((x : X) → P x → f x ≡ g x) → All P xs → map f xs ≡ map g xs
map-same f g P [] each all = refl
map-same f g P (x ∷ xs) each all =
    let head : f x ≡ g x = each x (all 0 x (omega arith)) in
    let tail : map f xs ≡ map g xs = map-same f g P xs each (λ k d below. all (suc k) d (omega (arith, below))) in
    rw (head, tail) refl

more-modes-one : (modes : List (List SubMode)) (vectors : List (List MotionVector)) (more : List SubMode) (stored : Stored) → IsInside modes vectors stored → stored_with (modes ++ more ∷ []) vectors stored ≡ stored_with modes vectors stored
more-modes-one modes vectors more stored inside = rw (kept (has_sub_modes stored.y_mode) modes more stored.side no_sub_modes no_sub_modes inside.modes) refl

-- the records before are the same when modes of sub blocks are appended, and when vectors are
pub more-modes : (modes : List (List SubMode)) (vectors : List (List MotionVector)) (more : List SubMode) (all : List Stored) → All (IsInside modes vectors) all → map (stored_with (modes ++ more ∷ []) vectors) all ≡ map (stored_with modes vectors) all
more-modes modes vectors more all inside = map-same (stored_with (modes ++ more ∷ []) vectors) (stored_with modes vectors) (IsInside modes vectors) all (more-modes-one modes vectors more) inside

more-vectors-one : (modes : List (List SubMode)) (vectors : List (List MotionVector)) (more : List MotionVector) (stored : Stored) → IsInside modes vectors stored → stored_with modes (vectors ++ more ∷ []) stored ≡ stored_with modes vectors stored
more-vectors-one modes vectors more stored inside = rw (kept (is_split_mode stored.y_mode) vectors more stored.side no_vectors (replicate 16 stored.vector) inside.split) refl

pub more-vectors : (modes : List (List SubMode)) (vectors : List (List MotionVector)) (more : List MotionVector) (all : List Stored) → All (IsInside modes vectors) all → map (stored_with modes (vectors ++ more ∷ [])) all ≡ map (stored_with modes vectors) all
more-vectors modes vectors more all inside = map-same (stored_with modes (vectors ++ more ∷ [])) (stored_with modes vectors) (IsInside modes vectors) all (more-vectors-one modes vectors more) inside

pub stored-segments : (modes : List (List SubMode)) (vectors : List (List MotionVector)) (all : List Stored) → map {A = MbMode} (λ macroblock. macroblock.segment) (map (stored_with modes vectors) all) ≡ map (λ stored. stored.segment) all
stored-segments modes vectors [] = refl
stored-segments modes vectors (stored ∷ all) = rw (stored-segments modes vectors all) refl
