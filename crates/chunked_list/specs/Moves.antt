-- An element that is moved within a list.
use Rattle.std.specs.Prelude.{ℕ, List, slice_get}
use Rattle.std.specs.List.{insert, remove}
use Rattle.std.specs.Option.{option_map_or}

-- a change made with the element at an index; the list is unchanged if there is none
abbrev pub with_place : {A : Type 0} → ℕ → (A → List A) → List A → List A
with_place place change xs = option_map_or change (slice_get xs place) xs

-- the element at `from` removed and inserted at index `to` of the shortened list
abbrev pub moved : {A : Type 0} → ℕ → ℕ → List A → List A
moved from to xs = with_place from (λ x. insert (remove xs from) to x) xs
