-- The numbers of frames of the clips of a script.
use Rattle.std.specs.List.{All, list_all}
use Rattle.std.specs.Prelude.{min, slice_index}
use Rattle.std.proofs.Common.{◌≡◌, ℕ, zero, suc, ◌+◌, ◌-◌, ◌<◌, ◌≤◌, Bool, true, List, [], ◌∷◌, ◌++◌, length, drop, get_or, refl, sym, ap, subst, ◌∙◌, arith, inl, inr}
use Rattle.std.proofs.lemmas.Bool.{cases_lt, leb-true}
use Rattle.std.proofs.lemmas.List.{get_or-append_right, get_or_past, drop_all}
use Rattle.script_nodes.specs.declared.nodes.Node.{Node}
use Rattle.script_nodes.specs.declared.nodes.Node.TheVariants.{Source, Trim, Splice, Crop, Fade, Parts}
use Rattle.script_nodes.specs.declared.part_list.Part.{Part}
use Rattle.script_nodes.specs.Nodes.{all_use_below}
use Rattle.script_nodes.specs.Lengths.{built, is_length, lengths, most_lengths, node_length, node_most, parts_length, parts_most}
use Rattle.script_nodes.specs.PartLists.{most_frames, too_many}
use Rattle.script_nodes.specs.Scripts.{IsScript, Given}
use Rattle.script_nodes.proofs.Uses.{all_left, both}
use Rattle.script_nodes.proofs.Built.{built-next, built_below, length-built, length-one_more}

-- no source has more frames than this
pub each_few : (counts : List ℕ) (most : ℕ) → All (λ count. count ≤ most) counts → (k : ℕ) → slice_index counts k ≤ most
each_few counts most few k = elim (cases_lt k (length counts)) [ inl less ↦ few k 0 less | inr past ↦ omega (arith, get_or_past counts k 0 past) ]

-- a source that has a frame is in the list
pub source_exists : (counts : List ℕ) (source frame : ℕ) → frame < slice_index counts source → source < length counts
source_exists counts source frame inside = elim (cases_lt source (length counts)) [ inl less ↦ less | inr past ↦ absurd (omega (arith, get_or_past counts source 0 past)) ]

-- parts, and a node, have at most the most frames that they can have, if the clips below have
parts_bound : (found most : List ℕ) (parts : List Part) → ((k : ℕ) → slice_index found k ≤ slice_index most k) → parts_length found parts ≤ parts_most most parts
parts_bound found most [] each = omega arith
parts_bound found most (part ∷ parts) each = omega (arith, each part.clip, parts_bound found most parts each)

length_bound : (counts found most : List ℕ) (node : Node) → ((k : ℕ) → slice_index counts k ≤ 1048576) → ((k : ℕ) → slice_index found k ≤ slice_index most k) → node_length counts found node ≤ node_most most node
length_bound counts found most (Source number) few each = few number
length_bound counts found most (Trim clip first count) few each = omega (arith, each clip)
length_bound counts found most (Splice front back) few each = omega (arith, each front, each back)
length_bound counts found most (Crop clip area) few each = each clip
length_bound counts found most (Fade clip ramp) few each = each clip
length_bound counts found most (Parts parts) few each = parts_bound found most parts each

-- the numbers of frames of source 0 and of the first i nodes
pub record AreCounted (counts : List ℕ) (nodes : List Node) (found : List ℕ) (i : ℕ) : Type 0 where
  pub long : length found ≡ i + 1
  pub left : lengths counts nodes ≡ built (node_length counts) found (drop i nodes)
  pub uses : all_use_below (i + 1) (drop i nodes) ≡ true
  pub most : List ℕ
  pub most_long : length most ≡ i + 1
  pub most_left : most_lengths nodes ≡ built (λ below node. min too_many (node_most below node)) most (drop i nodes)
  pub fits : list_all is_length (most_lengths nodes) ≡ true
  pub each : (k : ℕ) → slice_index found k ≤ slice_index most k

pub counted_first : (counts : List ℕ) (nodes : List Node) (found : List ℕ) → found ≡ slice_index counts 0 ∷ [] → All (λ count. count ≤ 1048576) counts → IsScript nodes → AreCounted counts nodes found 0
counted_first counts nodes found is few script = record {
  long = ap length is;
  left = ap (λ l. built (node_length counts) l nodes) (sym is);
  uses = script.below;
  most = 1048576 ∷ [];
  most_long = refl;
  most_left = refl;
  fits = script.most;
  each = λ k. rw is (one k);
}
  where
    one : (k : ℕ) → slice_index (slice_index counts 0 ∷ []) k ≤ slice_index (1048576 ∷ []) k
    one zero = each_few counts 1048576 few 0
    one (suc k) = omega arith

-- a test of all numbers holds of each
all_numbers_hold : (p : ℕ → Bool) (xs : List ℕ) (k : ℕ) → list_all p xs ≡ true → k < length xs → p (get_or xs k 0) ≡ true
all_numbers_hold p [] k all within = absurd (omega arith)
all_numbers_hold p (x ∷ xs) zero all within = (both _ _ all).0
all_numbers_hold p (x ∷ xs) (suc k) all within = all_numbers_hold p xs k (both _ _ all).1 (omega (arith, within))

-- the values that come first are among all of them
entry_fits : (make : List ℕ → Node → ℕ) (most all : List ℕ) (nodes : List Node) (k : ℕ) → all ≡ built make most nodes → list_all is_length all ≡ true → k < length most → get_or most k 0 ≤ most_frames
entry_fits make most all nodes k left fits within =
    let here : get_or (built make most nodes) k 0 ≡ get_or most k 0 = built_below make most nodes k 0 within in
    let long : k < length (built make most nodes) = omega (arith, within, length-built make most nodes) in
    let fit : is_length (get_or (built make most nodes) k 0) ≡ true = all_numbers_hold is_length (built make most nodes) k (subst (λ (l : List ℕ). list_all is_length l ≡ true) left fits) long in
    rw (sym here) (leb-true (get_or (built make most nodes) k 0) most_frames fit)

pub counted_bound : (counts : List ℕ) (nodes : List Node) (found : List ℕ) (i : ℕ) → AreCounted counts nodes found i → (k : ℕ) → slice_index found k ≤ most_frames
counted_bound counts nodes found i before k = elim (cases_lt k (length before.most)) [
  | inl less ↦ omega (arith, before.each k, entry_fits (λ below node. min too_many (node_most below node)) before.most (most_lengths nodes) (drop i nodes) k before.most_left before.fits less)
  | inr past ↦ omega (arith, before.each k, get_or_past before.most k 0 past)
]

-- the most frames of the next node
next_fits : (counts : List ℕ) (nodes : List Node) (found : List ℕ) (i : ℕ) (d : Node) → (before : AreCounted counts nodes found i) → i < length nodes → min too_many (node_most before.most (get_or nodes i d)) ≤ most_frames
next_fits counts nodes found i d before h =
    let next : ℕ = min too_many (node_most before.most (get_or nodes i d)) in
    let left : most_lengths nodes ≡ built (λ below node. min too_many (node_most below node)) (before.most ++ next ∷ []) (drop (i + 1) nodes) = before.most_left ∙ built-next (λ below node. min too_many (node_most below node)) before.most nodes i d h in
    let long : length (before.most ++ next ∷ []) ≡ length before.most + 1 = length-one_more (node_length counts) before.most next in
    let none : length before.most - length before.most ≡ 0 = omega arith in
    let is : get_or (before.most ++ next ∷ []) (length before.most) 0 ≡ next = get_or-append_right before.most (next ∷ []) (length before.most) (length before.most) 0 refl (omega arith) ∙ ap (λ j. get_or (next ∷ []) j 0) none in
    let fit : get_or (before.most ++ next ∷ []) (length before.most) 0 ≤ most_frames = entry_fits (λ below node. min too_many (node_most below node)) (before.most ++ next ∷ []) (most_lengths nodes) (drop (i + 1) nodes) (length before.most) left before.fits (omega (arith, long)) in
    omega (arith, is, fit)

pub counted_within : (counts : List ℕ) (nodes : List Node) (found : List ℕ) (i : ℕ) (d : Node) → All (λ count. count ≤ 1048576) counts → AreCounted counts nodes found i → i < length nodes → node_length counts found (get_or nodes i d) ≤ most_frames
counted_within counts nodes found i d few before h =
    omega (arith, next_fits counts nodes found i d before h, length_bound counts found before.most (get_or nodes i d) (each_few counts 1048576 few) before.each)

pub counted_next : (counts : List ℕ) (nodes : List Node) (found new : List ℕ) (i : ℕ) (d : Node) → All (λ count. count ≤ 1048576) counts → AreCounted counts nodes found i → i < length nodes → new ≡ found ++ node_length counts found (get_or nodes i d) ∷ [] → AreCounted counts nodes new (i + 1)
counted_next counts nodes found new i d few before h is = record {
  long = ap length is ∙ length-one_more (node_length counts) found count ∙ ap (λ k. k + 1) before.long;
  left = before.left ∙ built-next (node_length counts) found nodes i d h ∙ ap (λ l. built (node_length counts) l (drop (i + 1) nodes)) (sym is);
  uses = (all_left (i + 1) i nodes d h before.uses).1;
  most = before.most ++ next ∷ [];
  most_long = length-one_more (node_length counts) before.most next ∙ ap (λ k. k + 1) before.most_long;
  most_left = before.most_left ∙ built-next (λ below node. min too_many (node_most below node)) before.most nodes i d h;
  fits = before.fits;
  each = λ k. rw is (each-push found before.most count next (before.long ∙ sym before.most_long) bound before.each k);
}
  where
    count : ℕ
    count = node_length counts found (get_or nodes i d)

    next : ℕ
    next = min too_many (node_most before.most (get_or nodes i d))

    bound : count ≤ next
    bound = omega (arith, next_fits counts nodes found i d before h, length_bound counts found before.most (get_or nodes i d) (each_few counts 1048576 few) before.each)

    each-push : (xs ys : List ℕ) (x y : ℕ) → length xs ≡ length ys → x ≤ y → ((k : ℕ) → slice_index xs k ≤ slice_index ys k) → (k : ℕ) → slice_index (xs ++ x ∷ []) k ≤ slice_index (ys ++ y ∷ []) k
    each-push [] [] x y long less all zero = less
    each-push [] [] x y long less all (suc k) = omega arith
    each-push [] (b ∷ ys) x y long less all k = absurd (omega (arith, long))
    each-push (a ∷ xs) [] x y long less all k = absurd (omega (arith, long))
    each-push (a ∷ xs) (b ∷ ys) x y long less all zero = all 0
    each-push (a ∷ xs) (b ∷ ys) x y long less all (suc k) = each-push xs ys x y (omega (arith, long)) less (λ j. all (suc j)) k

pub counted_all : (counts : List ℕ) (nodes : List Node) (found : List ℕ) (i : ℕ) → AreCounted counts nodes found i → length nodes ≤ i → found ≡ lengths counts nodes
counted_all counts nodes found i before all = sym (before.left ∙ ap (built (node_length counts) found) (drop_all i nodes all))

pub counted_given : (counts : List ℕ) (nodes : List Node) (found : List ℕ) (i : ℕ) → IsScript nodes → AreCounted counts nodes found i → i ≤ length nodes → length nodes ≤ i → Given counts nodes found
counted_given counts nodes found i script before within all = record {
  script = script;
  counted = counted_all counts nodes found i before all;
  small = counted_bound counts nodes found i before;
}
