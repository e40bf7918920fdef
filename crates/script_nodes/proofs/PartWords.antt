-- The parts that are read from words.
use Rattle.std.specs.List.{list_all}
use Rattle.std.specs.Option.{option_map}
use Rattle.std.specs.Prelude.{min, nat_lt, slice_index}
use Rattle.std.proofs.Common.{◌≡◌, ℕ, ◌+◌, ◌<◌, Bool, true, false, ◌&&◌, Option, None, Some, List, [], ◌∷◌, ◌++◌, length, refl, sym, ap, ◌∙◌, arith, append_assoc, append-nil}
use Rattle.std.proofs.lemmas.Bool.{lt-ltb}
use Rattle.script_nodes.specs.declared.drafts.Facts.{Facts}
use Rattle.script_nodes.specs.declared.nodes.Node.TheVariants.{Parts}
use Rattle.script_nodes.specs.declared.part_list.Part.{Part}
use Rattle.script_nodes.specs.Lengths.{parts_most}
use Rattle.script_nodes.specs.Nodes.{is_part, node_of_parts, part_before, part_of, parts_by}
use Rattle.script_nodes.specs.PartLists.{too_many}
use Rattle.script_nodes.specs.Reading.{facts_before, facts_of, facts_with}

-- parts before others, if those exist
abbrev pub parts_behind : List Part → Option (List Part) → Option (List Part)
parts_behind all None = None
parts_behind all (Some more) = Some (all ++ more)

pub behind_part : (all : List Part) (part : Part) (more : Option (List Part)) → parts_behind all (part_before (Some part) more) ≡ parts_behind (all ++ part ∷ []) more
behind_part all part None = refl
behind_part all part (Some more) = ap (λ (l : List Part). Some l) (sym (append_assoc all (part ∷ []) more))

pub nothing_before : (more : Option (List Part)) → more ≡ parts_behind [] more
nothing_before None = refl
nothing_before (Some more) = refl

and_true : (b : Bool) → (b && true) ≡ b
and_true true = refl
and_true false = refl

and_assoc : (a b c : Bool) → (a && (b && c)) ≡ ((a && b) && c)
and_assoc true b c = refl
and_assoc false b c = refl

pub all-push : {X : Type 0} (p : X → Bool) (xs : List X) (x : X) → list_all p (xs ++ x ∷ []) ≡ (list_all p xs && p x)
all-push p [] x = and_true (p x)
all-push p (y ∷ xs) x = ap (λ (b : Bool). p y && b) (all-push p xs x) ∙ and_assoc (p y) (list_all p xs) (p x)

most-push : (below : List ℕ) (parts : List Part) (part : Part) → parts_most below (parts ++ part ∷ []) ≡ parts_most below parts + min part.count (slice_index below part.clip)
most-push below [] part = omega arith
most-push below (x ∷ parts) part = omega (arith, most-push below parts part)

-- the facts of the parts that were read
abbrev pub facts_of_parts : ℕ → List ℕ → List Part → Facts
facts_of_parts own below parts = record {
  references = list_all (λ part. nat_lt part.clip own) parts;
  numbers = list_all is_part parts;
  most = min too_many (parts_most below parts);
}

pub facts-push : (own : ℕ) (below : List ℕ) (parts : List Part) (part : Part) → facts_with own below (facts_of_parts own below parts) part ≡ facts_of_parts own below (parts ++ part ∷ [])
facts-push own below parts part =
    let capped : min too_many (parts_most below parts + min part.count (slice_index below part.clip)) ≡ min too_many (min too_many (parts_most below parts) + min part.count (slice_index below part.clip)) = omega arith in
    rw (all-push (λ (p : Part). nat_lt p.clip own) parts part, all-push is_part parts part, most-push below parts part, capped) refl

-- the parts of words so far
pub record AreRead (own : ℕ) (below : List ℕ) (words left : List (List ℕ)) (facts : Facts) : Type 0 where
  pub done : List Part
  pub whole : parts_by words ≡ parts_behind done (parts_by left)
  pub facts_are : facts ≡ facts_of_parts own below done

pub none_read : (own : ℕ) (below : List ℕ) (words : List (List ℕ)) (facts : Facts) → facts ≡ facts_before → AreRead own below words words facts
none_read own below words facts is = record { done = []; whole = nothing_before (parts_by words); facts_are = is }

pub one_read : (own : ℕ) (below : List ℕ) (words left rest : List (List ℕ)) (facts new : Facts) (part : Part) → AreRead own below words left facts → parts_by left ≡ part_before (Some part) (parts_by rest) → new ≡ facts_with own below facts part → AreRead own below words rest new
one_read own below words left rest facts new part before next is = record {
  done = before.done ++ part ∷ [];
  whole = before.whole ∙ ap (parts_behind before.done) next ∙ behind_part before.done part (parts_by rest);
  facts_are = is ∙ ap (λ (f : Facts). facts_with own below f part) before.facts_are ∙ facts-push own below before.done part;
}

-- words make one part or more
part_of_some : (first : Option Part) (more : Option (List Part)) (parts : List Part) → part_before first more ≡ Some parts → 0 < length parts
part_of_some None more parts is = absurd (cc)
part_of_some (Some part) None parts is = absurd (cc)
part_of_some (Some part) (Some more) [] is = absurd (cc)
part_of_some (Some part) (Some more) (x ∷ parts) is = omega arith

pub some_parts : (words : List (List ℕ)) (word : List ℕ) (more : List (List ℕ)) (parts : List Part) → words ≡ word ∷ more → parts_by words ≡ Some parts → 0 < length parts
some_parts words word [] parts is read = absurd (let e : None ≡ Some parts = sym (ap parts_by is) ∙ read in cc)
some_parts words word (a ∷ []) parts is read = absurd (let e : None ≡ Some parts = sym (ap parts_by is) ∙ read in cc)
some_parts words word (a ∷ b ∷ more) parts is read = part_of_some (part_of word a b) (parts_by more) parts (sym (ap parts_by is) ∙ read)

pub parts_node : (parts : List Part) → 0 < length parts → node_of_parts (Some parts) ≡ Some (Parts parts)
parts_node [] some = absurd (omega arith)
parts_node (part ∷ parts) some = refl

-- all words are read
pub all_parts_read : (own sources : ℕ) (below : List ℕ) (words left : List (List ℕ)) (word : List ℕ) (more : List (List ℕ)) (facts : Facts) → AreRead own below words left facts → left ≡ [] → words ≡ word ∷ more → Some facts ≡ option_map (facts_of own sources below) (node_of_parts (parts_by words))
all_parts_read own sources below words left word more facts are end some =
    let read : parts_by words ≡ Some are.done = are.whole ∙ ap (λ (ws : List (List ℕ)). parts_behind are.done (parts_by ws)) end ∙ ap (λ (ps : List Part). Some ps) (append-nil are.done) in
    let long : 0 < length are.done = some_parts words word more are.done some read in
    ap (λ (f : Facts). Some f) (are.facts_are ∙ same are.done long)
    ∙ sym (ap (λ (ps : Option (List Part)). option_map (facts_of own sources below) (node_of_parts ps)) read ∙ ap (option_map (facts_of own sources below)) (parts_node are.done long))
  where
    same : (parts : List Part) → 0 < length parts → facts_of_parts own below parts ≡ facts_of own sources below (Parts parts)
    same parts long = rw (lt-ltb 0 (length parts) long, and_true (list_all (λ (part : Part). nat_lt part.clip own) parts)) refl

pub not_parts : (own sources : ℕ) (below : List ℕ) (words left : List (List ℕ)) (facts : Facts) → AreRead own below words left facts → parts_by left ≡ None → option_map (facts_of own sources below) (node_of_parts (parts_by words)) ≡ None
not_parts own sources below words left facts are none = ap (λ (ps : Option (List Part)). option_map (facts_of own sources below) (node_of_parts ps)) (are.whole ∙ ap (parts_behind are.done) none)
