-- A script that is written is read again.
use Rattle.std.proofs.Common.{rules, ◌≡◌, ℕ, ◌+◌, ◌<◌, ◌≤◌, ◌^◌, Bool, true, false, cond, not, ◌&&◌, ◌==◌, List, [], ◌∷◌, ◌++◌, Option, Some, None, Ok, Err, length, map, nat_lt, refl, ap, ◌∙◌, arith, append-nil, ne_eqb}
use Rattle.std.proofs.lemmas.Bool.{le-leb, lt-ltb, ltb-false, ltb-true}
use Rattle.std.proofs.lemmas.Bool.Decides.{nat_tests}
use Rattle.std.proofs.lemmas.Fmt.{decimal_nonempty, digits_decimal, digits_value-decimal, length-decimal-le}
use Rattle.std.proofs.lemmas.List.Elements.{All-append, All-cons, All-from_get_or, All-from_recursion, All-nil}
use Rattle.std.proofs.lemmas.List.Splits.{slice_split_at, slice_split_none}
use Rattle.std.proofs.lemmas.Str.Parse.{IsNumeralModel, not_in_digits, numerals_by_value}
use Rattle.std.specs.Char.{is_ascii_digit}
use Rattle.std.specs.Fmt.{decimal}
use Rattle.std.specs.Int.{IsInRange}
use Rattle.std.specs.List.{All, flat_map, join_with_byte, list_all, slice_split}
use Rattle.std.specs.Option.{option_map_or}
use Rattle.std.specs.Prelude.{codes, filter}
use Rattle.std.specs.Str.{bytes_eq}
use Rattle.std.specs.Str.Parse.{digits_value}
use Rattle.text_words.specs.Words.{at_end, words_of}
use Rattle.text_words.proofs.Splits.{not_zero}
use Rattle.script_nodes.specs.declared.faults.ScriptFault.TheVariants.{Nodes, Reference, Number}
use Rattle.script_nodes.specs.declared.nodes.Area.{Area}
use Rattle.script_nodes.specs.declared.nodes.Ramp.{Ramp}
use Rattle.script_nodes.specs.declared.nodes.Node.{Node}
use Rattle.script_nodes.specs.declared.nodes.Node.TheVariants.{Source, Trim, Splice, Crop, Fade, Parts}
use Rattle.script_nodes.specs.declared.part_list.Part.{Part}
use Rattle.script_nodes.specs.Nodes.{all_use_below, has_numbers, has_source, is_area, is_dash, is_part, is_ramp, node_before, node_by_words, node_of, node_of_parts, nodes_by_parts, nodes_of, part_before, part_of, parts_by, script_from, short_number_of, uses_below, with_short_number}
use Rattle.script_nodes.specs.Written.{TextsAreReadBack, later_text, node_text, node_words, part_words, script_text}
use Rattle.script_nodes.specs.Lengths.{is_length, most_lengths}
use Rattle.script_nodes.proofs.PartWords.{parts_node}
use Rattle.script_nodes.proofs.Uses.{both}

-- ---- numbers

digits_own : IsNumeralModel (λ word. list_all is_ascii_digit word ≡ true) (digits_value 10)
digits_own = numerals_by_value _ (search rules)

-- a number that is written is read
number_read : (n : ℕ) → n < 2 ^ 32 → short_number_of (decimal n) ≡ Some n
number_read n small =
    let wide : n < 2 ^ 64 = omega (arith, small) in
    let digits : list_all is_ascii_digit (decimal n) ≡ true = digits_decimal digits_own n wide in
    let value : digits_value 10 (decimal n) ≡ n = digits_value-decimal digits_own n wide in
    let short : length (decimal n) ≤ 10 = length-decimal-le 10 n (omega arith) (omega (arith, small)) wide in
    let some : 0 < length (decimal n) = decimal_nonempty n wide in
    rw (le-leb (length (decimal n)) 10 short, lt-ltb 0 (length (decimal n)) some, le-leb (length (decimal n)) 20 (omega (arith, short)), digits, value, lt-ltb n (2 ^ 64) wide) refl

with_read : (n : ℕ) (next : ℕ → List (List ℕ) → Option Node) (words : List (List ℕ)) → n < 2 ^ 32 → with_short_number next (decimal n ∷ words) ≡ next n words
with_read n next words small = ap (λ (o : Option ℕ). option_map_or (λ value. next value words) o None) (number_read n small)

-- a number has no byte that is not a digit
number_lacks : (c n : ℕ) → (IsInRange 48 57 c → ⊥) → n < 2 ^ 32 → All (λ b. (b == c) ≡ false) (decimal n)
number_lacks c n other small =
    let wide : n < 2 ^ 64 = omega (arith, small) in
    All-from_get_or (λ b. (b == c) ≡ false) (decimal n) 0 (λ i within. ne_eqb _ c (not_in_digits digits_own (decimal n) c (digits_decimal digits_own n wide) other i within))

-- ---- words

-- a word: some bytes, and neither a space nor a semicolon among them
record IsWord (word : List ℕ) : Type 0 where
  some : 0 < length word
  spaces : All (λ b. (b == 32) ≡ false) word
  semicolons : All (λ b. (b == 59) ≡ false) word

abbrev AreWords : List (List ℕ) → Type 0
AreWords [] = Unit {0}
AreWords (word ∷ words) = IsWord word × AreWords words

number_word : (n : ℕ) → n < 2 ^ 32 → IsWord (decimal n)
number_word n small = record {
  some = decimal_nonempty n (omega (arith, small));
  spaces = number_lacks 32 n (λ h. omega (arith, h.0)) small;
  semicolons = number_lacks 59 n (λ h. omega (arith, h.1)) small;
}

source_word : IsWord (codes "source")
source_word = record {
  some = omega arith;
  spaces = All-from_recursion (λ b. (b == 32) ≡ false) (codes "source") (search rules);
  semicolons = All-from_recursion (λ b. (b == 59) ≡ false) (codes "source") (search rules);
}

trim_word : IsWord (codes "trim")
trim_word = record {
  some = omega arith;
  spaces = All-from_recursion (λ b. (b == 32) ≡ false) (codes "trim") (search rules);
  semicolons = All-from_recursion (λ b. (b == 59) ≡ false) (codes "trim") (search rules);
}

splice_word : IsWord (codes "splice")
splice_word = record {
  some = omega arith;
  spaces = All-from_recursion (λ b. (b == 32) ≡ false) (codes "splice") (search rules);
  semicolons = All-from_recursion (λ b. (b == 59) ≡ false) (codes "splice") (search rules);
}

crop_word : IsWord (codes "crop")
crop_word = record {
  some = omega arith;
  spaces = All-from_recursion (λ b. (b == 32) ≡ false) (codes "crop") (search rules);
  semicolons = All-from_recursion (λ b. (b == 59) ≡ false) (codes "crop") (search rules);
}

fade_word : IsWord (codes "fade")
fade_word = record {
  some = omega arith;
  spaces = All-from_recursion (λ b. (b == 32) ≡ false) (codes "fade") (search rules);
  semicolons = All-from_recursion (λ b. (b == 59) ≡ false) (codes "fade") (search rules);
}

parts_word : IsWord (codes "parts")
parts_word = record {
  some = omega arith;
  spaces = All-from_recursion (λ b. (b == 32) ≡ false) (codes "parts") (search rules);
  semicolons = All-from_recursion (λ b. (b == 59) ≡ false) (codes "parts") (search rules);
}

abbrev is_some_word : List ℕ → Bool
is_some_word word = not (length word == 0)

first_kept : (word : List ℕ) (parts : List (List ℕ)) → 0 < length word → filter is_some_word (word ∷ parts) ≡ word ∷ filter is_some_word parts
first_kept word parts some = ap (λ none. cond (not none) (word ∷ filter is_some_word parts) (filter is_some_word parts)) (not_zero (length word) some)

-- a word before others
words_first : (word text : List ℕ) → IsWord word → words_of (word ++ 32 ∷ text) ≡ word ∷ words_of text
words_first word text is =
    ap (filter is_some_word) (slice_split_at (λ b. b == 32) word 32 text is.spaces refl) ∙ first_kept word (slice_split (λ b. b == 32) text) is.some

-- words with a space between two are these words
words_joined : (words : List (List ℕ)) → AreWords words → words_of (join_with_byte 32 words) ≡ words
words_joined [] are = refl
words_joined (word ∷ []) are = ap (filter is_some_word) (slice_split_none (λ b. b == 32) word are.0.spaces) ∙ first_kept word [] are.0.some
words_joined (word ∷ next ∷ words) are = words_first word (join_with_byte 32 (next ∷ words)) are.0 ∙ ap (λ (ws : List (List ℕ)). word ∷ ws) (words_joined (next ∷ words) are.1)

joined_lacks : (words : List (List ℕ)) → AreWords words → All (λ b. (b == 59) ≡ false) (join_with_byte 32 words)
joined_lacks [] are = All-nil (λ b. (b == 59) ≡ false)
joined_lacks (word ∷ []) are = are.0.semicolons
joined_lacks (word ∷ next ∷ words) are =
    let P : ℕ → Type 0 = λ b. (b == 59) ≡ false in
    let more : All P (32 ∷ join_with_byte 32 (next ∷ words)) = All-cons P 32 (join_with_byte 32 (next ∷ words)) refl (joined_lacks (next ∷ words) are.1) in
    All-append P word (32 ∷ join_with_byte 32 (next ∷ words)) are.0.semicolons more

-- ---- nodes

-- the numbers of parts have at most 10 digits
abbrev ArePartsShort : List Part → Type 0
ArePartsShort [] = Unit {0}
ArePartsShort (part ∷ parts) = ((part.clip < 2 ^ 32) × (part.first < 2 ^ 32) × (part.count < 2 ^ 32)) × ArePartsShort parts

-- the numbers of a node have at most 10 digits
abbrev IsShort : Node → Type 0
IsShort (Source number) = number < 2 ^ 32
IsShort (Trim clip first count) = (clip < 2 ^ 32) × (first < 2 ^ 32) × (count < 2 ^ 32)
IsShort (Splice front back) = (front < 2 ^ 32) × (back < 2 ^ 32)
IsShort (Crop clip area) = (clip < 2 ^ 32) × (area.x < 2 ^ 32) × (area.y < 2 ^ 32) × (area.width < 2 ^ 32) × (area.height < 2 ^ 32)
IsShort (Fade clip ramp) = (clip < 2 ^ 32) × (ramp.first < 2 ^ 32) × (ramp.count < 2 ^ 32) × (ramp.start < 2 ^ 32) × (ramp.end < 2 ^ 32)
IsShort (Parts parts) = (0 < length parts) × ArePartsShort parts

abbrev AreShort : List Node → Type 0
AreShort [] = Unit {0}
AreShort (node ∷ nodes) = IsShort node × AreShort nodes

parts_are_words : (parts : List Part) → ArePartsShort parts → AreWords (flat_map part_words parts)
parts_are_words [] s = tt
parts_are_words (part ∷ parts) s = (number_word part.clip s.0.0, (number_word part.first s.0.1, (number_word part.count s.0.2, parts_are_words parts s.1)))

node_are_words : (node : Node) → IsShort node → AreWords (node_words node)
node_are_words (Source number) s = (source_word, (number_word number s, tt))
node_are_words (Trim clip first count) s = (trim_word, (number_word clip s.0, (number_word first s.1, (number_word count s.2, tt))))
node_are_words (Splice front back) s = (splice_word, (number_word front s.0, (number_word back s.1, tt)))
node_are_words (Crop clip area) s = (crop_word, (number_word clip s.0, (number_word area.x s.1, (number_word area.y s.2, (number_word area.width s.3, (number_word area.height s.4, tt))))))
node_are_words (Fade clip ramp) s = (fade_word, (number_word clip s.0, (number_word ramp.first s.1, (number_word ramp.count s.2, (number_word ramp.start s.3, (number_word ramp.end s.4, tt))))))
node_are_words (Parts parts) s = (parts_word, parts_are_words parts s.1)

-- the parts of the words that are written
part_read : (part : Part) → part.clip < 2 ^ 32 → part.first < 2 ^ 32 → part.count < 2 ^ 32 → part_of (decimal part.clip) (decimal part.first) (decimal part.count) ≡ Some part
part_read part clip first count = rw (number_read part.clip clip, number_read part.first first, number_read part.count count) refl

parts_read : (parts : List Part) → ArePartsShort parts → parts_by (flat_map part_words parts) ≡ Some parts
parts_read [] s = refl
parts_read (part ∷ parts) s =
    ap (λ (first : Option Part). part_before first (parts_by (flat_map part_words parts))) (part_read part s.0.0 s.0.1 s.0.2)
    ∙ ap (part_before (Some part)) (parts_read parts s.1)

-- the node of the words that are written
node_by_own_words : (node : Node) → IsShort node → node_by_words (node_words node) ≡ Some node
node_by_own_words (Source number) s = with_read number (λ n. at_end None (Some (Source n))) [] s
node_by_own_words (Trim clip first count) s =
    with_read clip (λ a. with_short_number (λ b. with_short_number (λ c. at_end None (Some (Trim a b c))))) (decimal first ∷ decimal count ∷ []) s.0
    ∙ with_read first (λ b. with_short_number (λ c. at_end None (Some (Trim clip b c)))) (decimal count ∷ []) s.1
    ∙ with_read count (λ c. at_end None (Some (Trim clip first c))) [] s.2
node_by_own_words (Splice front back) s =
    with_read front (λ a. with_short_number (λ b. at_end None (Some (Splice a b)))) (decimal back ∷ []) s.0
    ∙ with_read back (λ b. at_end None (Some (Splice front b))) [] s.1
node_by_own_words (Crop clip area) s =
    with_read clip (λ a. with_short_number (λ x. with_short_number (λ y. with_short_number (λ w. with_short_number (λ h. at_end None (Some (Crop a (record { x = x; y = y; width = w; height = h })))))))) (decimal area.x ∷ decimal area.y ∷ decimal area.width ∷ decimal area.height ∷ []) s.0
    ∙ with_read area.x (λ x. with_short_number (λ y. with_short_number (λ w. with_short_number (λ h. at_end None (Some (Crop clip (record { x = x; y = y; width = w; height = h }))))))) (decimal area.y ∷ decimal area.width ∷ decimal area.height ∷ []) s.1
    ∙ with_read area.y (λ y. with_short_number (λ w. with_short_number (λ h. at_end None (Some (Crop clip (record { x = area.x; y = y; width = w; height = h })))))) (decimal area.width ∷ decimal area.height ∷ []) s.2
    ∙ with_read area.width (λ w. with_short_number (λ h. at_end None (Some (Crop clip (record { x = area.x; y = area.y; width = w; height = h }))))) (decimal area.height ∷ []) s.3
    ∙ with_read area.height (λ h. at_end None (Some (Crop clip (record { x = area.x; y = area.y; width = area.width; height = h })))) [] s.4
node_by_own_words (Fade clip ramp) s =
    with_read clip (λ a. with_short_number (λ f. with_short_number (λ n. with_short_number (λ u. with_short_number (λ v. at_end None (Some (Fade a (record { first = f; count = n; start = u; end = v })))))))) (decimal ramp.first ∷ decimal ramp.count ∷ decimal ramp.start ∷ decimal ramp.end ∷ []) s.0
    ∙ with_read ramp.first (λ f. with_short_number (λ n. with_short_number (λ u. with_short_number (λ v. at_end None (Some (Fade clip (record { first = f; count = n; start = u; end = v }))))))) (decimal ramp.count ∷ decimal ramp.start ∷ decimal ramp.end ∷ []) s.1
    ∙ with_read ramp.count (λ n. with_short_number (λ u. with_short_number (λ v. at_end None (Some (Fade clip (record { first = ramp.first; count = n; start = u; end = v })))))) (decimal ramp.start ∷ decimal ramp.end ∷ []) s.2
    ∙ with_read ramp.start (λ u. with_short_number (λ v. at_end None (Some (Fade clip (record { first = ramp.first; count = ramp.count; start = u; end = v }))))) (decimal ramp.end ∷ []) s.3
    ∙ with_read ramp.end (λ v. at_end None (Some (Fade clip (record { first = ramp.first; count = ramp.count; start = ramp.start; end = v })))) [] s.4
node_by_own_words (Parts parts) s = ap node_of_parts (parts_read parts s.1) ∙ parts_node parts s.0

node_read : (node : Node) → IsShort node → node_of (node_text node) ≡ Some node
node_read node s = ap node_by_words (words_joined (node_words node) (node_are_words node s)) ∙ node_by_own_words node s

-- a text that begins with a name is not a dash
name_no_dash : (word text : List ℕ) → IsWord word → bytes_eq word (codes "-") ≡ false → is_dash (words_of (word ++ 32 ∷ text)) ≡ false
name_no_dash word text is other = ap is_dash (words_first word text is) ∙ by_more (words_of text)
  where
    by_more : (more : List (List ℕ)) → is_dash (word ∷ more) ≡ false
    by_more [] = other
    by_more (next ∷ more) = refl

node_no_dash : (node : Node) (text : List ℕ) → IsShort node → is_dash (words_of (node_text node ++ text)) ≡ false
node_no_dash (Source number) text s = name_no_dash (codes "source") (decimal number ++ text) source_word refl
node_no_dash (Trim clip first count) text s = name_no_dash (codes "trim") (join_with_byte 32 (decimal clip ∷ decimal first ∷ decimal count ∷ []) ++ text) trim_word refl
node_no_dash (Splice front back) text s = name_no_dash (codes "splice") (join_with_byte 32 (decimal front ∷ decimal back ∷ []) ++ text) splice_word refl
node_no_dash (Crop clip area) text s = name_no_dash (codes "crop") (join_with_byte 32 (decimal clip ∷ decimal area.x ∷ decimal area.y ∷ decimal area.width ∷ decimal area.height ∷ []) ++ text) crop_word refl
node_no_dash (Fade clip ramp) text s = name_no_dash (codes "fade") (join_with_byte 32 (decimal clip ∷ decimal ramp.first ∷ decimal ramp.count ∷ decimal ramp.start ∷ decimal ramp.end ∷ []) ++ text) fade_word refl
node_no_dash (Parts []) text s = absurd (omega (arith, s.0))
node_no_dash (Parts (part ∷ parts)) text s = name_no_dash (codes "parts") (join_with_byte 32 (flat_map part_words (part ∷ parts)) ++ text) parts_word refl

-- ---- scripts

-- the parts of a script's text are the texts of its nodes
parts_of : (node : Node) (nodes : List Node) → IsShort node → AreShort nodes → slice_split (λ b. b == 59) (node_text node ++ flat_map later_text nodes) ≡ node_text node ∷ map node_text nodes
parts_of node [] s are =
    ap (slice_split (λ b. b == 59)) (append-nil (node_text node)) ∙ slice_split_none (λ b. b == 59) (node_text node) (joined_lacks (node_words node) (node_are_words node s))
parts_of node (next ∷ nodes) s are =
    slice_split_at (λ b. b == 59) (node_text node) 59 (node_text next ++ flat_map later_text nodes) (joined_lacks (node_words node) (node_are_words node s)) refl
    ∙ ap (λ (parts : List (List ℕ)). node_text node ∷ parts) (parts_of next nodes are.0 are.1)

all_read : (nodes : List Node) → AreShort nodes → nodes_by_parts (map node_text nodes) ≡ Some nodes
all_read [] are = refl
all_read (node ∷ nodes) are =
    ap (λ (first : Option Node). node_before first (nodes_by_parts (map node_text nodes))) (node_read node are.0)
    ∙ ap (λ (rest : Option (List Node)). node_before (Some node) rest) (all_read nodes are.1)

text_read : (nodes : List Node) → AreShort nodes → nodes_of (script_text nodes) ≡ Some nodes
text_read [] are = refl
text_read (node ∷ nodes) are =
    let text : List ℕ = node_text node ++ flat_map later_text nodes in
    ap (λ (dash : Bool). cond dash (Some []) (nodes_by_parts (slice_split (λ b. b == 59) text))) (node_no_dash node (flat_map later_text nodes) are.0)
    ∙ ap nodes_by_parts (parts_of node nodes are.0 are.1)
    ∙ all_read (node ∷ nodes) are

-- the numbers of a script are short
area_short : (area : Area) → is_area area ≡ true → (area.x < 2 ^ 32) × (area.y < 2 ^ 32) × (area.width < 2 ^ 32) × (area.height < 2 ^ 32)
area_short area is = (grind (arith, nat_tests), grind (arith, nat_tests), grind (arith, nat_tests), grind (arith, nat_tests))

ramp_short : (ramp : Ramp) → is_ramp ramp ≡ true → (ramp.first < 2 ^ 32) × (ramp.count < 2 ^ 32) × (ramp.start < 2 ^ 32) × (ramp.end < 2 ^ 32)
ramp_short ramp is = (grind (arith, nat_tests), grind (arith, nat_tests), grind (arith, nat_tests), grind (arith, nat_tests))

below : (n most : ℕ) → most ≤ 2 ^ 32 → nat_lt n most ≡ true → n < 2 ^ 32
below n most few is = let less : n < most = ltb-true n most is in omega (arith, less, few)

parts_short : (own : ℕ) (parts : List Part) → own ≤ 2 ^ 32 → list_all (λ part. nat_lt part.clip own) parts ≡ true → list_all is_part parts ≡ true → ArePartsShort parts
parts_short own [] few uses numbers = tt
parts_short own (part ∷ parts) few uses numbers =
    let u = both _ _ uses in
    let n = both _ _ numbers in
    let here = both _ _ n.0 in
    ((below part.clip own few u.0, below part.first (2 ^ 32) (omega arith) here.0, below part.count (2 ^ 32) (omega arith) here.1), parts_short own parts few u.1 n.1)

node_short : (own sources : ℕ) (node : Node) → own ≤ 2 ^ 32 → sources ≤ 2 ^ 32 → uses_below own node ≡ true → has_source sources node ≡ true → has_numbers node ≡ true → IsShort node
node_short own sources (Source number) few many uses source numbers = below number sources many source
node_short own sources (Trim clip first count) few many uses source numbers =
    let two = both _ _ numbers in
    (below clip own few uses, below first (2 ^ 32) (omega arith) two.0, below count (2 ^ 32) (omega arith) two.1)
node_short own sources (Splice front back) few many uses source numbers = let two = both _ _ uses in (below front own few two.0, below back own few two.1)
node_short own sources (Crop clip area) few many uses source numbers = let a = area_short area numbers in (below clip own few uses, a.0, a.1, a.2, a.3)
node_short own sources (Fade clip ramp) few many uses source numbers = let r = ramp_short ramp numbers in (below clip own few uses, r.0, r.1, r.2, r.3)
node_short own sources (Parts parts) few many uses source numbers = let two = both _ _ numbers in (ltb-true 0 (length parts) two.0, parts_short own parts few uses two.1)

all_short : (own sources : ℕ) (nodes : List Node) → own + length nodes ≤ 2 ^ 32 → sources ≤ 2 ^ 32 → all_use_below own nodes ≡ true → list_all (has_source sources) nodes ≡ true → list_all has_numbers nodes ≡ true → AreShort nodes
all_short own sources [] few many uses source numbers = tt
all_short own sources (node ∷ nodes) few many uses source numbers =
    let u = both (uses_below own node) (all_use_below (own + 1) nodes) uses in
    let s = both (has_source sources node) (list_all (has_source sources) nodes) source in
    let n = both (has_numbers node) (list_all has_numbers nodes) numbers in
    (node_short own sources node (omega (arith, few)) many u.0 s.0 n.0, all_short (own + 1) sources nodes (omega (arith, few)) many u.1 s.1 n.1)

-- a script is not refused
accepted : (many wrong odd : Bool) (nodes : List Node) → cond many (Err Nodes) (cond wrong (Err Reference) (cond odd (Err Number) (Ok nodes))) ≡ Ok nodes → (many ≡ false) × (wrong ≡ false) × (odd ≡ false)
accepted true wrong odd nodes is = cc
accepted false true odd nodes is = cc
accepted false false true nodes is = cc
accepted false false false nodes is = (refl, refl, refl)

turned : (b : Bool) → not b ≡ false → b ≡ true
turned true is = refl
turned false is = cc

pub read_back : TextsAreReadBack
read_back sources nodes many is =
    let allowed = accepted (nat_lt 16 (length nodes)) (not (all_use_below 1 nodes && list_all (has_source sources) nodes)) (not (list_all has_numbers nodes && list_all is_length (most_lengths nodes))) nodes is in
    let few : length nodes ≤ 16 = ltb-false 16 (length nodes) allowed.0 in
    let uses = both (all_use_below 1 nodes) (list_all (has_source sources) nodes) (turned _ allowed.1) in
    let numbers = both (list_all has_numbers nodes) (list_all is_length (most_lengths nodes)) (turned _ allowed.2) in
    ap (script_from sources) (text_read nodes (all_short 1 sources nodes (omega (arith, few)) many uses.0 uses.1 numbers.0)) ∙ is
