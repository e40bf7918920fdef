-- The nodes that are read from a text, part by part.
use Rattle.std.specs.Borrow.{Bor}
use Rattle.std.specs.Bool.{MatchBool}
use Rattle.std.specs.List.{list_all, slice_split}
use Rattle.std.specs.Option.{option_map}
use Rattle.std.specs.Prelude.{min, slice_index, OnOk, IfErr, Result}
use Rattle.std.proofs.Common.{◌≡◌, ℕ, zero, suc, ◌+◌, ◌<◌, ◌≤◌, Bool, true, false, ◌&&◌, ◌==◌, Option, None, Some, List, [], ◌∷◌, ◌++◌, length, refl, sym, ap, subst, ◌∙◌, arith, append_assoc, append-nil, length-append}
use Rattle.std.proofs.lemmas.Bool.{lt-ltb, le-ltb}
use Rattle.script_nodes.specs.declared.drafts.Facts.{Facts}
use Rattle.script_nodes.specs.declared.faults.ScriptFault.{ScriptFault}
use Rattle.script_nodes.specs.declared.nodes.Node.{Node}
use Rattle.script_nodes.specs.declared.reading.Flags.{Flags}
use Rattle.script_nodes.specs.Lengths.{built, is_length, most_lengths, node_most}
use Rattle.script_nodes.specs.Nodes.{all_use_below, has_numbers, has_source, node_before, node_of, nodes_by_parts, uses_below}
use Rattle.script_nodes.specs.PartLists.{too_many}
use Rattle.script_nodes.specs.Reading.{IsAccepted, RefusesNodes, facts_of, flags_before, flags_with, parts_left, verdict_of}
use Rattle.script_nodes.proofs.PartWords.{all-push}

-- nodes before others, if those exist
abbrev pub nodes_behind : List Node → Option (List Node) → Option (List Node)
nodes_behind all None = None
nodes_behind all (Some more) = Some (all ++ more)

-- the length of the rest of a text
abbrev pub left_length : Option (Bor (List ℕ)) → ℕ
left_length None = 0
left_length (Some text) = suc (length text.now)

behind_one : (all : List Node) (node : Node) (more : Option (List Node)) → nodes_behind all (node_before (Some node) more) ≡ nodes_behind (all ++ node ∷ []) more
behind_one all node None = refl
behind_one all node (Some more) = ap (λ (l : List Node). Some l) (sym (append_assoc all (node ∷ []) more))

behind_none : (all : List Node) (more : Option (List Node)) → nodes_behind all (node_before None more) ≡ None
behind_none all None = refl
behind_none all (Some more) = refl

pub nothing_before : (more : Option (List Node)) → more ≡ nodes_behind [] more
nothing_before None = refl
nothing_before (Some more) = refl

-- the parts after one that was read
pub node_behind : (all : List Node) (node : Node) (part : List ℕ) (found : Option (List Node)) (before : List (List ℕ)) (left : Option (Bor (List ℕ))) → found ≡ nodes_behind all (nodes_by_parts before) → before ≡ part ∷ parts_left left → node_of part ≡ Some node → found ≡ nodes_behind (all ++ node ∷ []) (nodes_by_parts (parts_left left))
node_behind all node part found before left is cut read =
    is ∙ ap (λ (parts : List (List ℕ)). nodes_behind all (nodes_by_parts parts)) cut ∙ ap (λ (first : Option Node). nodes_behind all (node_before first (nodes_by_parts (parts_left left)))) read
    ∙ behind_one all node (nodes_by_parts (parts_left left))

-- a part that is not a node
pub no_node : (all : List Node) (part : List ℕ) (found : Option (List Node)) (before : List (List ℕ)) (left : Option (Bor (List ℕ))) → found ≡ nodes_behind all (nodes_by_parts before) → before ≡ part ∷ parts_left left → node_of part ≡ None → found ≡ None
no_node all part found before left is cut read =
    is ∙ ap (λ (parts : List (List ℕ)). nodes_behind all (nodes_by_parts parts)) cut ∙ ap (λ (first : Option Node). nodes_behind all (node_before first (nodes_by_parts (parts_left left)))) read
    ∙ behind_none all (nodes_by_parts (parts_left left))

-- all parts were read
pub no_more : (all : List Node) (found : Option (List Node)) (left : Option (Bor (List ℕ))) → found ≡ nodes_behind all (nodes_by_parts (parts_left left)) → left ≡ None → found ≡ Some all
no_more all found left is end = is ∙ ap (λ (l : Option (Bor (List ℕ))). nodes_behind all (nodes_by_parts (parts_left l))) end ∙ ap (λ (l : List Node). Some l) (append-nil all)

-- the flags of the nodes that were read
abbrev pub flags_of : ℕ → List Node → Flags
flags_of sources all = record {
  more = false;
  references = all_use_below 1 all && list_all (has_source sources) all;
  numbers = list_all has_numbers all && list_all is_length (most_lengths all);
}

-- at most 16 nodes, with their flags and the most frames of their clips
pub record AreChecked (sources : ℕ) (all : List Node) (flags : Flags) (most : List ℕ) : Type 0 where
  pub few : length all ≤ 16
  pub long : length most ≡ length all + 1
  pub most_is : most ≡ most_lengths all
  pub flags_are : flags ≡ flags_of sources all

-- the nodes that were read: all were checked, or they are more than 16
pub record IsRead (sources : ℕ) (text : List ℕ) (flags : Flags) (most : List ℕ) (left : Option (Bor (List ℕ))) : Type 0 where
  pub all : List Node
  pub parts : nodes_by_parts (slice_split (λ b. b == 59) text) ≡ nodes_behind all (nodes_by_parts (parts_left left))
  pub held : MatchBool flags.more ((16 < length all) × (length most ≡ 17)) (AreChecked sources all flags most)
  pub small : (k : ℕ) → slice_index most k ≤ too_many

-- four tests in another order
swapped : (a b u s : Bool) → ((a && b) && (u && s)) ≡ ((a && u) && (b && s))
swapped true true u s = refl
swapped true false true s = refl
swapped true false false s = refl
swapped false b u s = refl

use-push : (own : ℕ) (nodes : List Node) (node : Node) → all_use_below own (nodes ++ node ∷ []) ≡ (all_use_below own nodes && uses_below (own + length nodes) node)
use-push own [] node = let e : own ≡ own + 0 = omega arith in and_true (uses_below own node) ∙ ap (λ (n : ℕ). uses_below n node) e
  where
    and_true : (b : Bool) → (b && true) ≡ b
    and_true true = refl
    and_true false = refl
use-push own (x ∷ nodes) node =
    let e : own + 1 + length nodes ≡ own + suc (length nodes) = omega arith in
    ap (λ (b : Bool). uses_below own x && b) (use-push (own + 1) nodes node ∙ ap (λ (n : ℕ). all_use_below (own + 1) nodes && uses_below n node) e)
    ∙ and_assoc (uses_below own x) (all_use_below (own + 1) nodes) (uses_below (own + suc (length nodes)) node)
  where
    and_assoc : (a b c : Bool) → (a && (b && c)) ≡ ((a && b) && c)
    and_assoc true b c = refl
    and_assoc false b c = refl

built-push : {B : Type 0} (make : List B → Node → B) (below : List B) (nodes : List Node) (node : Node) → built make below (nodes ++ node ∷ []) ≡ built make below nodes ++ make (built make below nodes) node ∷ []
built-push make below [] node = refl
built-push make below (x ∷ nodes) node = built-push make (below ++ make below x ∷ []) nodes node

-- the flags with one more node
flags-push : (sources own : ℕ) (all : List Node) (node : Node) (most : List ℕ) → own ≡ length all + 1 → most ≡ most_lengths all → flags_with (flags_of sources all) (facts_of own sources most node) ≡ flags_of sources (all ++ node ∷ [])
flags-push sources own all node most own_is most_is =
    let number : 1 + length all ≡ own = omega (arith, own_is) in
    let longest : most_lengths (all ++ node ∷ []) ≡ most ++ min too_many (node_most most node) ∷ [] = built-push (λ below n. min too_many (node_most below n)) (1048576 ∷ []) all node ∙ ap (λ (l : List ℕ). l ++ min too_many (node_most l node) ∷ []) (sym most_is) in
    let uses : all_use_below 1 (all ++ node ∷ []) ≡ (all_use_below 1 all && uses_below own node) = use-push 1 all node ∙ ap (λ (n : ℕ). all_use_below 1 all && uses_below n node) number in
    let within : list_all is_length (most_lengths (all ++ node ∷ [])) ≡ (list_all is_length (most_lengths all) && is_length (min too_many (node_most most node))) = ap (list_all is_length) longest ∙ all-push is_length most (min too_many (node_most most node)) ∙ ap (λ (l : List ℕ). list_all is_length l && is_length (min too_many (node_most most node))) most_is in
    ap (λ (b : Bool). record { more = false; references = b; numbers = (list_all has_numbers all && list_all is_length (most_lengths all)) && (has_numbers node && is_length (min too_many (node_most most node))) })
    (swapped (all_use_below 1 all) (list_all (has_source sources) all) (uses_below own node) (has_source sources node) ∙ ap (λ (b : Bool). b && (list_all (has_source sources) all && has_source sources node)) (sym uses) ∙ ap (λ (b : Bool). all_use_below 1 (all ++ node ∷ []) && b) (sym (all-push (has_source sources) all node)))
    ∙ ap (λ (b : Bool). record { more = false; references = all_use_below 1 (all ++ node ∷ []) && list_all (has_source sources) (all ++ node ∷ []); numbers = b })
    (swapped (list_all has_numbers all) (list_all is_length (most_lengths all)) (has_numbers node) (is_length (min too_many (node_most most node))) ∙ ap (λ (b : Bool). b && (list_all is_length (most_lengths all) && is_length (min too_many (node_most most node)))) (sym (all-push has_numbers all node)) ∙ ap (λ (b : Bool). list_all has_numbers (all ++ node ∷ []) && b) (sym within))

-- each is at most this, also with one more
small-push : (most : List ℕ) (n : ℕ) → ((k : ℕ) → slice_index most k ≤ too_many) → n ≤ too_many → (k : ℕ) → slice_index (most ++ n ∷ []) k ≤ too_many
small-push [] n small last zero = last
small-push [] n small last (suc k) = omega arith
small-push (x ∷ most) n small last zero = small 0
small-push (x ∷ most) n small last (suc k) = small-push most n (λ j. small (suc j)) last k

-- no part was read
pub none_read : (sources : ℕ) (text : Bor (List ℕ)) (flags : Flags) (most : List ℕ) → flags ≡ flags_before → most ≡ 1048576 ∷ [] → IsRead sources text.now flags most (Some text)
none_read sources text flags most flags_are most_is = record {
  all = [];
  parts = nothing_before (nodes_by_parts (slice_split (λ b. b == 59) text.now));
  held = rw flags_are (record { few = omega arith; long = ap length most_is; most_is = most_is; flags_are = refl });
  small = λ k. rw most_is (one k);
}
  where
    one : (k : ℕ) → slice_index (1048576 ∷ []) k ≤ too_many
    one zero = omega arith
    one (suc k) = omega arith

-- one more node, when there are 16
pub one_left_out : (sources : ℕ) (text : List ℕ) (flags new : Flags) (most : List ℕ) (here : Bor (List ℕ)) (part : List ℕ) (left : Option (Bor (List ℕ))) (node : Node) → IsRead sources text flags most (Some here) → slice_split (λ b. b == 59) here.now ≡ part ∷ parts_left left → node_of part ≡ Some node → length most ≡ 17 → new.more ≡ true → IsRead sources text new most left
one_left_out sources text flags new most here part left node before cut read full is = record {
  all = before.all ++ node ∷ [];
  parts = node_behind before.all node part _ _ left before.parts cut read;
  held = subst (λ (b : Bool). MatchBool b ((16 < length (before.all ++ node ∷ [])) × (length most ≡ 17)) (AreChecked sources (before.all ++ node ∷ []) new most)) (sym is) (omega (arith, length-append before.all (node ∷ []), enough flags.more before.held), full);
  small = before.small;
}
  where
    enough : (more : Bool) → MatchBool more ((16 < length before.all) × (length most ≡ 17)) (AreChecked sources before.all flags most) → 16 ≤ length before.all
    enough true held = omega (arith, held.0)
    enough false held = omega (arith, held.long, full)

-- one more node that is checked
pub one_checked : (sources : ℕ) (text : List ℕ) (flags new : Flags) (most more_most : List ℕ) (here : Bor (List ℕ)) (part : List ℕ) (left : Option (Bor (List ℕ))) (node : Node) (own : ℕ) (facts : Facts) → IsRead sources text flags most (Some here) → slice_split (λ b. b == 59) here.now ≡ part ∷ parts_left left → node_of part ≡ Some node → length most < 17 → own ≡ length most → facts ≡ facts_of own sources most node → new ≡ flags_with flags facts → more_most ≡ most ++ facts.most ∷ [] → IsRead sources text new more_most left
one_checked sources text flags new most more_most here part left node own facts before cut read room own_is facts_are is more_is = record {
  all = before.all ++ node ∷ [];
  parts = node_behind before.all node part _ _ left before.parts cut read;
  held = held flags.more refl before.held;
  small = λ k. rw more_is (small-push most facts.most before.small (rw facts_are (omega arith)) k);
}
  where
    held : (b : Bool) → flags.more ≡ b → MatchBool b ((16 < length before.all) × (length most ≡ 17)) (AreChecked sources before.all flags most) → MatchBool new.more ((16 < length (before.all ++ node ∷ [])) × (length more_most ≡ 17)) (AreChecked sources (before.all ++ node ∷ []) new more_most)
    held true e had = absurd (omega (arith, had.1, room))
    held false e had =
        let kept : new.more ≡ false = ap (λ (f : Flags). f.more) is ∙ e in
        let long : length (before.all ++ node ∷ []) ≡ length before.all + 1 = length-append before.all (node ∷ []) in
        let long_most : length (most ++ facts.most ∷ []) ≡ length most + 1 = length-append most (facts.most ∷ []) in
        let fact : facts.most ≡ min too_many (node_most most node) = ap (λ (f : Facts). f.most) facts_are in
        subst (λ (b : Bool). MatchBool b ((16 < length (before.all ++ node ∷ [])) × (length more_most ≡ 17)) (AreChecked sources (before.all ++ node ∷ []) new more_most)) (sym kept) (record {
          few = omega (arith, long, had.long, room);
          long = omega (arith, ap length more_is, long, long_most, had.long);
          most_is = more_is ∙ ap (λ (n : ℕ). most ++ n ∷ []) fact ∙ sym (built-push (λ below n. min too_many (node_most below n)) (1048576 ∷ []) before.all node ∙ ap (λ (l : List ℕ). l ++ min too_many (node_most l node) ∷ []) (sym had.most_is));
          flags_are = is ∙ ap (λ (f : Flags). flags_with f facts) had.flags_are ∙ ap (flags_with (flags_of sources before.all)) facts_are ∙ flags-push sources own before.all node most (omega (arith, own_is, had.long)) had.most_is;
        })

-- the first error of nodes that were read, by their flags
pub record IsJudged (sources : ℕ) (found : Option (List Node)) (verdict : Result Unit ScriptFault) : Type 0 where
  pub ok : OnOk verdict (IsAccepted sources found)
  pub refused : IfErr verdict (RefusesNodes sources found)

judged : (sources : ℕ) (all : List Node) (more references numbers : Bool) → MatchBool more (16 < length all) ((length all ≤ 16) × (references ≡ (all_use_below 1 all && list_all (has_source sources) all)) × (numbers ≡ (list_all has_numbers all && list_all is_length (most_lengths all)))) → IsJudged sources (Some all) (verdict_of (record { more = more; references = references; numbers = numbers }))
judged sources all true references numbers held = record { ok = tt; refused = rw (lt-ltb 16 (length all) held) refl }
judged sources all false false numbers held = record { ok = tt; refused = rw (le-ltb 16 (length all) held.0, sym held.1) refl }
judged sources all false true false held = record { ok = tt; refused = rw (le-ltb 16 (length all) held.0, sym held.1, sym held.2) refl }
judged sources all false true true held = record { ok = (all, refl, rw (le-ltb 16 (length all) held.0, sym held.1, sym held.2) refl); refused = tt }

pub is_judged : (sources : ℕ) (text : List ℕ) (flags : Flags) (most : List ℕ) (left : Option (Bor (List ℕ))) (verdict : Result Unit ScriptFault) → IsRead sources text flags most left → left ≡ None → verdict ≡ verdict_of flags → IsJudged sources (nodes_by_parts (slice_split (λ b. b == 59) text)) verdict
is_judged sources text flags most left verdict read end is =
    rw (no_more read.all _ left read.parts end, is) (judged sources read.all flags.more flags.references flags.numbers (held flags.more read.held))
  where
    held : (b : Bool) → MatchBool b ((16 < length read.all) × (length most ≡ 17)) (AreChecked sources read.all flags most) → MatchBool b (16 < length read.all) ((length read.all ≤ 16) × (flags.references ≡ (all_use_below 1 read.all && list_all (has_source sources) read.all)) × (flags.numbers ≡ (list_all has_numbers read.all && list_all is_length (most_lengths read.all))))
    held true had = had.0
    held false had = (had.few, ap (λ (f : Flags). f.references) had.flags_are, ap (λ (f : Flags). f.numbers) had.flags_are)

-- the node that facts are of
pub node_of_facts : (g : Node → Facts) (node : Option Node) (facts : Facts) → option_map g node ≡ Some facts → (found : Node) × (node ≡ Some found) × (facts ≡ g found)
node_of_facts g None facts is = absurd (cc)
node_of_facts g (Some node) facts is = (node, refl, (let e : g node ≡ facts = cc in sym e))
