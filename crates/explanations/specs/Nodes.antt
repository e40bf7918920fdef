-- Why the text of a script is refused as `Syntax`: the first of its parts that is not a node.
use Rattle.std.specs.Prelude.{ℕ, ◌+◌, ◌-◌, ◌==◌, if◌then◌else◌, List, [], ◌∷◌, ◌++◌, Option, Some, None, is_some, option_map, codes}
use Rattle.std.specs.Fmt.{decimal}
use Rattle.std.specs.List.{slice_split}
use Rattle.std.specs.Option.{option_or}
use Rattle.std.specs.Str.{bytes_eq}
use Rattle.text_words.specs.Words.{after_word, words_of}
use Rattle.explanations.specs.Words.{shown_word}
use Rattle.script_nodes.specs.Nodes.{short_number_of}
use Rattle.explanations.specs.Lines.{missing, no_short_number, reason_text, too_many}
use Rattle.explanations.specs.declared.nodes.NodeName.{NodeName}
use Rattle.explanations.specs.declared.nodes.NodeName.TheVariants.{Source, Trim, Splice, Crop, Fade, Parts}
use Rattle.explanations.specs.declared.nodes.NodeReason.{NodeReason}
use Rattle.explanations.specs.declared.nodes.NodeReason.TheVariants.{Empty, NoNode, Misfit}

-- the node with this name, if there is one
abbrev pub name_of : List ℕ → Option NodeName
name_of word =
    if bytes_eq word (codes "source") then Some Source
    else if bytes_eq word (codes "trim") then Some Trim
    else if bytes_eq word (codes "splice") then Some Splice
    else if bytes_eq word (codes "crop") then Some Crop
    else if bytes_eq word (codes "fade") then Some Fade
    else if bytes_eq word (codes "parts") then Some Parts
    else None

-- a node as it is written
abbrev pub form_text : NodeName → List ℕ
form_text Source = codes "source S"
form_text Trim = codes "trim A FIRST COUNT"
form_text Splice = codes "splice A B"
form_text Crop = codes "crop A X Y W H"
form_text Fade = codes "fade A FIRST COUNT FROM TO"
form_text Parts = codes "parts A FIRST COUNT A FIRST COUNT .."

abbrev pub empty_node : List ℕ
empty_node = codes "the node is empty"

abbrev pub no_node : List ℕ → List ℕ
no_node word = shown_word word ++ codes " is not source, trim, splice, crop, fade or parts"

-- a reason, and the form that was meant
abbrev pub with_form : NodeName → List ℕ → List ℕ
with_form name text = text ++ codes ": " ++ form_text name

-- each reason as a text
abbrev pub node_reason_text : NodeReason → List ℕ
node_reason_text Empty = empty_node
node_reason_text (NoNode word) = no_node word
node_reason_text (Misfit name reason) = with_form name (reason_text reason)

-- the first reason why these words are not this many numbers of a script, if they are not
abbrev pub wrong_number : ℕ → List (List ℕ) → Option (List ℕ)
wrong_number count [] = if count == 0 then None else Some missing
wrong_number count (word ∷ words) =
    if count == 0 then Some (too_many word)
    else if is_some (short_number_of word) then wrong_number (count - 1) words
    else Some (no_short_number word)

-- the same for words that are to be parts, three numbers each: this many are missing from the current part
abbrev pub wrong_part : ℕ → List (List ℕ) → Option (List ℕ)
wrong_part missing_numbers [] = if missing_numbers == 0 then None else Some missing
wrong_part missing_numbers (word ∷ words) =
    if is_some (short_number_of word) then wrong_part (if missing_numbers == 0 then 2 else missing_numbers - 1) words
    else Some (no_short_number word)

-- the same for the words after a node's name
abbrev pub misfit : NodeName → List (List ℕ) → Option (List ℕ)
misfit Source words = wrong_number 1 words
misfit Trim words = wrong_number 3 words
misfit Splice words = wrong_number 2 words
misfit Crop words = wrong_number 5 words
misfit Fade words = wrong_number 5 words
misfit Parts words = wrong_part 3 words

-- why these words are not a node, if they are not
abbrev pub reason_after_name : Option NodeName → List ℕ → List (List ℕ) → Option (List ℕ)
reason_after_name None word words = Some (no_node word)
reason_after_name (Some name) word words = option_map (with_form name) (misfit name words)

abbrev pub node_reason : List (List ℕ) → Option (List ℕ)
node_reason [] = Some empty_node
node_reason (word ∷ words) = reason_after_name (name_of word) word words

-- a reason, and the number of its node
abbrev pub numbered : ℕ → List ℕ → List ℕ
numbered number text = codes "node " ++ decimal number ++ codes ": " ++ text

-- the first of these parts that is not a node, if one is not; the first part has this number
abbrev pub parts_reason : ℕ → List (List ℕ) → Option (List ℕ)
parts_reason number [] = None
parts_reason number (part ∷ parts) = option_or (option_map (numbered number) (node_reason (words_of part))) (parts_reason (number + 1) parts)

-- why a text is not a list of nodes, if it is not: nodes are numbered from 1
abbrev pub syntax_reason : List ℕ → Option (List ℕ)
syntax_reason text = parts_reason 1 (slice_split (λ b. b == 59) text)

-- the same of a line, whose text after the first word is the script
abbrev pub script_reason_after : List ℕ → List (List ℕ) → Option (List ℕ)
script_reason_after text [] = None
script_reason_after text (word ∷ words) = syntax_reason text

abbrev pub line_syntax_reason : List ℕ → Option (List ℕ)
line_syntax_reason line = script_reason_after (after_word line) (words_of line)
