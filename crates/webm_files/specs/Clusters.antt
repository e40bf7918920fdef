-- Clusters whose time is not in the file.
use Rattle.std.specs.Prelude.{ℕ, ◌==◌, ◌&&◌, ◌||◌, Bool, false, if◌then◌else◌, List, [], ◌∷◌, ◌++◌, option_to_list, Option, Some, None}
use Rattle.std.specs.List.{find}
use Rattle.webm_files.specs.declared.ids.TheConstants.{CLUSTER, TIMESTAMP}
use Rattle.webm_files.specs.declared.elements.Element.{Element}
use Rattle.webm_files.specs.Elements.{is_block}

-- the first of these after a cluster decides whether its blocks have its time
abbrev pub decides_time : Element → Bool
decides_time element = element.id == CLUSTER || (element.id == TIMESTAMP || is_block element.id)

-- the element is a block
abbrev pub is_some_block : Option Element → Bool
is_some_block None = false
is_some_block (Some element) = is_block element.id

-- of a cluster before these elements a block comes before a time: so it has that of the cluster before, or 0
abbrev pub lacks_time : List Element → Bool
lacks_time elements = is_some_block (find decides_time elements)

-- where such clusters begin
abbrev pub timeless_of : List Element → List ℕ
timeless_of [] = []
timeless_of (element ∷ elements) = (if element.id == CLUSTER && lacks_time elements then element.place ∷ [] else []) ++ timeless_of elements

-- where the cluster begins whose time may come after an element, if it began there before
abbrev pub waits_after : Option ℕ → Element → Option ℕ
waits_after waits element =
    if element.id == CLUSTER then Some element.place
    else if element.id == TIMESTAMP || is_block element.id then None
    else waits

-- what an element adds to them
abbrev pub timeless_at : Option ℕ → Element → List ℕ
timeless_at waits element = if is_block element.id then option_to_list waits else []
