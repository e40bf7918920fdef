-- Lists with one element for each path of `--sources`.
use Rattle.std.proofs.Common.{◌≡◌, ℕ, zero, suc, ◌+◌, ◌<◌, List, [], ◌∷◌, ◌++◌, length, take, refl, sym, subst, arith}
use Rattle.std.specs.Prelude.{Contains, slice_index_or}
use Rattle.std.specs.Borrow.{Bor}
use Rattle.std.proofs.lemmas.List.{map_more}
use Rattle.std.proofs.lemmas.List.Elements.{AllZip-push}
use Rattle.serve_arguments.specs.CommandLines.{names_of}
use Rattle.command_lines.specs.Readings.{IsPathFault}
use Rattle.command_lines.specs.declared.fault.FileFault.{FileFault}
use Rattle.command_lines.specs.declared.fault.FileFault.TheVariants.{CannotRead, TooLong, Tables, NoMemory}
use Rattle.serve_arguments.specs.Readings.{AreNamed, AreUnread, Contents, IsNamed}

-- the bytes of one more source
pub named_more : (contents : Contents) (first : List ℕ) (more : List (Bor (List ℕ))) (n : ℕ) (d : Bor (List ℕ)) (sources : List (List ℕ)) (bytes : List ℕ) → n < length more → AreNamed contents (first ∷ names_of (take n more)) sources → IsNamed contents (slice_index_or more n d).now bytes → AreNamed contents (first ∷ names_of (take (n + 1) more)) (sources ++ bytes ∷ [])
named_more contents first more n d sources bytes within named is =
    subst (λ (names : List (List ℕ)). AreNamed contents (first ∷ names) (sources ++ bytes ∷ [])) (sym (map_more (λ (path : Bor (List ℕ)). path.now) more n d within))
    (AllZip-push (IsNamed contents) (first ∷ names_of (take n more)) sources (slice_index_or more n d).now bytes named is)

-- a path is the name of a source
pub named_at : (first : List ℕ) (more : List (Bor (List ℕ))) (n : ℕ) (d : Bor (List ℕ)) → n < length more → Contains (first ∷ names_of more) (slice_index_or more n d).now
named_at first [] n d within = absurd (omega (arith, within))
named_at first (path ∷ more) zero d within = (1, omega arith, refl)
named_at first (path ∷ more) (suc n) d within =
    let later : Contains (path.now ∷ names_of more) (slice_index_or more n d).now = named_at path.now more n d (omega (arith, within)) in
    (suc later.0, omega (arith, later.1), later.2)

pub named_first : (first : List ℕ) (more : List (Bor (List ℕ))) → Contains (first ∷ names_of more) first
named_first first more = (0, omega arith, refl)

-- why a source was not read
pub source_unread : (contents : Contents) (names : List (List ℕ)) (name : List ℕ) (fault : FileFault) → Contains names name → IsPathFault contents.known name fault → AreUnread contents names fault
source_unread contents names name (CannotRead path) is why = (subst (Contains names) (sym why.0) is, why.1)
source_unread contents names name (TooLong path) is why = (subst (Contains names) (sym why.0) is, why.1)
source_unread contents names name Tables is why = absurd why
source_unread contents names name NoMemory is why = tt
