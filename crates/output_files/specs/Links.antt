-- Where links lead.
use Rattle.std.specs.Prelude.{◌≡◌, nat_eq, List, ℕ, [], ◌∷◌, ◌++◌, MatchBool, IfSome, Option, Some, None, codes}
use Rattle.std.specs.List.{starts_with}
use Rattle.output_files.specs.Places.{IsFolderPart, IsName}

-- the folder of a path, with its last `/`: nothing for a bare name
abbrev pub IsFolderIn : (path folder : List ℕ) → Type 0
IsFolderIn path folder = (name : List ℕ) × (folder ++ name ≡ path) × IsFolderPart folder × IsName name

-- a link with this text at a path leads to another path: to the text if it is absolute, else to the text in the folder of the path
abbrev pub IsLedTo : (path link to : List ℕ) → Type 0
IsLedTo path link to = MatchBool (starts_with nat_eq link (codes "/")) (to ≡ link) ((folder : List ℕ) × IsFolderIn path folder × (to ≡ folder ++ link))

-- what is known of the links at paths: to which text a path is one, or that none is there
abbrev pub KnownLinks : Type 0
KnownLinks = List ℕ → Option (Option (List ℕ))

-- the system says this of a path, where that is known
abbrev pub IsLinkSaid : KnownLinks → (path : List ℕ) → Option (List ℕ) → Type 0
IsLinkSaid known path link = IfSome (known path) (λ there. link ≡ there)

-- a path leads to another one by these links, the first one first, each of which is there
abbrev pub Leads : KnownLinks → (path : List ℕ) → (links : List (List ℕ)) → (to : List ℕ) → Type 0
Leads known path [] to = to ≡ path
Leads known path (link ∷ links) to = IsLinkSaid known path (Some link) × (next : List ℕ) × IsLedTo path link next × Leads known next links to

-- a path leads to another one by the links that are there, at which there is none
pub record IsFollowed (known : KnownLinks) (path to : List ℕ) : Type 0 where
  pub links : List (List ℕ)
  pub leads : Leads known path links to
  pub last : IsLinkSaid known to None
