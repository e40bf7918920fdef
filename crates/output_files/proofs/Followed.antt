-- Links, one after another.
use Rattle.std.proofs.Common.{◌≡◌, ◌∙◌, ℕ, Bool, true, List, [], ◌∷◌, ◌++◌, Option, Some, None, refl, subst}
use Rattle.std.specs.Prelude.{IfSome, MatchBool, codes, nat_eq}
use Rattle.std.specs.List.{starts_with}
use Rattle.output_files.specs.Links.{IsFolderIn, IsFollowed, IsLedTo, IsLinkSaid, KnownLinks, Leads}

module _ (known : KnownLinks) where
  leads_more : (path : List ℕ) (links : List (List ℕ)) (mid link to : List ℕ) → Leads known path links mid → IsLinkSaid known mid (Some link) → IsLedTo mid link to → Leads known path (links ++ link ∷ []) to
  leads_more path [] mid link to same said led = (subst (λ (from : List ℕ). IsLinkSaid known from (Some link)) same said, to, subst (λ (from : List ℕ). IsLedTo from link to) same led, refl)
  leads_more path (first ∷ links) mid link to leads said led = (leads.0, leads.1, leads.2, leads_more leads.1 links mid link to leads.3 said led)

  -- a path leads to another one by some links, which are there
  abbrev pub IsOnTheWay : (path to : List ℕ) → Type 0
  IsOnTheWay path to = (links : List (List ℕ)) × Leads known path links to

  -- one more link is followed
  pub followed_more : (path mid link to : List ℕ) → IsOnTheWay path mid → IsLinkSaid known mid (Some link) → IsLedTo mid link to → IsOnTheWay path to
  followed_more path mid link to way said led = (way.0 ++ link ∷ [], leads_more path way.0 mid link to way.1 said led)

  -- no link is followed
  pub followed_none : (path to : List ℕ) → to ≡ path → IsOnTheWay path to
  followed_none path to same = ([], same)

  -- no link is left
  pub followed_whole : (path to : List ℕ) → IsOnTheWay path to → IsLinkSaid known to None → IsFollowed known path to
  followed_whole path to way said = record { links = way.0; leads = way.1; last = said }

-- ---- where all is known

module _ (known : KnownLinks) where
  -- no link is at a path where one is said to be
  said_none : {P : Type 0} (path link : List ℕ) → known path ≡ Some None → IsLinkSaid known path (Some link) → P
  said_none path link is said =
      let wrong : Some link ≡ None = subst (λ (there : Option (Option (List ℕ))). IfSome there (λ found. Some link ≡ found)) is said in
      absurd (cc)

  said_some : {P : Type 0} (path link : List ℕ) → known path ≡ Some (Some link) → IsLinkSaid known path None → P
  said_some path link is said =
      let wrong : None ≡ Some link = subst (λ (there : Option (Option (List ℕ))). IfSome there (λ found. None ≡ found)) is said in
      absurd (cc)

  said_one : (path link other : List ℕ) → known path ≡ Some (Some link) → IsLinkSaid known path (Some other) → other ≡ link
  said_one path link other is said =
      let same : Some other ≡ Some link = subst (λ (there : Option (Option (List ℕ))). IfSome there (λ found. Some other ≡ found)) is said in
      cc

  pub no_link : (path to : List ℕ) → known path ≡ Some None → IsFollowed known path to → to ≡ path
  no_link path to is followed = by followed.links followed.leads
    where
      by : (links : List (List ℕ)) → Leads known path links to → to ≡ path
      by [] leads = leads
      by (link ∷ links) leads = said_none path link is leads.0

  pub one_absolute : (path link to : List ℕ) → known path ≡ Some (Some link) → starts_with nat_eq link (codes "/") ≡ true → known link ≡ Some None → IsFollowed known path to → to ≡ link
  one_absolute path link to is absolute last followed = by followed.links followed.leads
    where
      led : (next : List ℕ) → IsLedTo path link next → next ≡ link
      led next leads = subst (λ (b : Bool). MatchBool b (next ≡ link) ((folder : List ℕ) × IsFolderIn path folder × (next ≡ folder ++ link))) absolute leads

      after : (next : List ℕ) (links : List (List ℕ)) → next ≡ link → Leads known next links to → to ≡ link
      after next [] at leads = leads ∙ at
      after next (other ∷ links) at leads = said_none link other last (subst (λ (from : List ℕ). IsLinkSaid known from (Some other)) at leads.0)

      by : (links : List (List ℕ)) → Leads known path links to → to ≡ link
      by [] leads = said_some path link is (subst (λ (from : List ℕ). IsLinkSaid known from None) leads followed.last)
      by (other ∷ links) leads =
          let first : other ≡ link = said_one path link other is leads.0 in
          after leads.1 links (led leads.1 (subst (λ (text : List ℕ). IsLedTo path text leads.1) first leads.2)) leads.3
